use Rattle.way_measure.proofs.MeasureLaws.{over-nodes}
use Rattle.way_measure.proofs.measure_nodes.Goals as goal

pub loop-init : goal.loop-init
loop-init c = search over-nodes

pub returns-in_err-node : goal.returns-in_err-node
returns-in_err-node c = search over-nodes

pub loop-preserved : goal.loop-preserved
loop-preserved c = search over-nodes

pub returns : goal.returns
returns c = search over-nodes
