use Rattle.way_measure.proofs.MeasureLaws.{over-blocks}
use Rattle.way_measure.proofs.measure_blocks.Goals as goal

pub loop-init : goal.loop-init
loop-init c = search over-blocks

pub returns-in_err-count : goal.returns-in_err-count
returns-in_err-count c = search over-blocks

pub overflow_add-nodes : goal.overflow_add-nodes
overflow_add-nodes c = search over-blocks

pub loop-preserved : goal.loop-preserved
loop-preserved c = search over-blocks

pub returns : goal.returns
returns c = search over-blocks
