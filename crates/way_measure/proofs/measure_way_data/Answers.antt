use Rattle.format.specs.WayData.{way_data}
use Rattle.way_measure.proofs.MeasureLaws.{over-data}
use Rattle.way_measure.proofs.measure_way_data.Goals as goal

pub loop-init : goal.loop-init
unfolding way_data
loop-init c = search over-data

pub returns-in_err-sizes : goal.returns-in_err-sizes
unfolding way_data
returns-in_err-sizes c = search over-data

pub overflow_add-blocks : goal.overflow_add-blocks
unfolding way_data
overflow_add-blocks c = search over-data

pub overflow_add-nodes : goal.overflow_add-nodes
unfolding way_data
overflow_add-nodes c = search over-data

pub loop-preserved : goal.loop-preserved
unfolding way_data
loop-preserved c = search over-data

pub returns : goal.returns
unfolding way_data
returns c = search over-data
