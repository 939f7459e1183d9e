use Rattle.format.specs.WayData.{data_block}
use Rattle.way_measure.proofs.MeasureLaws.{measures}
use Rattle.way_measure.proofs.measure_data_block.Goals as goal

pub returns-in_err-n : goal.returns-in_err-n
unfolding data_block
returns-in_err-n c = search measures

pub returns : goal.returns
unfolding data_block
returns c = search measures
