use Rattle.format.specs.WayData.{block}
use Rattle.way_measure.proofs.MeasureLaws.{measures}
use Rattle.way_measure.proofs.measure_block.Goals as goal

pub returns-in_err-n : goal.returns-in_err-n
unfolding block
returns-in_err-n c = search measures

pub returns-then-n-gt1048576 : goal.returns-then-n-gt1048576
unfolding block
returns-then-n-gt1048576 c = search measures

pub returns-in_default : goal.returns-in_default
unfolding block
returns-in_default c = search measures

pub returns : goal.returns
unfolding block
returns c = search measures
