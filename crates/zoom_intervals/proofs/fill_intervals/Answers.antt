use Rattle.zoom_intervals.specs.Intervals.{filled}
use Rattle.zoom_intervals.proofs.IntervalLaws.{fills}
use Rattle.zoom_intervals.proofs.fill_intervals.Goals as goal

pub loop-i-init : goal.loop-i-init
unfolding filled
loop-i-init c = search fills

pub returns-in_err-one : goal.returns-in_err-one
unfolding filled
returns-in_err-one c = search fills

pub loop-i-preserved : goal.loop-i-preserved
unfolding filled
loop-i-preserved c = search fills

pub returns : goal.returns
unfolding filled
returns c = search fills
