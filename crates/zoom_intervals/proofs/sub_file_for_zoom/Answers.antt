use Rattle.zoom_intervals.proofs.RowLaws.{rows}
use Rattle.zoom_intervals.proofs.sub_file_for_zoom.Goals as goal

pub loop-i-init : goal.loop-i-init
loop-i-init c = search rows

pub returns-in_err-interval : goal.returns-in_err-interval
returns-in_err-interval c = search rows

pub returns-then-holds_zoom : goal.returns-then-holds_zoom
returns-then-holds_zoom c = search rows

pub loop-i-preserved : goal.loop-i-preserved
loop-i-preserved c = search rows

pub returns : goal.returns
returns c = search rows
