use Rattle.format.specs.Header.{intervals}
use Rattle.zoom_intervals.proofs.RowLaws.{rows}
use Rattle.zoom_intervals.proofs.pass_intervals.Goals as goal

pub returns-in_err-count : goal.returns-in_err-count
unfolding intervals
returns-in_err-count c = search rows

pub returns-in_err-next : goal.returns-in_err-next
unfolding intervals
returns-in_err-next c = search rows

pub returns : goal.returns
unfolding intervals
returns c = search rows
