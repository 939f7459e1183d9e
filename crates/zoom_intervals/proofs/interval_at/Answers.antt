use Rattle.format.specs.IntervalTable.{row_at}
use Rattle.zoom_intervals.proofs.RowLaws.{rows}
use Rattle.zoom_intervals.proofs.interval_at.Goals as goal

pub returns-then-table-k : goal.returns-then-table-k
unfolding row_at
returns-then-table-k c = search rows

pub returns-in_err-interval : goal.returns-in_err-interval
unfolding row_at
returns-in_err-interval c = search rows

pub returns : goal.returns
unfolding row_at
returns c = search rows
