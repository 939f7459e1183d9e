use Rattle.zoom_intervals.proofs.RowLaws.{rows, number-lost}
use Rattle.zoom_intervals.proofs.number_at.Goals as goal

pub returns-in-Ok : goal.returns-in-Ok
returns-in-Ok c = search rows

pub returns-in-Err : goal.returns-in-Err
returns-in-Err c = number-lost _ _ _ c.requires _ c.in-Err.ensures
