use Rattle.zoom_intervals.proofs.RowLaws.{rows}
use Rattle.zoom_intervals.proofs.row.Goals as goal

pub returns : goal.returns
returns c = search rows
