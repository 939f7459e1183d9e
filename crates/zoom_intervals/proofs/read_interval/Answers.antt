use Rattle.zoom_intervals.proofs.RowLaws.{rows}
use Rattle.zoom_intervals.proofs.read_interval.Goals as goal

pub returns-then-map-at : goal.returns-then-map-at
returns-then-map-at c = search rows

pub returns-then-map-at-lt19 : goal.returns-then-map-at-lt19
returns-then-map-at-lt19 c = search rows
