use Rattle.column.proofs.ColumnLaws.{columns}
use Rattle.column.proofs.tile_column.Goals as goal

pub returns-then-zoom-gt-MAX_ZOOM : goal.returns-then-zoom-gt-MAX_ZOOM
returns-then-zoom-gt-MAX_ZOOM c = search columns

pub returns : goal.returns
returns c = search columns
