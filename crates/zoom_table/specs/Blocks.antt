-- A zoom table as it is handed out, and its sums (document 01, blocks.rs), from what is stored.
use Rattle.std.specs.Prelude.{ℕ, ◌+◌, ◌≤◌, ◌<◌, Bool, true, false, List, map as mapped, length, take, replicate, get_or}
use Rattle.arithmetic.specs.Cut.{cut}
use Rattle.utils.specs.Vbe.{Noted, noted, values_of, all_plain}
use Rattle.format.specs.Lent.{front}
use Rattle.format.specs.Tile.{Row}
use Rattle.format.specs.Rows.{rows_upto, points_of, ways_of}
use Rattle.zoom_table.specs.declared.ZoomRow.{ZoomRow}
use Rattle.zoom_table.specs.declared.ZoomTable.{ZoomTable}
use Rattle.zoom_table.specs.declared.Sums.{Sums}

abbrev pub zoom_row : Row → ZoomRow
zoom_row r = record { points = r.points; ways = r.ways }

-- and back
abbrev pub stored_row : ZoomRow → Row
stored_row r = record { points = r.points; ways = r.ways }

abbrev pub empty_row : ZoomRow
empty_row = record { points = 0; ways = 0 }

-- the rows from the front, zeros behind them
unfoldable pub filled_rows : List Row → List ZoomRow
filled_rows l = front (mapped zoom_row l) (replicate 256 empty_row)

abbrev pub rows_of : List Row → ZoomTable
rows_of l = record { rows = filled_rows l; count = length l }

-- of an interval's table, the sums up to a zoom and of all rows, each cut at 2 ^ 64 - 1
abbrev pub zoom_sums : ℕ → ℕ → ℕ → List Row → Sums
zoom_sums low high zoom rows = record {
  points = cut (points_of (take (rows_upto low high zoom) rows));
  ways = cut (ways_of (take (rows_upto low high zoom) rows));
  all_points = cut (points_of rows);
  all_ways = cut (ways_of rows);
}

-- with what is said of the numbers of all rows, also of those above the zoom
abbrev pub noted_sums : ℕ → ℕ → ℕ → List (Noted Row) → Noted Sums
noted_sums low high zoom rows = noted (zoom_sums low high zoom (values_of rows)) (all_plain rows)

-- the sums on the way
abbrev pub sum_of : List (Noted Row) → Noted ZoomRow
sum_of rows = noted (record { points = cut (points_of (values_of rows)); ways = cut (ways_of (values_of rows)) }) (all_plain rows)

-- Of private functions, which need not be believed: a row whose numbers have one byte each
abbrev pub IfShort : Bool → Type 0 → Type 0
IfShort true A = A
IfShort false A = Unit {0}

pub record ShortRow (m : List ℕ) (at : ℕ) : Type 0 where
  pub inside : at + 2 ≤ length m
  pub points : get_or m at 0 < 128
  pub ways : get_or m (at + 1) 0 < 128
