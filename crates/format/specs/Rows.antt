-- The rows of a zoom table: format document, "Tile header" ("zoom table"); document 01, blocks.rs, refusal 13, and "The stream and the
-- collected tile" ("Zoom is clamped into the interval; rows up to it count").
use Rattle.std.specs.Prelude.{ℕ, suc, ◌-◌, max, min, Bool, true, List, [], leb, replicate}
use Rattle.parsing.specs.Parse.{Parser, return, fail, pick, many, none}
use Rattle.parsing.specs.Good.{Good, total}
use Rattle.parsing.proofs.GoodLaws.{goods}
use Rattle.utils.specs.Vbe.{Noted}
use Rattle.format.specs.Tile.{Row, row, zoom_table, zoom_table-good, TileHead, tile_head, tile_head-good}
use Rattle.format.specs.Index.{Located}

-- a row for each level from low to high
abbrev pub rows_of_interval : ℕ → ℕ → ℕ
rows_of_interval low high = suc (high - low)

-- with 1 for a map that ends in it, as numbers are read; the table itself has 20
unfoldable pub numbers_of_table : ℕ → ℕ → Parser (List (Noted Row))
numbers_of_table low high = pick (leb low high) (many row (rows_of_interval low high)) (fail 13 [])

unfoldable pub interval_table : ℕ → ℕ → Parser (List (Noted Row))
interval_table low high = pick (leb low high) (zoom_table (rows_of_interval low high)) (fail 13 [])

-- a tile that its index marks empty has no bytes, not even a signature (request 5 of document 02): it counts nothing, its first-way
-- offset is 0, and it has no number that is not plain
abbrev pub empty_head : (rows : ℕ) → TileHead
empty_head rows = record { signature = none; table = replicate rows (record { points = 0; ways = 0 }); offset = 0; plain = true }

unfoldable pub marked_head : (empty debug : Bool) → (rows : ℕ) → Parser TileHead
marked_head empty debug rows = pick empty (return (empty_head rows)) (tile_head debug rows)

-- the head of a tile that was located
abbrev pub located_head : (debug : Bool) → Located → Parser TileHead
located_head debug l = marked_head l.empty debug (rows_of_interval l.interval.min l.interval.max)

-- the head of a tile of these levels; a reversed interval is refused before any byte is read
unfoldable pub interval_head : (empty debug : Bool) → ℕ → ℕ → Parser TileHead
interval_head empty debug low high = pick (leb low high) (marked_head empty debug (rows_of_interval low high)) (fail 13 [])

-- how many rows count at a zoom
abbrev pub rows_upto : ℕ → ℕ → ℕ → ℕ
rows_upto low high zoom = suc (max low (min zoom high) - low)

-- the points and the ways of these rows
abbrev pub points_of : List Row → ℕ
points_of rows = total (λ r. r.points) rows

abbrev pub ways_of : List Row → ℕ
ways_of rows = total (λ r. r.ways) rows

-- the laws
pub interval_table-good : (low high : ℕ) → Good (interval_table low high)
unfolding interval_table
interval_table-good low high = search (goods, zoom_table-good)

pub marked_head-good : (empty debug : Bool) (rows : ℕ) → Good (marked_head empty debug rows)
unfolding marked_head
marked_head-good empty debug rows = search (goods, tile_head-good)
