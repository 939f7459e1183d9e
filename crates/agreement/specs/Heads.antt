-- What demand 3 supposes of a tile's head, which is read once, when a stream is opened and when a tile is collected. Its value is that of
-- the format document (signature, zoom table, first-way offset); how it is read may differ from tile to tile.
use Rattle.std.specs.Prelude.{◌≡◌, List, ℕ, ◌+◌, ◌<◌, take}
use Rattle.parsing.specs.Parse.{ok, Parser}
use Rattle.format.specs.Tile.{Row, TileHead}
use Rattle.format.specs.Rows.{points_of, ways_of}

-- how many points and ways the first rows of a zoom table count
abbrev pub points_up_to : List Row → (rows : ℕ) → ℕ
points_up_to table rows = points_of (take rows table)

abbrev pub ways_up_to : List Row → (rows : ℕ) → ℕ
ways_up_to table rows = ways_of (take rows table)

-- a head that counts a feature has at least one byte; so a count that code had to cut is never met. (Demand 3 does not ask for it.)
pub record HeadCounts (tile_head : Parser TileHead) : Type 0 where
  pub passes : (m : List ℕ) (i : ℕ) (h : TileHead) (e : ℕ) → tile_head m i ≡ ok h e → 0 < points_of h.table + ways_of h.table → i < e
