-- The features of a Mapsforge tile as a format: the definitions of crate format, which the functions' contracts cite, put together for the machines.
use Rattle.std.specs.Prelude.{ℕ, Bool, ◌&&◌, List}
use Rattle.format.specs.Tile as tile
use Rattle.format.specs.BodyLists.{body_lists}
use Rattle.tag.specs.declared.Kind.{Kind}
use Rattle.agreement.specs.Format.{Format}

-- what the end says: the sub file, the tile's water mark, and whether every number of the tile's head and of what was read of its
-- features was plain
pub record TileEnd : Type 0 where
  pub sub_file : ℕ
  pub water : Bool
  pub plain : Bool

-- with what was said of a feature
abbrev pub note_plain : Bool → TileEnd → TileEnd
note_plain p z = record { sub_file = z.sub_file; water = z.water; plain = z.plain && p }

abbrev pub note_body : tile.Body → TileEnd → TileEnd
note_body b z = note_plain b.plain z

-- where no feature was read
abbrev pub tile_end : (sub_file : ℕ) → (water : Bool) → tile.TileHead → TileEnd
tile_end s w h = record { sub_file = s; water = w; plain = h.plain }

-- accept says whether the whole way was plain, by what its head said
abbrev pub whole_body : Bool → tile.Body → tile.Body
whole_body head b = record { fields = b.fields; data_blocks = b.data_blocks; plain = head && b.plain }

-- by the debug flag and the kinds of the point and way tags' inline values
abbrev pub tile_format : Bool → List Kind → List Kind → Format
tile_format debug poi_kinds way_kinds = record {
  Point = tile.Point;
  Head = tile.Head;
  Body = tile.Body;
  End = TileEnd;
  point = tile.point debug poi_kinds;
  head = tile.head debug way_kinds;
  start = λ h. h.start;
  size = λ h. h.size;
  behind = λ h. h.behind;
  body = tile.body;
  lists = body_lists;
  plain_point = λ p. p.plain;
  plain_head = λ h. h.plain;
  plain_body = λ b. b.plain;
  Kept = Bool;
  kept = λ h. h.plain;
  whole = whole_body;
  note_point = λ p z. note_plain p.plain z;
  note_head = λ h z. note_plain h.plain z;
  note_body = note_body;
}
