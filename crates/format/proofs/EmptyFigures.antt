-- Small examples of tiles that their index marks empty (request 5 of document 02).
use Prim.Native.Nat.{ℕ}
use mathlib.Core.Path.{◌≡◌, refl}
use mathlib.Core.Bool.{Bool, true, false}
use mathlib.Core.List.{List, [], ◌∷◌}
use lib.IntN.{pos}
use Rattle.parsing.specs.Parse.{Res, ok, no, map_res, none, some}
use Rattle.byte_source.specs.BigEndian.{big_endian_of, big_endian}
use Rattle.format.specs.Header.{Interval}
use Rattle.format.specs.Index.{answer, Grid, grid_tiles, entry, next_offset, Located, located_entry, located, locate_in, locate, tile_at}
use Rattle.format.specs.Rows.{marked_head}

-- three tiles beside each other, in a sub file of 30 bytes at the map's start, of the levels from low to high
abbrev row : Grid
row = record { x_min = pos 0; y_min = pos 0; x_max = pos 2; y_max = pos 0 }

abbrev levels : (low high : ℕ) → Interval
levels low high = record { base = 0; min = low; max = high; start = 0; size = 30 }

-- its index: tile 0 at 20, tile 1 at 20 with water, tile 2 at the sub file's end
abbrev index : List ℕ
index = 0x00 ∷ 0x00 ∷ 0x00 ∷ 0x00 ∷ 0x14 ∷ 0x80 ∷ 0x00 ∷ 0x00 ∷ 0x00 ∷ 0x14 ∷ 0x00 ∷ 0x00 ∷ 0x00 ∷ 0x00 ∷ 0x1E ∷ []

-- the first seven bytes of it
abbrev short : List ℕ
short = 0x00 ∷ 0x00 ∷ 0x00 ∷ 0x00 ∷ 0x14 ∷ 0x80 ∷ 0x00 ∷ []

-- whether a tile is marked empty, its water mark, and where it starts
pub record Mark : Type 0 where
  pub empty : Bool
  pub water : Bool
  pub start : ℕ

abbrev pub mark : Located → Mark
mark l = record { empty = l.empty; water = l.entry.water; start = tile_at l }

abbrev marked : List ℕ → (low high tile : ℕ) → Res Mark
marked m low high tile = map_res mark (locate false (some (levels low high)) row tile m)

-- the next entry has the same offset, and water of its own
tile-0 : marked index 8 9 0 ≡ answer (record { empty = true; water = false; start = 0 })
unfolding locate locate_in located located_entry next_offset entry grid_tiles big_endian big_endian_of
tile-0 = refl

tile-1 : marked index 8 9 1 ≡ answer (record { empty = false; water = true; start = 20 })
unfolding locate locate_in located located_entry next_offset entry grid_tiles big_endian big_endian_of
tile-1 = refl

-- the last tile: its offset is the sub file's size, and the map ends behind its entry
tile-2 : marked index 8 9 2 ≡ answer (record { empty = true; water = false; start = 0 })
unfolding locate locate_in located located_entry next_offset entry grid_tiles big_endian big_endian_of
tile-2 = refl

-- the next entry is cut off: 19, by its own place; so it is for a tile that is not empty, and before 13
cut_off : marked short 9 8 0 ≡ no 19 (5 ∷ [])
unfolding locate locate_in located located_entry next_offset entry grid_tiles big_endian big_endian_of
cut_off = refl

-- a reversed interval is refused though the tile is marked empty
reversed : marked index 9 8 0 ≡ no 13 []
unfolding locate locate_in located located_entry next_offset entry grid_tiles big_endian big_endian_of
reversed = refl

-- an empty tile has a zero row for each level, and no signature in a debug map
no_bytes : marked_head true true 2 [] 0 ≡ ok (record { signature = none; table = record { points = 0; ways = 0 } ∷ record { points = 0; ways = 0 } ∷ []; offset = 0; plain = true }) 0
unfolding marked_head
no_bytes = refl
