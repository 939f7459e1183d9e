-- Sub files, their grids, and the tile index, from the format document, "Tile index entry", and document 01, tile.rs, visit.rs and
-- "Order for a tile".
use Rattle.std.specs.Prelude.{ℕ, zero, suc, ◌+◌, ◌*◌, ◌-◌, ◌%◌, ◌^◌, Bool, true, false, cond, ◌&&◌, List, [], ◌∷◌, leb, ltb, eqb, ℤ, nat_abs, ◌-ℤ◌}
use Rattle.std.specs.Int.Signed.{le_z}
use Rattle.parsing.specs.Parse.{Res, ok, no, Parser, and_then, map_res, ◌>>=◌, return, fail, pick, Maybe, none, some}
use Rattle.parsing.specs.Good.{Good}
use Rattle.parsing.proofs.GoodLaws.{goods}
use Rattle.byte_source.specs.BigEndian.{big_endian, bytes}
use Rattle.format.specs.Header.{Interval, between}
use Rattle.format.specs.CutOff.{of_index}

-- a result that no read goes on from: it has no next place, and 0 stands there
abbrev pub answer : {A : Type 0} → A → Res A
answer a = ok a 0

-- a result without its next place
abbrev pub answered : {A : Type 0} → Res A → Res A
answered r = and_then r (λ a _. answer a)

-- what is asked of a sub file by its interval, or the answer for a missing one
abbrev pub in_sub_file : {A : Type 0} → Maybe Interval → Res A → (Interval → Res A) → Res A
in_sub_file none r f = r
in_sub_file (some z) r f = f z

-- the first interval that holds the zoom; none exactly if no interval holds it
abbrev pub holds_zoom : Interval → ℕ → Bool
holds_zoom z zoom = leb z.min zoom && leb zoom z.max

abbrev pub sub_file_from : ℕ → List Interval → ℕ → Maybe ℕ
sub_file_from k [] zoom = none
sub_file_from k (z ∷ zs) zoom = cond (holds_zoom z zoom) (some k) (sub_file_from (k + 1) zs zoom)

abbrev pub sub_file_for_zoom : List Interval → ℕ → Maybe ℕ
sub_file_for_zoom zs zoom = sub_file_from 0 zs zoom

-- the tiles that the host gives a sub file; both ends are included
pub record Grid : Type 0 where
  pub x_min : ℤ
  pub y_min : ℤ
  pub x_max : ℤ
  pub y_max : ℤ

-- from low to high, both included; 0 if they are reversed
abbrev pub width : ℤ → ℤ → ℕ
width low high = cond (le_z low high) (nat_abs (high -ℤ low) + 1) 0

abbrev pub tiles_of : Grid → ℕ
tiles_of g = width g.x_min g.x_max * width g.y_min g.y_max

-- not reversed, and at most 2 ^ 32 - 1 tiles
abbrev pub good_grid : Grid → Bool
good_grid g = le_z g.x_min g.x_max && le_z g.y_min g.y_max && leb (tiles_of g) (2 ^ 32 - 1)

-- the number of a grid's tiles, or 14
unfoldable pub grid_tiles : Grid → Res ℕ
grid_tiles g = cond (good_grid g) (answer (tiles_of g)) (no 14 [])

-- none for a missing sub file, then 14 for a bad grid
unfoldable pub tile_count : Maybe Interval → Grid → Res (Maybe ℕ)
tile_count i g = in_sub_file i (answer none) (λ z. map_res some (grid_tiles g))

abbrev pub in_grid : Grid → ℤ → ℤ → Bool
in_grid g x y = between g.x_min g.x_max x && between g.y_min g.y_max y

-- row by row, and within a row column by column
abbrev pub row_major : Grid → ℤ → ℤ → ℕ
row_major g x y = nat_abs (y -ℤ g.y_min) * width g.x_min g.x_max + nat_abs (x -ℤ g.x_min)

abbrev pub index_in : Grid → ℤ → ℤ → Maybe ℕ
index_in g x y = cond (in_grid g x y) (some (row_major g x y)) none

-- 14 for a bad grid, then none outside it
unfoldable pub grid_index : Grid → ℤ → ℤ → Res (Maybe ℕ)
grid_index g x y = and_then (grid_tiles g) (λ _ _. answer (index_in g x y))

-- none for a missing sub file first
unfoldable pub tile_index_of : Maybe Interval → Grid → ℤ → ℤ → Res (Maybe ℕ)
tile_index_of i g x y = in_sub_file i (answer none) (λ z. grid_index g x y)

-- 5 bytes: the top bit is water, the other 39 bits are the tile's offset in the sub file
pub record Entry : Type 0 where
  pub water : Bool
  pub offset : ℕ
  pub absolute : ℕ

unfoldable pub entry : ℕ → Parser Entry
entry start = do
  n ← of_index (big_endian 5)
  return (record { water = leb (2 ^ 39) n; offset = n % 2 ^ 39; absolute = start + n % 2 ^ 39 })

-- the entries stand at the sub file's start, in debug maps behind its signature
abbrev pub entry_at : Bool → ℕ → ℕ → ℕ
entry_at d start tile = start + cond d 16 0 + 5 * tile

-- grid (14), tile (8), then what is read of the tile, by the number of the grid's tiles
abbrev pub of_tile : {A : Type 0} → Grid → (tile : ℕ) → ((tiles : ℕ) → Parser A) → Parser A
of_tile g tile p m i = and_then (grid_tiles g) (λ n _. cond (ltb tile n) (p n m i) (no 8 []))

-- grid (14), tile (8), entry (19), in the sub file with this start; d is the debug flag
unfoldable pub entry_asked : Bool → ℕ → Grid → ℕ → List ℕ → Res Entry
entry_asked d start g tile m = of_tile g tile (λ _. entry start) m (entry_at d start tile)

-- sub file (8) first
unfoldable pub tile_index_entry : Bool → Maybe Interval → Grid → ℕ → List ℕ → Res Entry
tile_index_entry d i g tile m = in_sub_file i (no 8 []) (λ z. entry_asked d z.start g tile m)

-- Where the next tile starts, from the sub file's start (request 5 of document 02): its entry stands right behind the tile's own. For
-- the last tile it is the sub file's size, and no next entry is read.
unfoldable pub next_offset : Interval → (last : Bool) → Parser ℕ
next_offset z last =
    pick last (return z.size) (do
      e ← entry z.start
      return e.offset)

-- a tile's interval and entry; it is marked empty if the next tile has the same offset, whatever the two water bits are
pub record Located : Type 0 where
  pub interval : Interval
  pub entry : Entry
  pub empty : Bool

-- the tile's entry (19), the next one (19), and last the interval (13)
unfoldable pub located_entry : Interval → (last : Bool) → Parser Located
located_entry z last = do
  e ← entry z.start
  n ← next_offset z last
  pick (leb z.min z.max) (return (record { interval = z; entry = e; empty = eqb e.offset n })) (fail 13 [])

-- grid (14) and tile (8) first
unfoldable pub located : Grid → (tile : ℕ) → Interval → Parser Located
located g tile z = of_tile g tile (λ n. located_entry z (eqb (tile + 1) n))

unfoldable pub locate_in : Bool → Interval → Grid → ℕ → List ℕ → Res Located
locate_in d z g tile m = answered (located g tile z m (entry_at d z.start tile))

-- sub file (8) first
unfoldable pub locate : Bool → Maybe Interval → Grid → ℕ → List ℕ → Res Located
locate d i g tile m = in_sub_file i (no 8 []) (λ z. locate_in d z g tile m)

-- the tile's first byte; an empty tile has none, and 0 stands there
abbrev pub tile_at : Located → ℕ
tile_at l = cond l.empty 0 l.entry.absolute

-- the laws
pub entry-good : (start : ℕ) → Good (entry start)
unfolding entry
entry-good start = search bytes

pub next_offset-good : (z : Interval) (last : Bool) → Good (next_offset z last)
unfolding next_offset
next_offset-good z last = search (goods, entry-good)

pub located_entry-good : (z : Interval) (last : Bool) → Good (located_entry z last)
unfolding located_entry
located_entry-good z last = search (goods, entry-good, next_offset-good)

pub located-good : (g : Grid) (tile : ℕ) (z : Interval) → Good (located g tile z)
unfolding located grid_tiles
located-good g tile z = in-grid (good_grid g)
  where
    in-tile : (c : Bool) → Good {A = Located} (λ m i. cond c (located_entry z (eqb (tile + 1) (tiles_of g)) m i) (no 8 []))
    in-tile true = located_entry-good z (eqb (tile + 1) (tiles_of g))
    in-tile false = search goods

    in-grid : (c : Bool) → Good {A = Located} (λ m i. and_then (cond c (answer (tiles_of g)) (no 14 [])) (λ n _. cond (ltb tile n) (located_entry z (eqb (tile + 1) n) m i) (no 8 [])))
    in-grid true = in-tile (ltb tile (tiles_of g))
    in-grid false = search goods
