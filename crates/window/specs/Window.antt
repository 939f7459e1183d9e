-- Request 10 (document 02): the base tiles that a rectangle of sub tiles touches, row by row from the top, left to right, each with its
-- touched cells; and whether a way is accepted. What follows from these definitions, in the request's words, is in WindowSays.antt.
use Rattle.std.specs.Prelude.{ℕ, zero, suc, ◌+◌, ◌*◌, ◌/◌, ◌%◌, Bool, false, cond, ◌&&◌, ◌||◌, List, eqb, ℤ, pos, negsuc, ◌+ℤ◌, length}
use Rattle.std.specs.Int.Signed.{le_z}
use Rattle.parsing.specs.Parse.{Res, and_then, Maybe, nth}
use Rattle.format.specs.Header.{between}
use Rattle.format.specs.Index.{Grid, width, grid_tiles, row_major, answer}
use Rattle.format.specs.Kinds.{upto}
use Rattle.format.specs.WayData.{concat}

-- sub tiles, two zoom levels below the base, so that a tile has 4 by 4 of them; both ends are included; rows grow downwards
pub record Rectangle : Type 0 where
  pub left : ℤ
  pub top : ℤ
  pub right : ℤ
  pub bottom : ℤ

-- divided by 4, rounded down: negsuc n is -1 - n
abbrev pub quarter : ℤ → ℤ
quarter (pos n) = pos (n / 4)
quarter (negsuc n) = negsuc (n / 4)

abbrev pub four : ℤ → ℤ
four x = x +ℤ x +ℤ x +ℤ x

abbrev pub max_z : ℤ → ℤ → ℤ
max_z a b = cond (le_z a b) b a

abbrev pub min_z : ℤ → ℤ → ℤ
min_z a b = cond (le_z a b) a b

-- the columns, or the rows, of a grid: the first one that is touched, and how many are
abbrev pub first_of : (grid_low low : ℤ) → ℤ
first_of grid_low low = max_z grid_low (quarter low)

abbrev pub count_of : (grid_low grid_high low high : ℤ) → ℕ
count_of grid_low grid_high low high = cond (le_z low high) (width (first_of grid_low low) (min_z grid_high (quarter high))) 0

abbrev pub columns_of : Grid → Rectangle → ℕ
columns_of g r = count_of g.x_min g.x_max r.left r.right

abbrev pub rows_of : Grid → Rectangle → ℕ
rows_of g r = count_of g.y_min g.y_max r.top r.bottom

-- cell k of tile x, y, row by row: the sub tile k % 4 columns and k / 4 rows into it
abbrev pub cell_touched : Rectangle → ℤ → ℤ → ℕ → Bool
cell_touched r x y k = between r.left r.right (four x +ℤ pos (k % 4)) && between r.top r.bottom (four y +ℤ pos (k / 4))

-- f 0, f 1, … as bits, the most significant first
abbrev pub bits : ℕ → (ℕ → Bool) → ℕ
bits zero f = 0
bits (suc n) f = 2 * bits n f + cond (f n) 1 0

-- bit 15 is the top left
abbrev pub mask_of : Rectangle → ℤ → ℤ → ℕ
mask_of r x y = bits 16 (cell_touched r x y)

-- a tile, its number in the sub file, and its touched cells
pub record Touched : Type 0 where
  pub x : ℤ
  pub y : ℤ
  pub number : ℕ
  pub mask : ℕ

abbrev pub tile_of : Grid → Rectangle → (x y : ℤ) → Touched
tile_of g r x y = record { x = x; y = y; number = row_major g x y; mask = mask_of r x y }

-- touched column i of touched row j
abbrev pub touched_tile : Grid → Rectangle → (i j : ℕ) → Touched
touched_tile g r i j = tile_of g r (first_of g.x_min r.left +ℤ pos i) (first_of g.y_min r.top +ℤ pos j)

abbrev pub touched : Grid → Rectangle → List Touched
touched g r = concat (upto (rows_of g r) (λ j. upto (columns_of g r) (λ i. touched_tile g r i j)))

-- 14 for a bad grid, before all else; then how many tiles there are, and tile k of them, from 0
unfoldable pub window_count : Grid → Rectangle → Res ℕ
window_count g r = and_then (grid_tiles g) (λ _ _. answer (length (touched g r)))

unfoldable pub window_tile : Grid → Rectangle → ℕ → Res (Maybe Touched)
window_tile g r k = and_then (grid_tiles g) (λ _ _. answer (nth (touched g r) k))

-- a way is accepted if its bitmap shares a cell with the mask, and declined otherwise: some bit of the 16 is 1 in both
abbrev pub both_odd : (a b : ℕ) → Bool
both_odd a b = eqb (a % 2) 1 && eqb (b % 2) 1

abbrev pub meets : ℕ → (a b : ℕ) → Bool
meets zero a b = false
meets (suc n) a b = both_odd a b || meets n (a / 2) (b / 2)

abbrev pub shares_cell : (bitmap mask : ℕ) → Bool
shares_cell bitmap mask = meets 16 bitmap mask
