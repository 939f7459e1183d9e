-- What private functions compute, and what they ask of their callers; it need not be believed. It is the same as in Window.antt, on numbers that
-- a bias made unsigned: 2 ^ 63 for sub tiles, 2 ^ 61 for tiles.
use Rattle.std.specs.Prelude.{ℕ, ◌+◌, ◌*◌, ◌-◌, ◌/◌, ◌%◌, ◌<◌, ◌^◌, Bool, cond, ◌&&◌, leb, ℤ, pos, negsuc, ◌≡◌, true}
use Rattle.format.specs.Index.{Grid, good_grid}
use Rattle.window.specs.Window.{Rectangle, columns_of, rows_of, bits}

abbrev pub biased : (half : ℕ) → ℤ → ℕ
biased half (pos n) = half + n
biased half (negsuc n) = half - 1 - n

abbrev pub biased_first : (grid_low low : ℕ) → ℕ
biased_first grid_low low = cond (leb grid_low (low / 4)) (low / 4) grid_low

abbrev pub biased_last : (grid_high high : ℕ) → ℕ
biased_last grid_high high = cond (leb grid_high (high / 4)) grid_high (high / 4)

abbrev pub biased_width : (low high : ℕ) → ℕ
biased_width low high = cond (leb low high) (high - low + 1) 0

unfoldable pub biased_count : (grid_low grid_high low high : ℕ) → ℕ
biased_count grid_low grid_high low high = cond (leb low high) (biased_width (biased_first grid_low low) (biased_last grid_high high)) 0

abbrev pub biased_between : (low high tile step : ℕ) → Bool
biased_between low high tile step = leb low (4 * tile + step) && leb (4 * tile + step) high

abbrev pub biased_cell : (left right top bottom x y k : ℕ) → Bool
biased_cell left right top bottom x y k = biased_between left right x (k % 4) && biased_between top bottom y (k / 4)

abbrev pub cell_bit : (left right top bottom x y k : ℕ) → ℕ
cell_bit left right top bottom x y k = cond (biased_cell left right top bottom x y k) 1 0

unfoldable pub biased_mask : (left right top bottom x y n : ℕ) → ℕ
biased_mask left right top bottom x y n = bits n (biased_cell left right top bottom x y)

-- a tile that a bias of 2 ^ 61 made unsigned, and a step in it
pub record Step (tile step : ℕ) : Type 0 where
  pub tiled : tile < 2 ^ 62
  pub short : step < 4

-- two tiles
pub record Tiles (x y : ℕ) : Type 0 where
  pub column : x < 2 ^ 62
  pub row : y < 2 ^ 62

-- a cell of a tile
pub record Cell (x y k : ℕ) : Type 0 where
  pub column : x < 2 ^ 62
  pub row : y < 2 ^ 62
  pub few : k < 16

-- column i and row j of what a good grid and a rectangle touch
pub record Place (g : Grid) (r : Rectangle) (i j : ℕ) : Type 0 where
  pub good : good_grid g ≡ true
  pub column : i < columns_of g r
  pub row : j < rows_of g r
