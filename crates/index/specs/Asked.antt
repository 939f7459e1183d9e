-- What private functions ask of their callers; it need not be believed.
use Rattle.std.specs.Prelude.{◌≡◌, true, ℤ}
use Rattle.std.specs.Int.Signed.{le_z}
use Rattle.format.specs.Index.{Grid, good_grid, in_grid}

-- the first is not above the second
pub record Ordered (low high : ℤ) : Type 0 where
  pub order : le_z low high ≡ true

-- a tile of a good grid
pub record Inside (g : Grid) (x y : ℤ) : Type 0 where
  pub good : good_grid g ≡ true
  pub inside : in_grid g x y ≡ true
