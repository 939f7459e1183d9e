-- The tiles of a grid, by the tests that the code makes.
use Prim.Native.Nat.{ℕ, ◌+◌, ◌*◌, ◌-◌, ◌/◌, ◌^◌, ◌≤◌, ◌<◌}
use native.Mathlib.Nat.{le-div_iff_mul-le, div-lt_iff_lt-mul, mul_comm, mul-le-mul_right, lt_of_lt_of_le}
use native.Mathlib.Omega.{arith}
use mathlib.Core.Path.{◌≡◌, refl, sym, ap, ◌∙◌}
use mathlib.Core.Bool.{Bool, true, false, cond, not, ◌&&◌, and-eq-true_iff}
use mathlib.Core.List.{[]}
use lib.Dec.{leb}
use lib.IntN.{ℤ, nat_abs, ◌-ℤ◌}
use lib.Signed.{mag, le_z}
use mir.Syntax.{w64}
use mir.Val.{Fits}
use borrow.Author.Tests.{leb-true, le-leb, lt-leb}
use Rattle.parsing.specs.Parse.{Res, no, Maybe, none, some}
use Rattle.parsing.specs.Good.{ok-val, no_ok}
use Rattle.format.specs.Header.{between}
use Rattle.format.specs.Index.{Grid as TileGrid, width, tiles_of, good_grid, grid_tiles, in_grid, row_major, index_in, grid_index, answer}
use Rattle.types.specs.Types.{grid_of}
use Rattle.types.specs.declared.Grid.{Grid}
use Rattle.index.specs.Asked.{Ordered, Inside}
use Rattle.index.proofs.SignLaws.{back, back_is, passed, failed, steps-within}

-- what a width says of its ends
module _ (low high : ℤ) where
  width-reversed : width low high < 1 → le_z low high ≡ false
  width-reversed h = go (le_z low high) h
    where
      go : (c : Bool) → cond c (nat_abs (high -ℤ low) + 1) 0 < 1 → c ≡ false
      go true h = absurd (omega arith)
      go false h = refl

  width-ordered : 1 ≤ width low high → le_z low high ≡ true
  width-ordered h = go (le_z low high) h
    where
      go : (c : Bool) → 1 ≤ cond c (nat_abs (high -ℤ low) + 1) 0 → c ≡ true
      go true h = refl
      go false h = absurd (omega arith)

  width_back : mag low < 2 ^ 31 → mag high < 2 ^ 31 → width (back low) (back high) ≡ width low high
  width_back f g = rw (back_is low f, back_is high g)

-- the test of a product before it is made
over : (c r : ℕ) → 1 ≤ c → 4294967295 / c < r → 4294967295 < c * r
over c r b h = rw (mul_comm c r) ((div-lt_iff_lt-mul b).0 h)

under : (c r : ℕ) → 1 ≤ c → r ≤ 4294967295 / c → c * r ≤ 4294967295
under c r b h = rw (mul_comm c r) ((le-div_iff_mul-le b).0 h)

pub product-fits : (c r : ℕ) → 1 ≤ c → r ≤ 4294967295 / c → Fits w64 (c * r)
product-fits c r b h = record { fits = omega (arith, under c r b h) }

-- a test behind others that fails
second : (a b : Bool) → b ≡ false → a && b ≡ false
second true b h = h
second false b h = refl

module _ (g : TileGrid) where
  bad : good_grid g ≡ false → no 14 [] ≡ grid_tiles g
  unfolding grid_tiles
  bad h = rw h

  bad-x : le_z g.x_min g.x_max ≡ false → no 14 [] ≡ grid_tiles g
  bad-x h = bad (ap (λ a. a && le_z g.y_min g.y_max && leb (tiles_of g) (2 ^ 32 - 1)) h)

  bad-y : le_z g.y_min g.y_max ≡ false → no 14 [] ≡ grid_tiles g
  bad-y h = bad (ap (λ a. a && leb (tiles_of g) (2 ^ 32 - 1)) (second (le_z g.x_min g.x_max) (le_z g.y_min g.y_max) h))

  bad-size : 4294967295 < tiles_of g → no 14 [] ≡ grid_tiles g
  bad-size h = bad (second (le_z g.x_min g.x_max && le_z g.y_min g.y_max) (leb (tiles_of g) (2 ^ 32 - 1)) (lt-leb (tiles_of g) (2 ^ 32 - 1) h))

  good : le_z g.x_min g.x_max ≡ true → le_z g.y_min g.y_max ≡ true → tiles_of g ≤ 4294967295 → answer (tiles_of g) ≡ grid_tiles g
  unfolding grid_tiles
  good h k l =
      go (le_z g.x_min g.x_max) (le_z g.y_min g.y_max) (leb (tiles_of g) (2 ^ 32 - 1)) h k (le-leb (tiles_of g) (2 ^ 32 - 1) l)
    where
      go : (a b c : Bool) → a ≡ true → b ≡ true → c ≡ true → answer (tiles_of g) ≡ cond (a && b && c) (answer (tiles_of g)) (no 14 [])
      go a b c h k l = rw (h, k, l)

-- the same by the tests that the code makes
module _ (g : Grid) (columns rows : ℕ) (e : columns ≡ width (back g.x_min) (back g.x_max)) (d : rows ≡ width (back g.y_min) (back g.y_max))
    (i : mag g.x_min < 2 ^ 31) (j : mag g.x_max < 2 ^ 31) (k : mag g.y_min < 2 ^ 31) (l : mag g.y_max < 2 ^ 31) where
  columns-is : columns ≡ width g.x_min g.x_max
  columns-is = e ∙ width_back g.x_min g.x_max i j

  rows_is : rows ≡ width g.y_min g.y_max
  rows_is = d ∙ width_back g.y_min g.y_max k l

  tiles-is : columns * rows ≡ tiles_of (grid_of g)
  tiles-is = rw (columns-is, rows_is)

  pub reversed-x : columns < 1 → no 14 [] ≡ grid_tiles (grid_of g)
  reversed-x h = bad-x (grid_of g) (width-reversed g.x_min g.x_max (rw columns-is at h))

  pub reversed-y : rows < 1 → no 14 [] ≡ grid_tiles (grid_of g)
  reversed-y h = bad-y (grid_of g) (width-reversed g.y_min g.y_max (rw rows_is at h))

  pub too_many : 1 ≤ columns → 4294967295 / columns < rows → no 14 [] ≡ grid_tiles (grid_of g)
  too_many b h = bad-size (grid_of g) (rw tiles-is at (over columns rows b h))

  pub counted : 1 ≤ columns → 1 ≤ rows → rows ≤ 4294967295 / columns → answer (columns * rows) ≡ grid_tiles (grid_of g)
  counted b b' h =
      rw tiles-is
      (good (grid_of g) (width-ordered g.x_min g.x_max (rw columns-is at b)) (width-ordered g.y_min g.y_max (rw rows_is at b'))
      (rw tiles-is at (under columns rows b h)))

-- a grid that was counted
pub record Counted (g : TileGrid) (n : ℕ) : Type 0 where
  pub good : good_grid g ≡ true
  pub count : n ≡ tiles_of g

pub counted-grid : (g : TileGrid) (n : ℕ) → answer n ≡ grid_tiles g → Counted g n
unfolding grid_tiles
counted-grid g n e = go (good_grid g) refl e
  where
    go : (c : Bool) → good_grid g ≡ c → answer n ≡ cond c (answer (tiles_of g)) (no 14 []) → Counted g n
    go true h e = record { good = h; count = ok-val e }
    go false h e = no_ok (sym e)

module _ (g : TileGrid) (h : good_grid g ≡ true) where
  ends : (le_z g.x_min g.x_max ≡ true) × (le_z g.y_min g.y_max ≡ true)
  ends = (and-eq-true_iff _ _).0 ((and-eq-true_iff (le_z g.x_min g.x_max && le_z g.y_min g.y_max) (leb (tiles_of g) (2 ^ 32 - 1))).0 h).0

  pub good-size : tiles_of g ≤ 4294967295
  good-size = leb-true (tiles_of g) (2 ^ 32 - 1) ((and-eq-true_iff (le_z g.x_min g.x_max && le_z g.y_min g.y_max) (leb (tiles_of g) (2 ^ 32 - 1))).0 h).1

-- a tile in the grid, or outside it
module _ (g : Grid) (x y : ℤ) (r : Bool) (e : r ≡ between (back g.x_min) (back g.x_max) (back x))
    (i : mag g.x_min < 2 ^ 31) (j : mag g.x_max < 2 ^ 31) (k : mag x < 2 ^ 31) where
  column-is : r ≡ between g.x_min g.x_max x
  column-is = e ∙ rw (back_is g.x_min i, back_is g.x_max j, back_is x k)

  pub column-out : not r ≡ true → false ≡ in_grid (grid_of g) x y
  column-out h = rw (failed r _ column-is h)

  pub column-in : (s : Bool) → not r ≡ false → s ≡ between (back g.y_min) (back g.y_max) (back y) → mag g.y_min < 2 ^ 31 → mag g.y_max < 2 ^ 31 → mag y < 2 ^ 31 → s ≡ in_grid (grid_of g) x y
  column-in s h d a b c = rw (passed r _ column-is h) (d ∙ rw (back_is g.y_min a, back_is g.y_max b, back_is y c))

-- the number of a tile is below the number of tiles
in-product : (r c R C : ℕ) → r ≤ R → c ≤ C → r * (C + 1) + c < (C + 1) * (R + 1)
in-product r c R C h k = omega (arith, mul-le-mul_right (C + 1) h, mul_comm (C + 1) (R + 1))

width_is : (low high : ℤ) → le_z low high ≡ true → width low high ≡ nat_abs (high -ℤ low) + 1
width_is low high h = rw h

module _ (g : Grid) (x y : ℤ) (t : Inside (grid_of g) x y) (i : mag g.x_min < 2 ^ 31) (j : mag g.x_max < 2 ^ 31)
    (k : mag g.y_min < 2 ^ 31) (l : mag g.y_max < 2 ^ 31) (m : mag x < 2 ^ 31) (n : mag y < 2 ^ 31) where
  in_both : (between g.x_min g.x_max x ≡ true) × (between g.y_min g.y_max y ≡ true)
  in_both = (and-eq-true_iff _ _).0 t.inside

  in-x : (le_z g.x_min x ≡ true) × (le_z x g.x_max ≡ true)
  in-x = (and-eq-true_iff _ _).0 in_both.0

  in-y : (le_z g.y_min y ≡ true) × (le_z y g.y_max ≡ true)
  in-y = (and-eq-true_iff _ _).0 in_both.1

  pub ordered-x : Ordered (back g.x_min) (back x)
  ordered-x = record { order = rw (back_is g.x_min i, back_is x m) in-x.0 }

  pub ordered-y : Ordered (back g.y_min) (back y)
  ordered-y = record { order = rw (back_is g.y_min k, back_is y n) in-y.0 }

  number_small : row_major (grid_of g) x y < 4294967295
  number_small =
      let o = ends (grid_of g) t.good in
      let b = in-product (nat_abs (y -ℤ g.y_min)) (nat_abs (x -ℤ g.x_min)) (nat_abs (g.y_max -ℤ g.y_min)) (nat_abs (g.x_max -ℤ g.x_min))
      (steps-within g.y_min y g.y_max k n l in-y.0 in-y.1 o.1)
      (steps-within g.x_min x g.x_max i m j in-x.0 in-x.1 o.0) in
      lt_of_lt_of_le (rw (width_is g.x_min g.x_max o.0, width_is g.y_min g.y_max o.1) b) (good-size (grid_of g) t.good)

  module _ (row column columns : ℕ) (p : row ≡ nat_abs (back y -ℤ back g.y_min)) (q : column ≡ nat_abs (back x -ℤ back g.x_min))
      (s : columns ≡ width (back g.x_min) (back g.x_max)) where
    pub number_is : row * columns + column ≡ row_major (grid_of g) x y
    number_is = rw (p, q, s, back_is g.x_min i, back_is g.x_max j, back_is g.y_min k, back_is x m, back_is y n)

    pub row_fits : Fits w64 (row * columns)
    row_fits = record { fits = omega (arith, number_is, number_small) }

    pub number_fits : Fits w64 (row * columns + column)
    number_fits = record { fits = omega (arith, number_is, number_small) }

-- none outside the grid, and the tile's number in it
module _ (g : TileGrid) (x y : ℤ) (r : Bool) (e : r ≡ in_grid g (back x) (back y)) (m : mag x < 2 ^ 31) (n : mag y < 2 ^ 31) where
  in_is : r ≡ in_grid g x y
  in_is = e ∙ rw (back_is x m, back_is y n)

  pub index-none : not r ≡ true → answer none ≡ answer (index_in g x y)
  index-none h = rw (failed r _ in_is h)

  pub index-some : (k : ℕ) → not r ≡ false → k ≡ row_major g (back x) (back y) → answer (some k) ≡ answer (index_in g x y)
  index-some k h d = rw (passed r _ in_is h, d, back_is x m, back_is y n)

-- a place that was handed on
pub index_back : (g : TileGrid) (x y : ℤ) (q : Res (Maybe ℕ)) → mag x < 2 ^ 31 → mag y < 2 ^ 31 → q ≡ grid_index g (back x) (back y) → q ≡ grid_index g x y
index_back g x y q m n e = e ∙ rw (back_is x m, back_is y n)

pub ruleset indices = (index-none, index-some, index_back)
