-- A tile of the window, as the code's locals hold it.
use Prim.Native.Nat.{ℕ, ◌+◌, ◌-◌, ◌^◌, ◌<◌}
use mathlib.Core.Path.{◌≡◌, ap, ◌∙◌}
use mathlib.Core.Bool.{Bool, true, ◌&&◌, and-eq-true_iff}
use lib.Dec.{leb}
use lib.IntN.{ℤ, pos, nat_abs, ◌+ℤ◌, ◌-ℤ◌}
use lib.Signed.{mag, le_z}
use Rattle.format.specs.Index.{Grid as TileGrid, width, tiles_of, good_grid, row_major}
use Rattle.types.specs.Types.{grid_of}
use Rattle.types.specs.declared.Grid.{Grid}
use Rattle.index.specs.Asked.{Ordered, Inside}
use Rattle.window.specs.Window.{Touched, first_of, mask_of, touched_tile}
use Rattle.window.specs.Biased.{Place}
use Rattle.window.specs.Answers.{rectangle_of}
use Rattle.window.specs.declared.Window.{Window}
use Rattle.window.proofs.SignedLaws.{back, back_is, held-is, held, tile-small, tile-between}

-- a grid that is not reversed
good-columns : (g : TileGrid) → good_grid g ≡ true → le_z g.x_min g.x_max ≡ true
good-columns g h = ((and-eq-true_iff _ _).0 ((and-eq-true_iff (le_z g.x_min g.x_max && le_z g.y_min g.y_max) (leb (tiles_of g) (2 ^ 32 - 1))).0 h).0).0

pub columns-ordered : (g : Grid) (x y : ℤ) → Inside (grid_of g) x y → mag g.x_min < 2 ^ 31 → mag g.x_max < 2 ^ 31 → Ordered (back g.x_min) (back g.x_max)
columns-ordered g x y t f h =
    record { order = rw (back_is {z = g.x_min} (record { sfits = f }), back_is {z = g.x_max} (record { sfits = h })) (good-columns (grid_of g) t.good) }

pub columns-here : (low high : ℤ) (r : ℕ) → Ordered low high → r ≡ nat_abs (high -ℤ low) → r + 1 ≡ width low high
columns-here low high r o e = rw (o.order, e)

-- tile i of an axis, in a local
module _ (gl gh l h : ℤ) (i : ℕ) (fl : mag gl < 2 ^ 31) (ml : mag l < 2 ^ 63) (x : ℤ) (e : x ≡ first_of (back gl) (held l) +ℤ pos i) where
  axis-here : x ≡ first_of gl l +ℤ pos i
  axis-here = e ∙ rw (back_is {z = gl} (record { sfits = fl }), held-is {z = l} (record { sfits = ml }))

  axis-back : mag (first_of gl l +ℤ pos i) < 2 ^ 31 → back x ≡ first_of gl l +ℤ pos i
  axis-back s = rw axis-here (back_is (record { sfits = s }))

both : (a b : Bool) → a ≡ true → b ≡ true → a && b ≡ true
both a b h k = rw (h, k)

module _ (g : Grid) (w : Window) (i j : ℕ) (p : Place (grid_of g) (rectangle_of w) i j)
    (fa : mag g.x_min < 2 ^ 31) (fb : mag g.x_max < 2 ^ 31) (fc : mag g.y_min < 2 ^ 31) (fd : mag g.y_max < 2 ^ 31)
    (fl : mag w.left < 2 ^ 63) (fr : mag w.right < 2 ^ 63) (ft : mag w.top < 2 ^ 63) (fe : mag w.bottom < 2 ^ 63)
    (x y : ℤ) (ex : x ≡ first_of (back g.x_min) (held w.left) +ℤ pos i) (ey : y ≡ first_of (back g.y_min) (held w.top) +ℤ pos j) where
  x-is : back x ≡ first_of g.x_min w.left +ℤ pos i
  x-is =
      axis-back g.x_min g.x_max w.left w.right i fa fl x ex
      (tile-small g.x_min g.x_max w.left w.right i fa fb fl fr p.column)

  y-is : back y ≡ first_of g.y_min w.top +ℤ pos j
  y-is =
      axis-back g.y_min g.y_max w.top w.bottom j fc ft y ey
      (tile-small g.y_min g.y_max w.top w.bottom j fc fd ft fe p.row)

  pub tile-inside : Inside (grid_of g) (back x) (back y)
  tile-inside =
      record {
        good = p.good;
        inside = rw (x-is, y-is) (both _ _
            (tile-between g.x_min g.x_max w.left w.right i fa fb fl fr p.column)
            (tile-between g.y_min g.y_max w.top w.bottom j fc fd ft fe p.row));
      }

  abbrev tile_of : ℤ → ℤ → ℕ → ℕ → Touched
  tile_of a b n m = record { x = a; y = b; number = n; mask = m }

  pub tile-is : (number mask : ℕ) → number ≡ row_major (grid_of g) (back x) (back y) → mask ≡ mask_of (rectangle_of w) (back x) (back y) → tile_of (back x) (back y) number mask ≡ touched_tile (grid_of g) (rectangle_of w) i j
  tile-is number mask a b =
      ap (λ n. tile_of (back x) (back y) n mask) a ∙ ap (tile_of (back x) (back y) (row_major (grid_of g) (back x) (back y))) b
      ∙ ap (λ u. tile_of u (back y) (row_major (grid_of g) u (back y)) (mask_of (rectangle_of w) u (back y))) x-is
      ∙ ap (λ v. tile_of (first_of g.x_min w.left +ℤ pos i) v (row_major (grid_of g) (first_of g.x_min w.left +ℤ pos i) v) (mask_of (rectangle_of w) (first_of g.x_min w.left +ℤ pos i) v)) y-is
