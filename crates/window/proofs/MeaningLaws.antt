-- What the definitions say, in the request's words: the bits of a mask, and what a shared cell is.
use Prim.Native.Nat.{ℕ, zero, suc, ◌+◌, ◌*◌, ◌-◌, ◌/◌, ◌%◌, ◌≤◌, ◌<◌}
use native.Mathlib.Omega.{arith}
use mathlib.Core.Path.{◌≡◌, refl, ap, ◌∙◌}
use mathlib.Core.Bool.{Bool, true, false, cond, ◌&&◌, ◌||◌}
use mathlib.Core.List.{[]}
use lib.Dec.{eqb}
use lib.IntN.{ℤ}
use borrow.Author.Tests.{eqb-true, eq-eqb}
use Rattle.parsing.specs.Parse.{no}
use Rattle.format.specs.Index.{Grid, good_grid, grid_tiles}
use Rattle.window.specs.Window.{Rectangle, bits, cell_touched, mask_of, both_odd, meets, shares_cell, window_count, window_tile}
use Rattle.window.specs.WindowSays.{shifted, bit}

bit_le : (t : Bool) → cond t 1 0 ≤ 1
bit_le true = omega arith
bit_le false = omega arith

bits-shifted : (d n : ℕ) (f : ℕ → Bool) → shifted d (bits (d + n) f) ≡ bits n f
bits-shifted zero n f = let e : 0 + n ≡ n = omega arith in ap (λ k. bits k f) e
bits-shifted (suc d) n f =
    let e : suc d + n ≡ suc (d + n) = omega arith in
    let z : (2 * bits (d + n) f + cond (f (d + n)) 1 0) / 2 ≡ bits (d + n) f = omega (arith, bit_le (f (d + n))) in
    ap (λ k. shifted d (bits k f / 2)) e ∙ ap (shifted d) z ∙ bits-shifted d n f

bits-last : (n : ℕ) (f : ℕ → Bool) → bits (suc n) f % 2 ≡ cond (f n) 1 0
bits-last n f = omega (arith, bit_le (f n))

-- bit 15 - k of a mask is 1 exactly if cell k is touched: bit 15 is the top left
pub mask-bit : (r : Rectangle) (x y : ℤ) (k : ℕ) → k < 16 → bit (15 - k) (mask_of r x y) ≡ cond (cell_touched r x y k) 1 0
mask-bit r x y k h =
    let f = cell_touched r x y in
    let e : 16 ≡ 15 - k + suc k = omega arith in
    ap (λ n. bit (15 - k) (bits n f)) e ∙ ap (λ a. a % 2) (bits-shifted (15 - k) (suc k) f) ∙ bits-last k f

-- a bitmap and a mask share a cell: some bit of the 16 is 1 in both
pub record Shared (n a b : ℕ) : Type 0 where
  pub cell : ℕ
  pub low : cell < n
  pub first : bit cell a ≡ 1
  pub second : bit cell b ≡ 1

odd-both : (a b : ℕ) → both_odd a b ≡ true → (a % 2 ≡ 1) × (b % 2 ≡ 1)
odd-both a b = go (eqb (a % 2) 1) (eqb (b % 2) 1) refl refl
  where
    go : (s t : Bool) → eqb (a % 2) 1 ≡ s → eqb (b % 2) 1 ≡ t → s && t ≡ true → (a % 2 ≡ 1) × (b % 2 ≡ 1)
    go true true h k e = (eqb-true (a % 2) 1 h, eqb-true (b % 2) 1 k)
    go true false h k e = absurd (let z : ◌≡◌ {A = ℕ} 0 1 = cc in omega arith)
    go false t h k e = absurd (let z : ◌≡◌ {A = ℕ} 0 1 = cc in omega arith)

meets-shared : (n a b : ℕ) → meets n a b ≡ true → Shared n a b
meets-shared zero a b e = absurd (let z : ◌≡◌ {A = ℕ} 0 1 = cc in omega arith)
meets-shared (suc n) a b e = go (meets-shared n (a / 2) (b / 2)) (both_odd a b) refl e
  where
    go : (meets n (a / 2) (b / 2) ≡ true → Shared n (a / 2) (b / 2)) → (t : Bool) → both_odd a b ≡ t → t || meets n (a / 2) (b / 2) ≡ true → Shared (suc n) a b
    go i true h e = let o = odd-both a b h in record { cell = 0; low = omega arith; first = o.0; second = o.1 }
    go i false h e =
        let s = i e in
        record { cell = suc s.cell; low = omega (arith, s.low); first = s.first; second = s.second }

or_later : (t : Bool) → t || true ≡ true
or_later true = refl
or_later false = refl

shared-meets : (n a b k : ℕ) → k < n → bit k a ≡ 1 → bit k b ≡ 1 → meets n a b ≡ true
shared-meets zero a b k h p q = absurd (omega arith)
shared-meets (suc n) a b zero h p q = rw (eq-eqb (a % 2) 1 p, eq-eqb (b % 2) 1 q)
shared-meets (suc n) a b (suc k) h p q =
    ap (λ t. both_odd a b || t) (shared-meets n (a / 2) (b / 2) k (omega arith) p q) ∙ or_later (both_odd a b)

-- accepted exactly if a cell is shared
pub shares-means : (a b : ℕ) → shares_cell a b ≡ true → Shared 16 a b
shares-means a b e = meets-shared 16 a b e

pub shares-holds : (a b : ℕ) → Shared 16 a b → shares_cell a b ≡ true
shares-holds a b s = shared-meets 16 a b s.cell s.low s.first s.second

-- a bad grid is 14, before all else
pub count-bad : (g : Grid) (r : Rectangle) → good_grid g ≡ false → window_count g r ≡ no 14 []
unfolding window_count grid_tiles
count-bad g r h = rw h

pub tile-bad : (g : Grid) (r : Rectangle) (k : ℕ) → good_grid g ≡ false → window_tile g r k ≡ no 14 []
unfolding window_tile grid_tiles
tile-bad g r k h = rw h
