-- Request 10, from the definitions: what WindowSays.antt says holds of every grid and every rectangle.
use Prim.Native.Nat.{ℕ, zero, suc, ◌-◌, ◌%◌, ◌<◌}
use native.Mathlib.Omega.{arith}
use mathlib.Core.Path.{◌≡◌, refl, sym, ap, ◌∙◌}
use mathlib.Core.Bool.{Bool, true, false, cond, false≢true}
use lib.IntN.{ℤ, pos, ◌+ℤ◌}
use Rattle.parsing.specs.Parse.{some, nth}
use Rattle.format.specs.Index.{Grid}
use Rattle.window.specs.Window.{Rectangle, first_of, count_of, mask_of}
use Rattle.window.specs.WindowSays.{Lined, lined, shifted, bit, SharedCell, WindowSays}
use Rattle.window.proofs.CountLaws.{length-upto, nth-upto}
use Rattle.window.proofs.TouchLaws.{listed, listed-touches}
use Rattle.window.proofs.MeaningLaws.{mask-bit, Shared, shares-means, shares-holds, count-bad, tile-bad}
use Rattle.window.proofs.WindowLaws.{count-good, tile-good, none-across, none-down, nth-low, some_is, only-touched, all-touched, farther, in_order, once}
use Rattle.window.proofs.CellLaws.{cell-quarter, into, mask-marked}

-- an entry of a line, by its place
module _ (gl gh low high : ℤ) where
  at_place : (i : ℕ) (x : ℤ) → nth (lined gl gh low high) i ≡ some x → (i < count_of gl gh low high) × (first_of gl low +ℤ pos i ≡ x)
  at_place i x e =
      let f : ℕ → ℤ = λ k. first_of gl low +ℤ pos k in
      let l : i < count_of gl gh low high = omega (arith, nth-low (lined gl gh low high) i x e, length-upto (count_of gl gh low high) f) in
      (l, some_is _ _ (sym (nth-upto (count_of gl gh low high) i f l) ∙ e))

  in-line : Lined gl gh low high
  in-line =
      record {
        only = λ i x e. let p = at_place i x e in listed-touches gl gh low high x (record { index = i; few = p.0; at = p.1 });
        all = λ x h t. let l = listed gl gh low high x h t in
            record { place = l.index; there = nth-upto (count_of gl gh low high) l.index (λ k. first_of gl low +ℤ pos k) l.few ∙ ap some l.at };
        ascending = λ i j x y p q h. rw (← (at_place i x p).1, ← (at_place j y q).1) (farther (first_of gl low) i j h);
      }

nothing-shifted : (n : ℕ) → shifted n 0 ≡ 0
nothing-shifted zero = refl
nothing-shifted (suc n) = nothing-shifted n

no-bit : (n a : ℕ) → bit n a ≡ 1 → a ≡ 0 → ⊥
no-bit n a h z =
    let e : bit n a ≡ 0 = ap (bit n) z ∙ ap (λ k. k % 2) (nothing-shifted n) in
    omega arith

-- a shared bit is a shared cell, and the other way round
module _ (r : Rectangle) (x y : ℤ) (bitmap : ℕ) where
  cell-of : Shared 16 bitmap (mask_of r x y) → SharedCell r x y bitmap
  cell-of s =
      let c = 15 - s.cell in
      let e : 15 - c ≡ s.cell = omega (arith, s.low) in
      record {
        cell = c;
        few = omega arith;
        in-bitmap = ap (λ n. bit n bitmap) e ∙ s.first;
        in_window = one _ (sym (mask-bit r x y c (omega arith)) ∙ ap (λ n. bit n (mask_of r x y)) e ∙ s.second);
      }
    where
      one : (t : Bool) → ◌≡◌ {A = ℕ} (cond t 1 0) 1 → t ≡ true
      one true h = refl
      one false h = absurd (omega arith)

  bit-of : SharedCell r x y bitmap → Shared 16 bitmap (mask_of r x y)
  bit-of s =
      record {
        cell = 15 - s.cell;
        low = omega arith;
        first = s.in-bitmap;
        second = mask-bit r x y s.cell s.few ∙ ap (λ t. cond t 1 0) s.in_window;
      }

pub window-says : (g : Grid) (r : Rectangle) → WindowSays g r
window-says g r =
    record {
      bad-count = count-bad g r;
      bad-tile = tile-bad g r;
      counted = count-good g r;
      listed = tile-good g r;
      across = in-line g.x_min g.x_max r.left r.right;
      down = in-line g.y_min g.y_max r.top r.bottom;
      none-across = none-across g r;
      none-down = none-down g r;
      only = only-touched g r;
      all = all-touched g r;
      in_order = in_order g r;
      once = once g r;
      cell_in = cell-quarter;
      in_cell = into;
      cells = mask-bit r;
      marked = λ k t e z. let m = mask-marked g r k t e in no-bit m.place t.mask m.one z;
      accepted = λ x y bitmap h. cell-of r x y bitmap (shares-means bitmap (mask_of r x y) h);
      declined = λ x y bitmap h s. false≢true (sym h ∙ shares-holds bitmap (mask_of r x y) (bit-of r x y bitmap s));
    }
