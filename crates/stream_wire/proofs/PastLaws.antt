-- Whether the words of a next say a way that is not selected, by the tests that code makes.
use Prim.Native.Nat.{ℕ, zero, suc, ◌+◌, ◌*◌, ◌/◌, ◌%◌, ◌^◌}
use native.Mathlib.Nat.{pow-suc}
use native.Mathlib.Omega.{arith}
use mathlib.Core.Path.{◌≡◌, refl, sym, ap, ◌∙◌}
use mathlib.Core.Bool.{Bool, false, not, ◌&&◌, ◌||◌}
use mathlib.Core.List.{List}
use lib.Dec.{eqb}
use lib.ListN.{get_or}
use borrow.Author.Rules.{rules}
use borrow.Author.Tests.{eq-eqb, ne_eqb}
use Rattle.window.specs.Window.{both_odd, meets, shares_cell}
use Rattle.selection.specs.Selects.{by_rules, selects}
use Rattle.selection.specs.declared.Selection.{Selection}
use Rattle.stream_wire.specs.Streams.{goes_past}

-- the bits above the n that are looked at do not count
meets-low : (n a k b : ℕ) → meets n (a + 2 ^ n * k) b ≡ meets n a b
meets-low zero a k b = refl
meets-low (suc n) a k b =
    let q : a + 2 ^ suc n * k ≡ a + 2 * (2 ^ n * k) = rw pow-suc (omega arith) in
    let l : (a + 2 * (2 ^ n * k)) % 2 ≡ a % 2 = omega arith in
    let h : (a + 2 * (2 ^ n * k)) / 2 ≡ a / 2 + 2 ^ n * k = omega arith in
    ap (λ x. meets (suc n) x b) q
    ∙ ap (λ x. (eqb x 1 && eqb (b % 2) 1) || meets n ((a + 2 * (2 ^ n * k)) / 2) (b / 2)) l
    ∙ ap (λ x. both_odd a b || meets n x (b / 2)) h
    ∙ ap (λ x. both_odd a b || x) (meets-low n (a / 2) k (b / 2))

shares-low : (b m : ℕ) → shares_cell (b % 65536) m ≡ shares_cell b m
shares-low b m =
    let e : b % 65536 + 65536 * (b / 65536) ≡ b = omega arith in
    sym (meets-low 16 (b % 65536) (b / 65536) m) ∙ ap (λ x. shares_cell x m) e

module _ (w : Selection) (classes : List ℕ) (n : ℕ) (l i : List ℕ) where
  pub past-refused : (n ≡ 0 → ⊥) → false ≡ goes_past w classes n l i
  past-refused h = rw (ne_eqb n 0 h) refl

  pub past-other : n ≡ 0 → (get_or l 6 0 ≡ 1 → ⊥) → false ≡ goes_past w classes n l i
  past-other e h = rw (eq-eqb n 0 e, ne_eqb (get_or l 6 0) 1 h) refl

  pub past-way : (b : Bool) → n ≡ 0 → get_or l 6 0 ≡ 1 → b ≡ selects w classes (get_or l 18 0 % 65536) (record { ids = i; count = get_or l 7 0 }) → not b ≡ goes_past w classes n l i
  past-way b e h q =
      ap not (q ∙ ap (λ x. (not w.by_window || x) && by_rules w classes (record { ids = i; count = get_or l 7 0 })) (shares-low (get_or l 18 0) w.mask))
      ∙ rw (eq-eqb n 0 e, eq-eqb (get_or l 6 0) 1 h) refl

pub ruleset passing = (rules, past-refused, past-other, past-way)
