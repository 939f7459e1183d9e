-- Which ways are selected, by the tests that code makes.
use Prim.Native.Nat.{ℕ, ◌≤◌, ◌<◌, min}
use mathlib.Core.Path.{◌≡◌, refl, sym, ap, ◌∙◌}
use mathlib.Core.Bool.{Bool, true, false, not, ◌&&◌, false≢true}
use mathlib.Core.List.{List}
use native.Mathlib.Omega.{arith}
use borrow.Author.Rules.{rules}
use lib.ListN.{length, take}
use lib.Dec.{leb}
use lib.Seq.{length-take-le, take_all, take-length}
use native.Mathlib.Nat.{min-eq_left, min_comm}
use borrow.Author.Tests.{leb-true, leb-false}
use Rattle.tagged.specs.declared.TagIds.{TagIds}
use Rattle.window.specs.Window.{shares_cell}
use Rattle.showing.specs.Showing.{shown}
use Rattle.selection.specs.Selects.{in_window, by_rules, selects}
use Rattle.selection.specs.declared.Selection.{Selection}

-- no more than there are
all-taken : (n : ℕ) (l : List ℕ) → take (min n (length l)) l ≡ take n l
all-taken n l = go (leb n (length l)) refl
  where
    go : (c : Bool) → leb n (length l) ≡ c → take (min n (length l)) l ≡ take n l
    go true h = let k : n ≤ length l = leb-true n (length l) h in ap (λ (x : ℕ). take x l) (min-eq_left k)
    go false h =
        let k : length l ≤ n = let j : length l < n = leb-false n (length l) h in omega arith in
        ap (λ (x : ℕ). take x l) (min_comm n (length l) ∙ min-eq_left k) ∙ take-length l ∙ sym (take_all n l k)

module _ (w : Selection) where
  pub window_on : (b : ℕ) (r : Bool) → not w.by_window ≡ false → r ≡ shares_cell b w.mask → r ≡ in_window w b
  window_on b r e h = rw e h

  module _ (classes : List ℕ) (t : TagIds) where
    pub rules-on : (n : ℕ) (r : Bool) → not w.by_rules ≡ false → n ≡ min t.count (length t.ids) → r ≡ shown classes w.zoom (take n t.ids) → r ≡ by_rules w classes t
    rules-on n r e q h = rw e (h ∙ ap (λ (x : List ℕ). shown classes w.zoom x) (ap (λ (k : ℕ). take k t.ids) q ∙ all-taken t.count t.ids))

    pub outside : (b : ℕ) (r : Bool) → not r ≡ true → r ≡ in_window w b → false ≡ selects w classes b t
    outside b true e h = absurd (false≢true e)
    outside b false e h = ap (λ x. x && by_rules w classes t) h

    pub inside : (b : ℕ) (r s : Bool) → not r ≡ false → r ≡ in_window w b → s ≡ by_rules w classes t → s ≡ selects w classes b t
    inside b true s e h g = g ∙ ap (λ x. x && by_rules w classes t) h
    inside b false s e h g = absurd (false≢true (sym e))

pub prefix-sized : (n k : ℕ) (l : List ℕ) → n ≡ min k (length l) → n ≡ length (take n l)
prefix-sized n k l h = sym (length-take-le n l (omega arith))

pub ruleset selecting = (rules, window_on, rules-on, outside, inside, prefix-sized)
