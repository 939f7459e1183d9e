-- A refusal that is known, in a definition by its case.
use Prim.Native.Nat.{ℕ}
use mathlib.Core.Path.{◌≡◌, refl, sym, ap, ◌∙◌}
use mathlib.Core.Bool.{Bool, true, false, cond}
use borrow.Author.Rules.{rules}
use borrow.Author.Tests.{eq-eqb, ne_eqb}
use lib.Dec.{eqb}
use Rattle.parsing.specs.Parse.{renumbered}
use Rattle.error.specs.declared.Refusal.{Refusal}
use Rattle.error.specs.declared.LentRefusal.{LentRefusal}
use Rattle.error.specs.declared.LentRefusal.TheVariants.{Refused}
use Rattle.error.specs.Refusals.{number_of, refused, lent_number, in_index, in_tile_head}
use Rattle.error.specs.declared.Refusal.TheVariants.{IndexCutOff, TileHeadCutOff}

pub number_at : (r r' : Refusal) (k : ℕ) → r ≡ r' → k ≡ number_of r' → k ≡ number_of r
number_at r r' k e h = h ∙ ap number_of (sym e)

pub lent-number-at : (l : LentRefusal) (r : Refusal) (k : ℕ) → l ≡ Refused r → k ≡ number_of r → k ≡ lent_number l
lent-number-at l r k e h = h ∙ ap lent_number (sym e)

pub ruleset refusals = (rules, number_at)

-- refusal 1, by its number
module _ (r x : Refusal) (n : ℕ) (h : n ≡ number_of r) where
  pub cut_off : n ≡ 1 → x ≡ cond (eqb (number_of r) 1) x r
  cut_off e = rw (eq-eqb (number_of r) 1 (sym h ∙ e))

  pub not-cut-off : (n ≡ 1 → ⊥) → r ≡ cond (eqb (number_of r) 1) x r
  not-cut-off e = rw (ne_eqb (number_of r) 1 (λ k. e (h ∙ k)))

pub ruleset cuts = (rules, cut_off, not-cut-off)

-- as a result
renumber : {A : Type 0} (c : Bool) (x r : Refusal) → refused (cond c x r) ≡ cond c (refused {A = A} x) (refused r)
renumber true x r = refl
renumber false x r = refl

pub in-index : {A : Type 0} (place : ℕ) (r : Refusal) → refused (in_index place r) ≡ renumbered {A = A} 19 place (refused r)
in-index place r = renumber (eqb (number_of r) 1) (IndexCutOff place) r

pub in-tile-head : {A : Type 0} (place : ℕ) (r : Refusal) → refused (in_tile_head place r) ≡ renumbered {A = A} 20 place (refused r)
in-tile-head place r = renumber (eqb (number_of r) 1) (TileHeadCutOff place) r
