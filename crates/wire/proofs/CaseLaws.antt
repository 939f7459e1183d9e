-- What a definition by cases says of a value whose case is known, words that are written one after the other, and signed numbers at 64 bits.
use Prim.Native.Nat.{ℕ, zero, suc, ◌<◌, ◌≤◌, ◌^◌}
use native.Mathlib.Omega.{arith}
use lib.IntN.{ℤ}
use lib.Signed.{mag}
use mathlib.Core.Path.{◌≡◌, refl, sym, ap, ◌∙◌}
use mathlib.Core.List.{List, [], ◌∷◌}
use lib.ListN.{length, set}
use lib.Seq.{sets}
use types.Run.{OneOf, miss}
use denote.Enum.Declared.{tag_of}
use mir.Syntax.{Width, w8, w32, w64}
use mir.Val.{SFits, to_z, of_z}
use mir.Facts.{to_z-of_z}
use borrow.Author.Rules.{rules, sfits_of}
use Rattle.std.specs.Prelude.{Option, Some, None}
use Rattle.error.specs.Refusals.{number_of, values_of, lent_number, lent_values}
use Rattle.error.specs.declared.Lengths.{Lengths}
use Rattle.error.specs.declared.LentRefusal.{LentRefusal}
use Rattle.error.specs.declared.LentRefusal.TheVariants.{Refused, Short}
use Rattle.error.specs.declared.Refusal.{Refusal}
use Rattle.error.specs.declared.Refusal.TheVariants.{Source, InvalidMagic, UnsupportedVersion, InvalidBoundingBox, InvalidHeaderSize, InvalidIndexSignature, InvalidTagId, InvalidTileIndex, TextTooLong, TooManyNodes, NumberTooLong, CoordinateTooLarge, ReversedInterval, InvalidGrid, OutOfTurn, InvalidFeature, ZoomTooLarge, IndexCutOff, TileHeadCutOff}
use Rattle.error.specs.contracts.Refusal as declared
use Rattle.wire.specs.Elevation.{metre_words}
use Rattle.wire.specs.declared.MetreWords.{MetreWords}
use Rattle.wire.specs.Verdicts.{value_list}

pub by-case : {A B : Type 0} (f : A → B) (g g' : A) (r : B) → g ≡ g' → r ≡ f g' → r ≡ f g
by-case f g g' r h q = q ∙ ap f (sym h)

-- the cases that have no values, by the places of their variants
abbrev plain : List ℕ
plain = 0 ∷ 1 ∷ 3 ∷ 4 ∷ 5 ∷ 7 ∷ 8 ∷ 9 ∷ 10 ∷ 11 ∷ 12 ∷ 13 ∷ 14 ∷ 15 ∷ 16 ∷ []

no-values : (r : Refusal) → OneOf plain (tag_of declared.the_type r) → values_of r ≡ []
no-values Source h = refl
no-values InvalidMagic h = refl
no-values (UnsupportedVersion v) h = absurd (miss plain 2 tt h)
no-values InvalidBoundingBox h = refl
no-values InvalidHeaderSize h = refl
no-values InvalidIndexSignature h = refl
no-values (InvalidTagId i) h = absurd (miss plain 6 tt h)
no-values InvalidTileIndex h = refl
no-values TextTooLong h = refl
no-values TooManyNodes h = refl
no-values NumberTooLong h = refl
no-values CoordinateTooLarge h = refl
no-values ReversedInterval h = refl
no-values InvalidGrid h = refl
no-values OutOfTurn h = refl
no-values InvalidFeature h = refl
no-values ZoomTooLarge h = refl
no-values (IndexCutOff i) h = absurd (miss plain 17 tt h)
no-values (TileHeadCutOff i) h = absurd (miss plain 18 tt h)

-- a refusal's value
module _ (r : Refusal) where
  pub value-version : (v : ℕ) → r ≡ UnsupportedVersion v → value_list (Some v) ≡ values_of r
  unfolding value_list
  value-version v h = ap values_of (sym h)

  pub value-tag : (i : ℕ) → r ≡ InvalidTagId i → value_list (Some i) ≡ values_of r
  unfolding value_list
  value-tag i h = ap values_of (sym h)

  pub value-index : (i : ℕ) → r ≡ IndexCutOff i → value_list (Some i) ≡ values_of r
  unfolding value_list
  value-index i h = ap values_of (sym h)

  pub value-tile : (i : ℕ) → r ≡ TileHeadCutOff i → value_list (Some i) ≡ values_of r
  unfolding value_list
  value-tile i h = ap values_of (sym h)

  pub value_none : OneOf plain (tag_of declared.the_type r) → value_list None ≡ values_of r
  unfolding value_list
  value_none h = sym (no-values r h)

pub ruleset values = (rules, value-version, value-tag, value-index, value-tile, value_none)

-- a word at a place where there is none
pub set_past : (l : List ℕ) (i x : ℕ) → length l ≤ i → l ≡ set l i x
set_past [] i x h = refl
set_past (y ∷ l) zero x h = absurd (omega arith)
set_past (y ∷ l) (suc i) x h = ap (λ k. y ∷ k) (set_past l i x (omega arith))

pub ruleset stores = (rules, set_past)

-- a refusal's number and values, as they are written
module _ (n k : ℕ) (vs l m : List ℕ) (o : Option ℕ) where
  pub refusal-plain : o ≡ None → k ≡ n → value_list o ≡ vs → (k ≡ n) × (l ≡ sets l 0 vs)
  unfolding value_list
  refusal-plain e p u = (p, ap (sets l 0) (ap value_list (sym e) ∙ u))

  pub refusal-valued : (v : ℕ) → o ≡ Some v → k ≡ n → value_list o ≡ vs → m ≡ set l 0 v → (k ≡ n) × (m ≡ sets l 0 vs)
  unfolding value_list
  refusal-valued v e p u s = (p, s ∙ ap (sets l 0) (ap value_list (sym e) ∙ u))

-- a signed number that is passed at its width, and stored at 64 bits, keeps its value
pub kept : (w : Width) (r x : ℤ) → r ≡ to_z w (of_z w x) → mag r < 2 ^ 63 → SFits w x → to_z w64 (of_z w64 r) ≡ x
kept w r x e h f = to_z-of_z {w = w64} (sfits_of h) ∙ e ∙ to_z-of_z {w = w} f

pub layer-kept : (r x : ℤ) → r ≡ to_z w8 (of_z w8 x) → mag r < 2 ^ 63 → mag x < 2 ^ 7 → to_z w64 (of_z w64 r) ≡ x
layer-kept r x q b f = kept w8 r x q b (sfits_of f)

-- layer and elevation
pub layer-metres : (r x : ℤ) (a : MetreWords) (e : Option ℤ) → r ≡ to_z w8 (of_z w8 x) → mag r < 2 ^ 63 → mag x < 2 ^ 7 → a ≡ metre_words e → mag a.metres < 2 ^ 63 → to_z w64 (of_z w64 r) ∷ to_z w64 (of_z w64 a.metres) ∷ [] ≡ x ∷ (metre_words e).metres ∷ []
layer-metres r x a e q b f p g = rw (kept w8 r x q b (sfits_of f), to_z-of_z {w = w64} (sfits_of g), p) refl

pub metres-at : (g : Option ℤ) (r x : ℤ) → r ≡ to_z w32 (of_z w32 x) → mag x < 2 ^ 31 → g ≡ Some x → ◌≡◌ {A = MetreWords} (record { present = 1; metres = r }) (metre_words g)
metres-at g r x e f h = ap (λ y. record { present = 1; metres = y }) (e ∙ to_z-of_z {w = w32} (sfits_of f)) ∙ ap metre_words (sym h)

pub ruleset made = (rules, metres-at)

pub ruleset layers = (rules, layer-kept, layer-metres)

pub ruleset refusals = (rules, refusal-plain, refusal-valued)

module _ (g : LentRefusal) (n : ℕ) (l m : List ℕ) where
  pub lent-refused : (r : Refusal) → g ≡ Refused r → (n ≡ number_of r) × (m ≡ sets l 0 (values_of r)) → (n ≡ lent_number g) × (m ≡ sets l 0 (lent_values g))
  lent-refused r e p = (p.0 ∙ ap lent_number (sym e), p.1 ∙ ap (λ x. sets l 0 (lent_values x)) (sym e))

  pub lent-short : (s : Lengths) → g ≡ Short s → m ≡ sets l 0 (lent_values (Short s)) → (15 ≡ lent_number g) × (m ≡ sets l 0 (lent_values g))
  lent-short s e p = (ap lent_number (sym e), p ∙ ap (λ x. sets l 0 (lent_values x)) (sym e))

-- six words, one after the other
pub six : (l a b c d e f : List ℕ) (x₀ x₁ x₂ x₃ x₄ x₅ : ℕ) → f ≡ set e 5 x₅ → e ≡ set d 4 x₄ → d ≡ set c 3 x₃ → c ≡ set b 2 x₂ → b ≡ set a 1 x₁ → a ≡ set l 0 x₀ → f ≡ sets l 0 (x₀ ∷ x₁ ∷ x₂ ∷ x₃ ∷ x₄ ∷ x₅ ∷ [])
six l a b c d e f x₀ x₁ x₂ x₃ x₄ x₅ p₅ p₄ p₃ p₂ p₁ p₀ = rw (p₅, p₄, p₃, p₂, p₁, p₀) refl

pub ruleset sixes = (rules, six)
