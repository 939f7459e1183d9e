-- A refusal as words, from the case that the code found.
use Prim.Native.Nat.{ℕ}
use mathlib.Core.Path.{◌≡◌, refl, sym, ap, ◌∙◌}
use mathlib.Core.List.{List, [], ◌∷◌}
use types.Run.{OneOf, miss}
use denote.Enum.Declared.{tag_of}
use Rattle.error.specs.Refusals.{number_of, values_of}
use Rattle.error.specs.declared.Lengths.{Lengths}
use Rattle.error.specs.declared.LentRefusal.{LentRefusal}
use Rattle.error.specs.declared.LentRefusal.TheVariants.{Refused, Short}
use Rattle.error.specs.declared.Refusal.{Refusal}
use Rattle.error.specs.declared.Refusal.TheVariants.{Source, InvalidMagic, UnsupportedVersion, InvalidBoundingBox, InvalidHeaderSize, InvalidIndexSignature, InvalidTagId, InvalidTileIndex, TextTooLong, TooManyNodes, NumberTooLong, CoordinateTooLarge, ReversedInterval, InvalidGrid, OutOfTurn, InvalidFeature, ZoomTooLarge, IndexCutOff, TileHeadCutOff}
use Rattle.error.specs.contracts.Refusal as declared
use Rattle.report.specs.declared.Words.{Words}
use Rattle.report.specs.Words.{no_words, pushed}
use Rattle.report.proofs.WordLaws.{chains}
use Rattle.questions.specs.Answers.{pushed_all, in_rust, refusal_words, lent_refusal_words}

-- the cases that have no values in the Rust, by the places of their variants
abbrev plain : List ℕ
plain = 0 ∷ 1 ∷ 3 ∷ 4 ∷ 5 ∷ 7 ∷ 8 ∷ 9 ∷ 10 ∷ 11 ∷ 12 ∷ 13 ∷ 14 ∷ 15 ∷ 16 ∷ 17 ∷ 18 ∷ []

-- the values
abbrev values_there : Refusal → List ℕ
values_there r = in_rust (number_of r) [] (values_of r)

no-values : (r : Refusal) → OneOf plain (tag_of declared.the_type r) → values_there r ≡ []
no-values Source h = refl
no-values InvalidMagic h = refl
no-values (UnsupportedVersion v) h = absurd (miss plain 2 tt h)
no-values InvalidBoundingBox h = refl
no-values InvalidHeaderSize h = refl
no-values InvalidIndexSignature h = refl
no-values (InvalidTagId i) h = absurd (miss plain 6 tt h)
no-values InvalidTileIndex h = refl
no-values TextTooLong h = refl
no-values TooManyNodes h = refl
no-values NumberTooLong h = refl
no-values CoordinateTooLarge h = refl
no-values ReversedInterval h = refl
no-values InvalidGrid h = refl
no-values OutOfTurn h = refl
no-values InvalidFeature h = refl
no-values ZoomTooLarge h = refl
no-values (IndexCutOff i) h = refl
no-values (TileHeadCutOff i) h = refl

module _ (r : Refusal) (w : Words) (e : w ≡ pushed no_words (in_rust (number_of r) 1 (number_of r))) where
  valued : (xs : List ℕ) (x : Words) → values_there r ≡ xs → x ≡ pushed_all w xs → x ≡ refusal_words r
  unfolding refusal_words
  valued xs x h p = p ∙ ap (pushed_all w) (sym h) ∙ ap (λ v. pushed_all v (values_there r)) e

  pub refused-plain : OneOf plain (tag_of declared.the_type r) → w ≡ refusal_words r
  refused-plain h = valued [] w (no-values r h) refl

  pub refused-version : (v : ℕ) (x : Words) → r ≡ UnsupportedVersion v → x ≡ pushed w v → x ≡ refusal_words r
  refused-version v x h p = valued (v ∷ []) x (ap values_there h) p

  pub refused-tag : (i : ℕ) (x : Words) → r ≡ InvalidTagId i → x ≡ pushed w i → x ≡ refusal_words r
  refused-tag i x h p = valued (i ∷ []) x (ap values_there h) p

-- a call that is lent lists
pub lent-refused : (g : LentRefusal) (r : Refusal) (x : Words) → g ≡ Refused r → x ≡ refusal_words r → x ≡ lent_refusal_words g
unfolding lent_refusal_words
lent-refused g r x h p = p ∙ ap lent_refusal_words (sym h)

pub lent-short : (g : LentRefusal) (l : Lengths) (w x : Words) → g ≡ Short l → w ≡ pushed no_words 15 → x ≡ pushed_all w (l.list1 ∷ l.list2 ∷ l.list3 ∷ []) → x ≡ lent_refusal_words g
unfolding lent_refusal_words
lent-short g l w x h e p = p ∙ ap (λ v. pushed_all v (l.list1 ∷ l.list2 ∷ l.list3 ∷ [])) e ∙ ap lent_refusal_words (sym h)

pub ruleset refusals = (chains, refused-plain, refused-version, refused-tag)
