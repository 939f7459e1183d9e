-- How the other program reads refusals and what may be absent, and that nothing is lost on the way.
use Rattle.std.specs.Prelude.{ℕ, ◌-◌, Bool, true, false, cond, ◌≡◌, refl, List, [], ◌∷◌, eqb, Float, get_or, Option, Some, None}
use Rattle.byte_source.specs.declared.Span.{Span}
use Rattle.types.specs.declared.Position.{Position}
use Rattle.std.proofs.lemmas.List.Edits.{sets}
use Rattle.error.specs.Refusals.{number_of, values_of, lent_number, lent_values}
use Rattle.error.specs.declared.Lengths.{Lengths}
use Rattle.error.specs.declared.LentRefusal.{LentRefusal}
use Rattle.error.specs.declared.LentRefusal.TheVariants.{Refused, Short}
use Rattle.error.specs.declared.Refusal.{Refusal}
use Rattle.error.specs.declared.Refusal.TheVariants.{Source, InvalidMagic, UnsupportedVersion, InvalidBoundingBox, InvalidHeaderSize, InvalidIndexSignature, InvalidTagId, InvalidTileIndex, TextTooLong, TooManyNodes, NumberTooLong, CoordinateTooLarge, ReversedInterval, InvalidGrid, OutOfTurn, InvalidFeature, ZoomTooLarge, IndexCutOff, TileHeadCutOff}
use Rattle.wire.specs.Wire.{Wire, list_of, truth, there}
use Rattle.wire.specs.Verdicts.{nowhere, span_words, place_words}

-- a refusal by its number and value; in the place of 15, which comes only from a call that is lent lists or a buffer, stands another
abbrev pub refusals : ℕ → List Refusal
refusals v =
    Source ∷ InvalidMagic ∷ UnsupportedVersion v ∷ InvalidBoundingBox ∷ InvalidHeaderSize ∷ InvalidIndexSignature ∷ InvalidTagId v ∷
    InvalidTileIndex ∷ TextTooLong ∷ TooManyNodes ∷ NumberTooLong ∷ CoordinateTooLarge ∷ ReversedInterval ∷ InvalidGrid ∷ Source ∷ OutOfTurn ∷
    InvalidFeature ∷ ZoomTooLarge ∷ IndexCutOff v ∷ TileHeadCutOff v ∷ []

abbrev pub refusal_in : ℕ → List ℕ → Refusal
refusal_in n words = get_or (refusals (get_or words 0 0)) (n - 1) Source

-- the result, or the refusal
abbrev pub settle : {A : Type 0} → (Refusal → A) → A → Wire → A
settle f a w = there w.number a (f (refusal_in w.number (list_of w 0)))

-- whatever words there were
pub settled : {A : Type 0} (f : Refusal → A) (a : A) (x : ℕ) (l : List ℕ) (r : Refusal) → there (number_of r) a (f (refusal_in (number_of r) (sets (x ∷ l) 0 (values_of r)))) ≡ f r
settled f a x l Source = refl
settled f a x l InvalidMagic = refl
settled f a x l (UnsupportedVersion v) = refl
settled f a x l InvalidBoundingBox = refl
settled f a x l InvalidHeaderSize = refl
settled f a x l InvalidIndexSignature = refl
settled f a x l (InvalidTagId i) = refl
settled f a x l InvalidTileIndex = refl
settled f a x l TextTooLong = refl
settled f a x l TooManyNodes = refl
settled f a x l NumberTooLong = refl
settled f a x l CoordinateTooLarge = refl
settled f a x l ReversedInterval = refl
settled f a x l InvalidGrid = refl
settled f a x l OutOfTurn = refl
settled f a x l InvalidFeature = refl
settled f a x l ZoomTooLarge = refl
settled f a x l (IndexCutOff i) = refl
settled f a x l (TileHeadCutOff i) = refl

-- the same of a call that is lent lists or a buffer
abbrev pub lengths_in : List ℕ → Lengths
lengths_in l = record { list1 = get_or l 0 0; list2 = get_or l 1 0; list3 = get_or l 2 0; list4 = get_or l 3 0; list5 = get_or l 4 0; buffer = get_or l 5 0 }

abbrev pub lent_refusal_in : ℕ → List ℕ → LentRefusal
lent_refusal_in n l = cond (eqb n 15) (Short (lengths_in l)) (Refused (refusal_in n l))

abbrev pub settle_lent : {A : Type 0} → (LentRefusal → A) → A → Wire → A
settle_lent f a w = there w.number a (f (lent_refusal_in w.number (list_of w 0)))

not-15 : (r : Refusal) → eqb (number_of r) 15 ≡ false
not-15 Source = refl
not-15 InvalidMagic = refl
not-15 (UnsupportedVersion v) = refl
not-15 InvalidBoundingBox = refl
not-15 InvalidHeaderSize = refl
not-15 InvalidIndexSignature = refl
not-15 (InvalidTagId i) = refl
not-15 InvalidTileIndex = refl
not-15 TextTooLong = refl
not-15 TooManyNodes = refl
not-15 NumberTooLong = refl
not-15 CoordinateTooLarge = refl
not-15 ReversedInterval = refl
not-15 InvalidGrid = refl
not-15 OutOfTurn = refl
not-15 InvalidFeature = refl
not-15 ZoomTooLarge = refl
not-15 (IndexCutOff i) = refl
not-15 (TileHeadCutOff i) = refl

pub settled-lent : {A : Type 0} (f : LentRefusal → A) (a : A) (x₀ x₁ x₂ x₃ x₄ x₅ : ℕ) (l : List ℕ) (r : LentRefusal) →
    there (lent_number r) a (f (lent_refusal_in (lent_number r) (sets (x₀ ∷ x₁ ∷ x₂ ∷ x₃ ∷ x₄ ∷ x₅ ∷ l) 0 (lent_values r)))) ≡ f r
settled-lent f a x₀ x₁ x₂ x₃ x₄ x₅ l (Refused r) = rw (not-15 r) (settled (λ x. f (Refused x)) a x₀ (x₁ ∷ x₂ ∷ x₃ ∷ x₄ ∷ x₅ ∷ l) r)
settled-lent f a x₀ x₁ x₂ x₃ x₄ x₅ l (Short n) = refl

pub truth-back : (b : Bool) → truth (cond b 1 0) ≡ b
truth-back true = refl
truth-back false = refl

-- what may be absent
abbrev pub span_in : (present start size : ℕ) → Option Span
span_in p s n = there p None (Some (record { start = s; size = n }))

pub span-back : (s : Option Span) → span_in (span_words s).present (span_words s).start (span_words s).size ≡ s
span-back None = refl
span-back (Some s) = refl

abbrev pub place_in : (present : ℕ) → (latitude longitude : Float) → Option Position
place_in p y x = there p None (Some (record { latitude = y; longitude = x }))

pub place-back : (p : Option Position) → place_in (place_words p).present (place_words p).latitude (place_words p).longitude ≡ p
place-back None = refl
place-back (Some p) = refl

-- degrees i
abbrev pub degree : Wire → ℕ → Float
degree w i = get_or w.degrees i nowhere
