-- Fields of points and ways, in definitions that go on from them.
use Prim.Native.Nat.{ℕ}
use mathlib.Core.Path.{◌≡◌, sym, ap, ◌∙◌}
use mathlib.Core.Bool.{Bool, true, false}
use mathlib.Core.List.{List}
use borrow.Author.Rules.{rules}
use borrow.Author.Tests.{not-true, not-false}
use Rattle.std.specs.Prelude.{Option, Some}
use Rattle.parsing.specs.Parse.{Res, ok, no, Parser, Part, Maybe, none, some, and_then, map_res, optional}
use Rattle.parsing.proofs.Steps.{then-then}
use Rattle.parsing.proofs.Views.{viewed}
use Rattle.byte_source.specs.declared.Span.{Span}
use Rattle.byte_source.specs.Answers.{span_bytes}
use Rattle.byte_source.proofs.ReadLaws as reading
use Rattle.byte_source.proofs.ReadLaws.{went-on, refused-on, view-refused, handed-up}
use Rattle.text.specs.Utf8.{valid}
use Rattle.utils.specs.Vbe.{Noted, noted}
use Rattle.utils.specs.declared.Noted.{Noted as Held}
use Rattle.utils.specs.Answers.{noted_by}
use Rattle.utils.proofs.NumberLaws as numbers
use Rattle.format.specs.Tile.{maybe_value, maybe_plain}
use Rattle.format.specs.WayData.{Node}
use Rattle.types.specs.Types.{optional_span, maybe_part, node_position}
use Rattle.types.specs.declared.Position.{Position}
use Rattle.types.proofs.TypeLaws.{part-back}
use Rattle.fields.specs.Fields.{maybe_noted, noted_position, streamed_span}

-- a field that a flag announces, by the flag: as it is, and in a definition that goes on from it
module _ {A : Type 0} (p : Parser A) (m : List ℕ) (at : ℕ) (c : Bool) (x : Res (Maybe A)) where
  pub optional-yes : c ≡ true → x ≡ and_then (p m at) (λ a e. ok (some a) e) → x ≡ optional c p m at
  unfolding optional
  optional-yes h q = rw h q

  pub optional-no : c ≡ false → x ≡ ok none at → x ≡ optional c p m at
  unfolding optional
  optional-no h q = rw h q

module _ {A B : Type 0} (p : Parser A) (m : List ℕ) (at : ℕ) (c : Bool) (f : Maybe A → ℕ → Res B) (x : Res B) where
  pub optional-on : c ≡ true → x ≡ and_then (p m at) (λ a e. f (some a) e) → x ≡ and_then (optional c p m at) f
  unfolding optional
  optional-on h q = rw h (on (p m at) q)
    where
      on : (r : Res A) → x ≡ and_then r (λ a e. f (some a) e) → x ≡ and_then (and_then r (λ a e. ok (some a) e)) f
      on (ok a e) q = q
      on (no n v) q = q

  pub optional-off : c ≡ false → x ≡ f none at → x ≡ and_then (optional c p m at) f
  unfolding optional
  optional-off h q = rw h q

-- known by what is handed out of it
pub optional-span-on : {B : Type 0} (m : List ℕ) (v : Option Span) (n : ℕ) (r : Res (Maybe Part)) (f : Maybe Part → ℕ → Res B) (x : Res B) → ok (maybe_part m v) n ≡ r → ((a : Maybe Part) → v ≡ optional_span a → x ≡ f a n) → x ≡ and_then r f
optional-span-on m v n r f x q p = went-on (maybe_part m v) n r f x q (p (maybe_part m v) (sym (part-back m v)))

-- the same of what is noted: known by what is handed out, and by the flag
module _ {B : Type 0} (m : List ℕ) (v : Held (Option Span)) (n : ℕ) (r : Res (Maybe (Noted Part))) (f : Maybe (Noted Part) → ℕ → Res B) (x : Res B) where
  pub noted-span-on : ok (noted_by (maybe_part m) v) n ≡ map_res maybe_noted r → ((a : Maybe (Noted Part)) → v.value ≡ optional_span (maybe_value a) → v.plain ≡ maybe_plain a → x ≡ f a n) → x ≡ and_then r f
  noted-span-on q p =
      viewed maybe_noted r f (sym q)
      (λ a e. p a (sym (part-back m v.value) ∙ ap (λ (z : Noted (Maybe Part)). optional_span z.value) e) (ap (λ (z : Noted (Maybe Part)). z.plain) e))

module _ {B : Type 0} (v : Held Position) (n : ℕ) (r : Res (Noted Node)) (f : Noted Node → ℕ → Res B) (x : Res B) where
  pub position-on : ok (noted v.value v.plain) n ≡ map_res noted_position r → ((a : Noted Node) → v.value ≡ node_position a.value → v.plain ≡ a.plain → x ≡ f a n) → x ≡ and_then r f
  position-on q p =
      viewed noted_position r f (sym q)
      (λ a e. p a (ap (λ (z : Noted Position). z.value) e) (ap (λ (z : Noted Position). z.plain) e))

pub ruleset reads = (numbers.reads, view-refused, optional-span-on, noted-span-on, position-on)

-- flags, and the fields that they announce: so many reads that only these laws are tried
pub ruleset announced = (rules, then-then, went-on, refused-on, view-refused, handed-up, noted-span-on)

pub ruleset flagged = (numbers.reads, not-true, not-false, optional-yes, optional-no, optional-on, optional-off)

-- a text as it is streamed
module _ (m : List ℕ) (s : Span) (b : List ℕ) (c : Bool) where
  pub streamed-valid : b ≡ span_bytes m s → c ≡ valid b → c ≡ true → Some s ≡ streamed_span m (Some s)
  streamed-valid d q e = let z : valid (span_bytes m s) ≡ true = sym (q ∙ ap valid d) ∙ e in rw z

  pub streamed-empty : b ≡ span_bytes m s → c ≡ valid b → c ≡ false → Some (record { start = s.start; size = 0 }) ≡ streamed_span m (Some s)
  streamed-empty d q e = let z : valid (span_bytes m s) ≡ false = sym (q ∙ ap valid d) ∙ e in rw z

pub ruleset streams = (rules, streamed-valid, streamed-empty)
