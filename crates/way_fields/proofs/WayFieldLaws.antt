-- A way's fields, in definitions that go on from them.
use Prim.Native.Nat.{ℕ}
use mathlib.Core.Path.{◌≡◌, sym, ap, ◌∙◌}
use mathlib.Core.Bool.{Bool, ◌&&◌}
use mathlib.Core.List.{List}
use borrow.Author.Rules.{rules}
use Rattle.std.specs.Prelude.{Option, Some}
use Rattle.parsing.specs.Parse.{Res, ok, Part, Maybe, some, and_then, map_res}
use Rattle.parsing.proofs.Steps.{then-then}
use Rattle.parsing.proofs.Views.{viewed}
use Rattle.error.specs.Refusals.{refused}
use Rattle.error.specs.declared.Refusal.{Refusal}
use Rattle.byte_source.specs.declared.Span.{Span}
use Rattle.byte_source.proofs.ReadLaws.{view-on, view-refused, went-on, refused-on, handed-up}
use Rattle.utils.specs.Vbe.{Noted, noted}
use Rattle.utils.specs.declared.Noted.{Noted as Held}
use Rattle.format.specs.WayData.{Node}
use Rattle.format.specs.Tile as format
use Rattle.format.specs.Tile.{data_block_count, maybe_value, maybe_plain}
use Rattle.format.specs.Header.{bit}
use Rattle.types.specs.Types.{optional_span, node_position, optional_position}
use Rattle.types.specs.declared.Position.{Position}
use Rattle.fields.proofs.FieldLaws as fields
use Rattle.way_fields.specs.WayFields.{label_of, announced_of, way_fields_of}
use Rattle.way_fields.specs.declared.WayFields.{WayFields}
use Rattle.way_fields.specs.declared.Announced.{Announced}

pub label-on : {B : Type 0} (v : Held (Option Position)) (n : ℕ) (r : Res (Maybe (Noted Node))) (f : Maybe (Noted Node) → ℕ → Res B) (x : Res B) → ok (noted v.value v.plain) n ≡ map_res label_of r → ((a : Maybe (Noted Node)) → v.value ≡ optional_position (maybe_value a) → v.plain ≡ maybe_plain a → x ≡ f a n) → x ≡ and_then r f
label-on v n r f x q k =
    viewed label_of r f (sym q)
    (λ a e. k a (ap (λ (z : Noted (Option Position)). z.value) e) (ap (λ (z : Noted (Option Position)). z.plain) e))

module _ (s t u : Option Span) (l : Option Position) (k : ℕ) (p q r o : Bool) (n : ℕ) (a b c : Maybe (Noted Part)) (d : Maybe (Noted Node)) where
  pub announced-made : s ≡ optional_span (maybe_value a) → p ≡ maybe_plain a → t ≡ optional_span (maybe_value b) → q ≡ maybe_plain b → u ≡ optional_span (maybe_value c) → r ≡ maybe_plain c → l ≡ optional_position (maybe_value d) → o ≡ maybe_plain d
      → ◌≡◌ {A = Res Announced} (ok (record { name = s; house_number = t; reference = u; label_position = l; flags = k; plain = p && q && r && o }) n)
      (ok (announced_of (record { name = maybe_value a; house_number = maybe_value b; reference = maybe_value c; label = maybe_value d; flags = k; plain = maybe_plain a && maybe_plain b && maybe_plain c && maybe_plain d })) n)
  announced-made e e' f f' g g' h h' = rw (e, e', f, f', g, g', h, h')

pub label-made : (p : Position) (b : Bool) (a : Noted Node) (n : ℕ) → p ≡ node_position a.value → b ≡ a.plain → ◌≡◌ {A = Res (Noted (Option Position))} (ok (noted (Some p) b) n) (ok (label_of (some a)) n)
label-made p b a n h k = rw (h, k)

pub ruleset labels = (fields.flagged, label-made)

pub ruleset reads = (fields.announced, label-on, announced-made)

-- the flags that were handed out are those that are stored
module _ {B : Type 0} (m : List ℕ) (at : ℕ) (v : Announced) (a : format.WayFields) (d : v ≡ announced_of a) (f : Noted ℕ → ℕ → Res B) where
  pub blocks-on : (k : Held ℕ) (n : ℕ) (x : Res B) → ok (noted k.value k.plain) n ≡ data_block_count v.flags m at → x ≡ f (noted k.value k.plain) n → x ≡ and_then (data_block_count a.flags m at) f
  blocks-on k n x q p = went-on (noted k.value k.plain) n (data_block_count a.flags m at) f x (q ∙ ap (λ (w : Announced). data_block_count w.flags m at) d) p

  pub blocks-refused : (e : Refusal) → refused e ≡ data_block_count v.flags m at → refused e ≡ and_then (data_block_count a.flags m at) f
  blocks-refused e q = refused-on e (data_block_count a.flags m at) f (q ∙ ap (λ (w : Announced). data_block_count w.flags m at) d)

pub fields_made : (v : Announced) (a : format.WayFields) (k : Held ℕ) (n : ℕ) → v ≡ announced_of a → ◌≡◌ {A = Res WayFields} (ok (record { name = v.name; house_number = v.house_number; reference = v.reference; label_position = v.label_position; double_delta = bit 2 v.flags; data_blocks = k.value; plain = v.plain && k.plain }) n) (ok (way_fields_of (record { fields = a; data_blocks = k.value; plain = a.plain && k.plain })) n)
fields_made v a k n h = rw h

pub ruleset bodies = (rules, then-then, handed-up, view-on, view-refused, blocks-on, blocks-refused, fields_made)
