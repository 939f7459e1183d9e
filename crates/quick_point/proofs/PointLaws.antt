-- One law for each read of a point.
use Prim.Native.Nat.{ℕ, ◌+◌, ◌-◌, ◌^◌, ◌<◌, ◌≤◌}
use native.Mathlib.Omega.{arith}
use mathlib.Core.Path.{◌≡◌, refl, sym, ap, ◌∙◌}
use mathlib.Core.Bool.{Bool, true, false, not, ◌&&◌}
use mathlib.Core.List.{List}
use lib.IntN.{ℤ}
use lib.ListN.{length, get_or, take, drop}
use lib.Signed.{mag}
use mir.Syntax.{w64}
use mir.Val.{to_z, of_z}
use mir.Facts.{to_z-of_z}
use borrow.Author.Rules.{rules}
use borrow.Author.Tests.{not-true, not-false, le-leb}
use Rattle.std.specs.Prelude.{Option, Some, None}
use Rattle.byte_source.specs.declared.Span.{Span}
use Rattle.parsing.specs.Parse.{Res, ok, map_res, Part, Maybe, none, optional}
use Rattle.parsing.proofs.Steps.{byte-here}
use Rattle.utils.specs.Vbe.{Noted, noted, noted_unsigned, noted_signed, noted_text}
use Rattle.text.specs.Utf8.{valid}
use Rattle.tag.specs.declared.Kind.{Kind}
use Rattle.format.specs.Header.{bit}
use Rattle.format.specs.WayData.{Node, node}
use Rattle.format.specs.Tile.{maybe_value, maybe_plain, Tagged, PointFields, point_fields, debug_signature, tagged, point}
use Rattle.quick_head.specs.Quick.{Reads, whole, ShownTags, tags_of}
use Rattle.quick_head.specs.declared.QuickNode.{QuickNode}
use Rattle.quick_head.specs.declared.QuickTags.{QuickTags}
use Rattle.quick_head.proofs.QuickLaws.{reads-inside, whole_is, stored, part-is}
use Rattle.quick_point.specs.QuickPoint.{text_of, elevation_of, ShownFields, fields_of, fields_in, ShownPoint, point_of, point_in}
use Rattle.quick_point.specs.declared.QuickFields.{QuickFields}

pub part-ends : (m : List ℕ) (at v e : ℕ) → Reads whole (noted_unsigned m at) (length m) (noted v true) e → v ≤ length m - e → e + v ≤ length m
part-ends m at v e r l = omega (arith, r.inside)

-- texts
module _ (m : List ℕ) (at : ℕ) (flag : Bool) where
  pub text-none : at ≤ length m → not flag ≡ true → Reads text_of (optional flag noted_text m at) (length m) (noted None true) at
  unfolding optional
  text-none h f = record { same = rw (not-true flag f); inside = h }

  pub text-some : (n e : ℕ) (v : Bool) → not flag ≡ false → Reads whole (noted_unsigned m at) (length m) (noted n true) e → n ≤ 1048576 → n ≤ length m - e → v ≡ valid (take (e + n - e) (drop e m)) → not v ≡ false → Reads text_of (optional flag noted_text m at) (length m) (noted (Some (record { start = e; size = n })) true) (e + n)
  unfolding optional noted_text
  text-some n e v f r b l q w =
      let i = r.inside in
      let j : e + n - e ≡ n = omega arith in
      let u : valid (take n (drop e m)) ≡ true = ap (λ k. valid (take k (drop e m))) (sym j) ∙ sym q ∙ not-false v w in
      record {
        same = rw (not-false flag f, whole_is (noted_unsigned m at) r.same, le-leb n (2 ^ 20) b, part-is m e n i l, u);
        inside = omega arith;
      }

  pub elevation-none : at ≤ length m → not flag ≡ true → Reads elevation_of (optional flag noted_signed m at) (length m) (noted None true) at
  unfolding optional
  elevation-none h f = record { same = rw (not-true flag f); inside = h }

  pub elevation-some : (v : ℤ) (e : ℕ) → not flag ≡ false → Reads whole (noted_signed m at) (length m) (noted v true) e → mag v < 2 ^ 63 → Reads elevation_of (optional flag noted_signed m at) (length m) (noted (Some (to_z w64 (of_z w64 v))) true) e
  unfolding optional
  elevation-some v e f r z = record { same = rw (not-false flag f, whole_is (noted_signed m at) r.same, to_z-of_z {w = w64} {z = v} (record { sfits = z })); inside = r.inside }

-- a noted view, in its two parts
value_of : {A : Type 0} {a b : Noted A} → a ≡ b → a.value ≡ b.value
value_of e = ap (λ (n : Noted _). n.value) e

plain_of : {A : Type 0} {a b : Noted A} → a ≡ b → a.plain ≡ b.plain
plain_of e = ap (λ (n : Noted _). n.plain) e

same-fields : (n n' h h' : Option Span) (e e' : Option ℤ) (p q r : Bool) (at : ℕ) → n ≡ n' → h ≡ h' → e ≡ e' → p ≡ true → q ≡ true → r ≡ true → ◌≡◌ {A = Res (Noted ShownFields)} (ok (noted (record { name = n; house = h; elevation = e }) (p && q && r)) at) (ok (noted (record { name = n'; house = h'; elevation = e' }) true) at)
same-fields n n' h h' e e' p q r at a b c d f g = rw (a, b, c, d, f, g) refl

same_point : (l : Node) (t t' : ShownTags) (f f' : ShownFields) (p q : Bool) (at : ℕ) → t ≡ t' → f ≡ f' → p ≡ true → q ≡ true → ◌≡◌ {A = Res ShownPoint} (ok (record { position = l; tags = t; fields = f; plain = true && p && q }) at) (ok (record { position = l; tags = t'; fields = f'; plain = true }) at)
same_point l t t' f f' p q at a b c d = rw (a, b, c, d) refl

-- the fields that the flags announce
module _ (m : List ℕ) (at : ℕ) where
  fields-are : (f i j e : ℕ) (n h : Maybe (Noted Part)) (z : Maybe (Noted ℤ)) → at < length m → f ≡ get_or m at 0 → optional (bit 7 f) noted_text m (at + 1) ≡ ok n i → optional (bit 6 f) noted_text m i ≡ ok h j → optional (bit 5 f) noted_signed m j ≡ ok z e → point_fields m at ≡ ok (record { name = maybe_value n; house_number = maybe_value h; elevation = maybe_value z; plain = maybe_plain n && maybe_plain h && maybe_plain z }) e
  unfolding point_fields
  fields-are f i j e n h z b q u v w = rw (byte-here m at b, ← q, u, v, w)

  pub fields-is : (n h : Option Span) (z : Option ℤ) (f i j e : ℕ) → at < length m → f ≡ get_or m at 0
      → Reads text_of (optional (bit 7 f) noted_text m (at + 1)) (length m) (noted n true) i
      → Reads text_of (optional (bit 6 f) noted_text m i) (length m) (noted h true) j
      → Reads elevation_of (optional (bit 5 f) noted_signed m j) (length m) (noted z true) e
      → Reads fields_of (point_fields m at) (length m) (noted (record { name = n; house = h; elevation = z }) true) e
  fields-is n h z f i j e b q u v r =
      let x = stored text_of (optional (bit 7 f) noted_text m (at + 1)) (noted n true) i u.same in
      let y = stored text_of (optional (bit 6 f) noted_text m i) (noted h true) j v.same in
      let w = stored elevation_of (optional (bit 5 f) noted_signed m j) (noted z true) e r.same in
      record {
        same = ap (map_res fields_of) (fields-are f i j e x.value y.value w.value b q x.is y.is w.is)
            ∙ same-fields _ _ _ _ _ _ _ _ _ e (value_of x.shown) (value_of y.shown) (value_of w.shown) (plain_of x.shown) (plain_of y.shown) (plain_of w.shown);
        inside = r.inside;
      }

  point-are : (K : List Kind) (i j e : ℕ) (p : Noted Node) (t : Tagged) (f : PointFields) → node m at ≡ ok p i → tagged K m i ≡ ok t j → point_fields m j ≡ ok f e → point false K m at ≡ ok (record { signature = none; position = p.value; tagged = t; name = f.name; house_number = f.house_number; elevation = f.elevation; plain = p.plain && t.plain && f.plain }) e
  unfolding point debug_signature optional
  point-are K i j e p t f u v w = rw (u, v, w)

  pub point-is : (K : List Kind) (lent l : List ℕ) (d : QuickNode) (t : QuickTags) (f : QuickFields)
      → Reads whole (node m at) (length m) (noted (record { latitude = d.latitude.0; longitude = d.longitude.0 }) true) d.next
      → Reads (tags_of lent) (tagged K m d.next) (length m) (record { layer = t.layer; ids = l; count = t.count; plain = true }) t.next
      → Reads fields_of (point_fields m t.next) (length m) (noted (fields_in f) true) f.next
      → Reads (point_of lent) (point false K m at) (length m) (point_in (record { node = d; tags = t; fields = f }) l) f.next
  point-is K lent l d t f x u r =
      let y = stored (tags_of lent) (tagged K m d.next) (record { layer = t.layer; ids = l; count = t.count; plain = true }) t.next u.same in
      let w = stored fields_of (point_fields m t.next) (noted (fields_in f) true) f.next r.same in
      record {
        same = ap (map_res (point_of lent)) (point-are K d.next t.next f.next _ y.value w.value (whole_is (node m at) x.same) y.is w.is)
            ∙ same_point _ _ _ _ _ _ _ f.next y.shown (value_of w.shown) (ap (λ (s : ShownTags). s.plain) y.shown) (plain_of w.shown);
        inside = r.inside;
      }

pub ruleset texts = (rules, reads-inside, part-ends, text-none, text-some, elevation-none, elevation-some, fields-is, point-is)
