-- A point's fields, and the whole point, in definitions that go on from them.
use Prim.Native.Nat.{ℕ, ◌<◌, ◌^◌}
use mathlib.Core.Path.{◌≡◌, sym, ap}
use mathlib.Core.Bool.{Bool, ◌&&◌}
use mathlib.Core.List.{List}
use lib.IntN.{ℤ}
use lib.Signed.{mag}
use mir.Syntax.{w8, w32}
use mir.Val.{to_z, of_z}
use mir.Facts.{to_z-of_z}
use borrow.Author.Rules.{rules}
use Rattle.std.specs.Prelude.{Option, Some, None}
use Rattle.parsing.specs.Parse.{Res, ok, Part, Maybe, some, and_then, map_res, byte, optional}
use Rattle.parsing.proofs.Steps.{then-then}
use Rattle.parsing.proofs.Views.{viewed}
use Rattle.byte_source.specs.declared.Span.{Span}
use Rattle.byte_source.proofs.ReadLaws.{view-on, view-refused, handed-up}
use Rattle.utils.specs.Vbe.{Noted, noted, noted_text, noted_signed}
use Rattle.utils.specs.declared.Noted.{Noted as Held}
use Rattle.utils.specs.Answers.{noted_held, noted_by}
use Rattle.format.specs.Elevation.{low32}
use Rattle.tag.specs.declared.Kind.{Kind}
use Rattle.format.specs.Header.{bit}
use Rattle.format.specs.WayData.{Node, node}
use Rattle.format.specs.Tile.{Tagged, PointFields, debug_signature, maybe_value, maybe_plain, tagged, point_fields, point}
use Rattle.types.specs.Types.{optional_span, maybe_part, node_position}
use Rattle.types.specs.declared.Position.{Position}
use Rattle.fields.proofs.FieldLaws as fields
use Rattle.fields.proofs.FieldLaws.{optional-span-on, position-on}
use Rattle.tagged.proofs.LayerLaws.{layer-bits}
use Rattle.tagged.specs.TagIds.{ShownTags, tags_of, shown_tags, tag_ids}
use Rattle.tagged.specs.declared.Tagged.{Tagged as HeldTags}
use Rattle.fields.specs.Fields.{maybe_noted, noted_position, streamed_span}
use Rattle.poi.specs.Poi.{optional_elevation, noted_elevation, poi_fields_of, poi_of, streamed_poi}
use Rattle.poi.specs.declared.Poi.{Poi}
use Rattle.poi.specs.declared.PoiFields.{PoiFields}

-- the code's local holds the number's bits, and its value is read back from them
pub elevation-made : (r z : ℤ) (p : Bool) (n : ℕ) → r ≡ low32 z → mag r < 2 ^ 31 → ◌≡◌ {A = Res (Noted (Option ℤ))} (ok (noted (Some (to_z w32 (of_z w32 r))) p) n) (ok (noted_elevation (some (noted z p))) n)
elevation-made r z p n h m = rw (to_z-of_z {w = w32} {z = r} (record { sfits = m }), h)

pub elevation-on : {B : Type 0} (v : Held (Option ℤ)) (n : ℕ) (r : Res (Maybe (Noted ℤ))) (f : Maybe (Noted ℤ) → ℕ → Res B) (x : Res B) → ok (noted_held v) n ≡ map_res noted_elevation r → ((a : Maybe (Noted ℤ)) → v.value ≡ optional_elevation (maybe_value a) → v.plain ≡ maybe_plain a → x ≡ f a n) → x ≡ and_then r f
elevation-on v n r f x q p =
    viewed noted_elevation r f (sym q)
    (λ a e. p a (ap (λ (z : Noted (Option ℤ)). z.value) e) (ap (λ (z : Noted (Option ℤ)). z.plain) e))

pub fields_made : (s t : Held (Option Span)) (y : Held (Option ℤ)) (a b : Maybe (Noted Part)) (z : Maybe (Noted ℤ)) (n : ℕ) → s.value ≡ optional_span (maybe_value a) → s.plain ≡ maybe_plain a → t.value ≡ optional_span (maybe_value b) → t.plain ≡ maybe_plain b → y.value ≡ optional_elevation (maybe_value z) → y.plain ≡ maybe_plain z → ◌≡◌ {A = Res PoiFields} (ok (record { name = s.value; house_number = t.value; elevation = y.value; plain = s.plain && t.plain && y.plain }) n) (ok (poi_fields_of (record { name = maybe_value a; house_number = maybe_value b; elevation = maybe_value z; plain = maybe_plain a && maybe_plain b && maybe_plain z })) n)
fields_made s t y a b z n d d' k k' e e' = rw (d, d', k, k', e, e')

pub ruleset elevations = (fields.flagged, elevation-made)

pub ruleset reads = (fields.announced, elevation-on, fields_made)

-- flags and fields that were read, one behind the other: the search is here, where little is known
pub fields-whole : (m : List ℕ) (at i j k n f : ℕ) (s t : Held (Option Span)) (y : Held (Option ℤ)) → ok f i ≡ byte m at → ok (noted_by (maybe_part m) s) j ≡ map_res maybe_noted (optional (bit 7 f) noted_text m i) → ok (noted_by (maybe_part m) t) k ≡ map_res maybe_noted (optional (bit 6 f) noted_text m j) → ok (noted_held y) n ≡ map_res noted_elevation (optional (bit 5 f) noted_signed m k) → ok (record { name = s.value; house_number = t.value; elevation = y.value; plain = s.plain && t.plain && y.plain }) n ≡ map_res poi_fields_of (point_fields m at)
unfolding point_fields
fields-whole m at i j k n f s t y a b c d = search reads depth 12 fits 5000

pub poi-made : (g : Option Span) (p : Held Position) (t : HeldTags) (r : PoiFields) (n : ℕ) (a : Maybe Part) (b : Noted Node) (d : Tagged) (f : PointFields) → g ≡ optional_span a → p.value ≡ node_position b.value → p.plain ≡ b.plain → shown_tags t ≡ tags_of d → mag t.layer < 2 ^ 7 → r ≡ poi_fields_of f → ◌≡◌ {A = Res Poi} (ok (record { signature = g; position = p.value; layer = to_z w8 (of_z w8 t.layer); tag_ids = t.tag_ids; name = r.name; house_number = r.house_number; elevation = r.elevation; plain = p.plain && t.plain && r.plain }) n) (ok (poi_of (record { signature = a; position = b.value; tagged = d; name = f.name; house_number = f.house_number; elevation = f.elevation; plain = b.plain && d.plain && f.plain })) n)
poi-made g p t r n a b d f h k k' q m z =
    let y : t.layer ≡ d.layer = ap (λ (s : ShownTags). s.layer) q in
    let i : t.tag_ids ≡ tag_ids d.ids = ap (λ (s : ShownTags). s.ids) q in
    let o : t.plain ≡ d.plain = ap (λ (s : ShownTags). s.plain) q in
    rw (layer-bits t.layer m, h, k, y, i, k', o, z)

pub ruleset points = (rules, then-then, optional-span-on, position-on, view-on, view-refused, handed-up, poi-made)

-- signature, position, tags and fields that were read, one behind the other
pub poi-whole : (m : List ℕ) (debug : Bool) (kinds : List Kind) (at i j k n : ℕ) (g : Option Span) (p : Held Position) (t : HeldTags) (r : PoiFields) → ok (maybe_part m g) i ≡ debug_signature debug m at → ok (noted_held p) j ≡ map_res noted_position (node m i) → ok (shown_tags t) k ≡ map_res tags_of (tagged kinds m j) → ok r n ≡ map_res poi_fields_of (point_fields m k) → mag t.layer < 2 ^ 7 → ok (record { signature = g; position = p.value; layer = to_z w8 (of_z w8 t.layer); tag_ids = t.tag_ids; name = r.name; house_number = r.house_number; elevation = r.elevation; plain = p.plain && t.plain && r.plain }) n ≡ map_res poi_of (point debug kinds m at)
unfolding point
poi-whole m debug kinds at i j k n g p t r x y z w l = search points depth 12

pub streamed-made : (m : List ℕ) (p : Poi) (s t : Option Span) → mag p.layer < 2 ^ 7 → s ≡ streamed_span m p.name → t ≡ streamed_span m p.house_number → ◌≡◌ {A = Poi} (record { signature = None; position = p.position; layer = to_z w8 (of_z w8 p.layer); tag_ids = p.tag_ids; name = s; house_number = t; elevation = p.elevation; plain = p.plain }) (streamed_poi m p)
streamed-made m p s t h k q = rw (layer-bits p.layer h, k, q)

pub ruleset streams = (rules, streamed-made)
