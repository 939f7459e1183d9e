-- What stands of a way's head, one behind the other.
use Prim.Native.Nat.{ℕ, ◌<◌, ◌^◌}
use mathlib.Core.Path.{◌≡◌, ap}
use mathlib.Core.Bool.{Bool, ◌&&◌}
use mathlib.Core.List.{List}
use lib.Signed.{mag}
use mir.Syntax.{w8}
use mir.Val.{to_z, of_z}
use borrow.Author.Rules.{rules}
use Rattle.std.specs.Prelude.{Option}
use Rattle.parsing.specs.Parse.{Res, ok, Part, Maybe, map_res}
use Rattle.parsing.proofs.Steps.{then-then}
use Rattle.byte_source.specs.declared.Span.{Span}
use Rattle.byte_source.specs.BigEndian.{big_endian}
use Rattle.byte_source.proofs.ReadLaws.{went-on, refused-on, view-on, view-refused, handed-up}
use Rattle.utils.specs.Vbe.{noted, noted_unsigned}
use Rattle.utils.specs.declared.Noted.{Noted as Held}
use Rattle.tag.specs.declared.Kind.{Kind}
use Rattle.format.specs.Tile.{Tagged, debug_signature, tagged, head_rest, head}
use Rattle.types.specs.Types.{optional_span, maybe_part}
use Rattle.tagged.specs.TagIds.{ShownTags, tags_of, shown_tags, tag_ids}
use Rattle.tagged.specs.declared.Tagged.{Tagged as HeldTags}
use Rattle.tagged.proofs.LayerLaws.{layer-bits}
use Rattle.fields.proofs.FieldLaws.{optional-span-on}
use Rattle.way_head.specs.WayHead.{head_of}
use Rattle.way_head.specs.declared.WayHead.{WayHead}

-- what is handed out of it
abbrev pub held : Option Span → Held ℕ → (start bitmap : ℕ) → HeldTags → WayHead
held g z s b t = record { signature = g; size = z.value; start = s; bitmap = b; layer = to_z w8 (of_z w8 t.layer); tag_ids = t.tag_ids; plain = z.plain && t.plain }

pub head-made : (g : Option Span) (z : Held ℕ) (s b n : ℕ) (t : HeldTags) (a : Maybe Part) (d : Tagged) → g ≡ optional_span a → shown_tags t ≡ tags_of d → mag t.layer < 2 ^ 7 → ◌≡◌ {A = Res WayHead} (ok (held g z s b t) n) (ok (head_of (record { signature = a; size = z.value; start = s; bitmap = b; tagged = d; behind = n; plain = z.plain && d.plain })) n)
head-made g z s b n t a d h q m =
    let y : t.layer ≡ d.layer = ap (λ (s : ShownTags). s.layer) q in
    let i : t.tag_ids ≡ tag_ids d.ids = ap (λ (s : ShownTags). s.ids) q in
    let p : t.plain ≡ d.plain = ap (λ (s : ShownTags). s.plain) q in
    rw (layer-bits t.layer m, h, y, i, p)

pub ruleset heads = (rules, then-then, went-on, refused-on, optional-span-on, view-on, view-refused, handed-up, head-made)

-- the search is here, where little is known
pub head-whole : (m : List ℕ) (debug : Bool) (kinds : List Kind) (at i j k n b : ℕ) (g : Option Span) (z : Held ℕ) (t : HeldTags) → ok (maybe_part m g) i ≡ debug_signature debug m at → ok (noted z.value z.plain) j ≡ noted_unsigned m i → ok b k ≡ big_endian 2 m j → ok (shown_tags t) n ≡ map_res tags_of (tagged kinds m k) → mag t.layer < 2 ^ 7 → ok (held g z j b t) n ≡ map_res head_of (head debug kinds m at)
unfolding head head_rest
head-whole m debug kinds at i j k n b g z t x y w q l = search heads depth 12
