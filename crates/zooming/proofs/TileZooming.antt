-- Zooming in only adds, of a Mapsforge tile, debug or not.
use mathlib.Core.Path.{◌≡◌, refl, ◌∙◌}
use mathlib.Core.Bool.{Bool, true, false, ◌&&◌}
use mathlib.Core.List.{List}
use Prim.Native.Nat.{ℕ, ◌≤◌}
use native.Mathlib.Omega.{arith}
use Rattle.parsing.specs.Parse.{ok, Part, Maybe, and_then}
use Rattle.parsing.specs.Good.{split}
use Rattle.byte_source.specs.BigEndian.{big_endian}
use Rattle.utils.specs.Vbe.{Noted, noted_unsigned, noted_unsigned-strict}
use Rattle.tag.specs.declared.Kind.{Kind}
use Rattle.format.specs.Rows.{rows_upto}
use Rattle.format.specs.Tile as tile
use Rattle.format.specs.Tile.{debug_signature, debug_signature-good, head, head_rest, tagged}
use Rattle.agreement.specs.TileFormat.{TileEnd, tile_format, note_plain}
use Rattle.zooming.specs.Zooming.{Advances, Grows}
use Rattle.zooming.specs.TileEnds.{PlainToo}

-- a way's head has the data start that its size field ends at
rest-start : (kinds : List Kind) (g : Maybe Part) (n : Noted ℕ) (a : ℕ) (m : List ℕ) (i : ℕ) (h : tile.Head) (e : ℕ) → head_rest kinds g n a m i ≡ ok h e → a ≡ h.start
unfolding head_rest
rest-start kinds g n a m i h e k =
    let s = split (big_endian 2 m i) (λ b x. and_then (tagged kinds m x) (λ t y. ok (record { signature = g; size = n.value; start = a; bitmap = b; tagged = t; behind = y; plain = n.plain && t.plain }) y)) h e k in
    let t = split (tagged kinds m s.mid) (λ t y. ok (record { signature = g; size = n.value; start = a; bitmap = s.val; tagged = t; behind = y; plain = n.plain && t.plain }) y) h e s.second in
    let z = t.second in
    cc

pub tile-advances : (debug : Bool) (poi_kinds way_kinds : List Kind) → Advances (tile_format debug poi_kinds way_kinds)
unfolding head
tile-advances debug poi_kinds way_kinds = record {
  starts = λ m i h e k.
      let s = split (debug_signature debug m i) (λ g x. and_then (noted_unsigned m x) (λ n y. head_rest way_kinds g n y m y)) h e k in
      let t = split (noted_unsigned m s.mid) (λ n y. head_rest way_kinds s.val n y m y) h e s.second in
      let f = (debug_signature-good debug).forth m i s.val s.mid s.first in
      let u = noted_unsigned-strict.more m s.mid t.val t.mid t.first in
      let w = rest-start way_kinds s.val t.val t.mid m t.mid h e t.second in
      omega arith;
}

-- so what the richer end says to be plain, the poorer one does
left-true : (a b : Bool) → (a && b) ≡ true → a ≡ true
left-true true b h = refl
left-true false b h = h

both_true : (a b c : Bool) → (b ≡ true → a ≡ true) → (b && c) ≡ true → (a && c) ≡ true
both_true true b c f h = right-true b c h
  where
    right-true : (b c : Bool) → (b && c) ≡ true → c ≡ true
    right-true true c h = h
    right-true false c h = absurd (let z : ◌≡◌ {A = ℕ} 0 1 = cc in omega arith)
both_true false b c f h = absurd (let e = f (left-true b c h) in let z : ◌≡◌ {A = ℕ} 0 1 = cc in omega arith)

more : (p : Bool) (z : TileEnd) → PlainToo z (note_plain p z)
more p z = record { sub_file = refl; water = refl; plain = left-true z.plain p }

on_both : (p : Bool) {y z : TileEnd} → PlainToo y z → PlainToo (note_plain p y) (note_plain p z)
on_both p {y} {z} r = record { sub_file = r.sub_file; water = r.water; plain = both_true y.plain z.plain p r.plain }

pub tile-grows : (debug : Bool) (poi_kinds way_kinds : List Kind) → Grows (tile_format debug poi_kinds way_kinds) PlainToo
tile-grows debug poi_kinds way_kinds = record {
  same = λ z. record { sub_file = refl; water = refl; plain = λ h. h };
  after = λ r s. record { sub_file = s.sub_file ∙ r.sub_file; water = s.water ∙ r.water; plain = λ h. r.plain (s.plain h) };
  point = λ p z. more p.plain z;
  head = λ h z. more h.plain z;
  body = λ b z. more b.plain z;
  on-point = λ p r. on_both p.plain r;
  on-head = λ h r. on_both h.plain r;
  on-body = λ b r. on_both b.plain r;
}

-- a lower zoom has no more rows, in an interval from low to high
pub lower-zoom : (low high zoom zoom' : ℕ) → zoom' ≤ zoom → rows_upto low high zoom' ≤ rows_upto low high zoom
lower-zoom low high zoom zoom' h = omega arith
