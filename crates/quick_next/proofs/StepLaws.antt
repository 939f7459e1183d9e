-- A head or a point that a quick read gave is the answer of the stream's next.
use Prim.Native.Nat.{ℕ, ◌+◌, ◌-◌, ◌^◌, ◌≤◌, ◌<◌}
use mathlib.Core.Path.{◌≡◌, refl, sym, ap, ◌∙◌}
use mathlib.Core.Bool.{Bool, true, false, not, ◌&&◌}
use mathlib.Core.List.{List}
use lib.Dec.{ltb}
use lib.IntN.{ℤ}
use lib.ListN.{length, replicate}
use lib.Signed.{mag}
use mir.Syntax.{w8}
use mir.Val.{to_z, of_z}
use borrow.Author.Rules.{rules}
use borrow.Author.Tests.{lt-ltb, le-ltb}
use Rattle.std.specs.Prelude.{None, option_map}
use Rattle.parsing.specs.Parse.{ok, Part, Maybe, none, some}
use Rattle.arithmetic.specs.Cut.{cut}
use Rattle.tag.specs.declared.Kind.{Kind}
use Rattle.format.specs.Tile.{Point, Head, point, head}
use Rattle.format.specs.Elevation.{low32}
use Rattle.format.specs.Streamed.{streamed_maybe}
use Rattle.types.specs.Types.{optional_span, node_position}
use Rattle.types.proofs.NotedLaws.{and-true}
use Rattle.tagged.specs.TagIds.{filled_ids}
use Rattle.tagged.proofs.LayerLaws.{layer-bits}
use Rattle.poi.specs.Poi.{optional_elevation}
use Rattle.poi.specs.declared.Poi.{Poi}
use Rattle.agreement.specs.Calls.{got_point, got_head, Step, plain}
use Rattle.agreement.specs.Stream.{idle, waits, on_point, on_head, on_next}
use Rattle.agreement.specs.TileFormat as tile
use Rattle.agreement.specs.TileFormat.{tile_format}
use Rattle.agreement.proofs.CallLaws.{next-point, next-head}
use Rattle.tile_layout.specs.declared.TileLayout.{TileLayout}
use Rattle.visit.specs.Visit.{end_of, TileState, state_of, ShownAnswer, shown_point, shown_head, shown_step, next_step}
use Rattle.visit.specs.declared.TileEnd.{TileEnd}
use Rattle.visit.specs.declared.Remaining.{Remaining}
use Rattle.visit.specs.declared.WaitingWay.{WaitingWay}
use Rattle.visit.specs.declared.Stream.{Stream}
use Rattle.visit.specs.declared.Turn.TheVariants as turn
use Rattle.quick_head.specs.Quick.{Reads, put, ShownHead, head_of}
use Rattle.quick_head.specs.declared.QuickHead.{QuickHead}
use Rattle.quick_head.proofs.QuickLaws.{stored}
use Rattle.quick_point.specs.QuickPoint.{shown_text, shown_elevation, ShownPoint, point_of, point_in}
use Rattle.quick_point.specs.declared.QuickPoint.{QuickPoint}
use Rattle.quick_next.specs.QuickNext.{is_quick, way_step, point_step, given_point}
use Rattle.quick_next.specs.declared.PointStep.{PointStep}

abbrev Shown : Type 0
Shown = Step ShownAnswer TileState

-- whether to try
module _ (l : TileLayout) (s : Stream) where
  no-and : (b : Bool) → (b && false) ≡ false
  no-and true = refl
  no-and false = refl

  pub quick-waits : (w : WaitingWay) → s.turn ≡ turn.Waits w → false ≡ is_quick l s
  quick-waits w e = rw (e, no-and (not l.debug)) refl

  pub quick-debug : l.debug ≡ true → false ≡ is_quick l s
  quick-debug d = rw d refl

  module _ (q : Remaining) (e : s.turn ≡ turn.Idle q) (d : l.debug ≡ false) where
    pub quick-point : 0 < q.points → true ≡ is_quick l s
    quick-point h = rw (e, d, lt-ltb 0 q.points h) refl

    pub quick-way : q.points ≤ 0 → ltb 0 q.ways ≡ is_quick l s
    quick-way h = rw (e, d, le-ltb 0 q.points h) refl

pub ruleset tries = (rules, quick-waits, quick-debug, quick-point, quick-way)

-- what was plain changes nothing in what the end will say
same_end : (z : TileEnd) (p : Bool) → p ≡ true → tile.note_plain p (end_of z) ≡ end_of z
same_end z p e = rw (e, and-true z.plain)

-- a way
abbrev handed : QuickHead → List ℕ → ShownHead
handed h ids = record { past = h.past; bitmap = h.bitmap; tags = record { layer = h.layer; ids = ids; count = h.count; plain = true }; plain = true }

module _ (debug : Bool) (K K' : List Kind) (m : List ℕ) (s : Stream) (q : Remaining) (h : QuickHead) (ids : List ℕ) where
  abbrev step : Shown
  step = shown_step (on_next (tile_format debug K K') m (state_of s))

  abbrev way : ShownHead → tile.TileEnd → Shown
  way x z = plain (got_head (record { bitmap = x.bitmap; layer = x.tags.layer; tag_ids = record { ids = x.tags.ids; count = x.tags.count }; plain = x.plain })) (waits (q.ways - 1) x.past h.body x.plain z)

  head-shown : (a : Head) (z : tile.TileEnd) → ◌≡◌ {A = Shown} (plain (got_head (shown_head a)) (waits (q.ways - 1) (cut (a.start + a.size)) h.body a.plain z)) (way (head_of (replicate 15 0) a) z)
  unfolding filled_ids put
  head-shown a z = refl

  pub way-is : (lent : List ℕ) → s.turn ≡ turn.Idle q → debug ≡ false → q.points ≤ 0 → 1 ≤ q.ways → lent ≡ replicate 15 0 → Reads (head_of lent) (head false K' m q.way) (length m) (handed h ids) h.body → mag h.layer < 2 ^ 7
      → next_step (way_step (record { stream = record { turn = turn.Waits (record { ways = q.ways - 1; past = h.past; body = h.body; head_plain = true }); end = s.end }; count = h.count; bitmap = h.bitmap; layer = to_z w8 (of_z w8 h.layer) }) ids) ≡ step
  way-is lent e d i o w r b =
      let x = stored (head_of (replicate 15 0)) (head false K' m q.way) (handed h ids) h.body (rw w at r).same in
      let a = x.value in
      let is : head debug K' m q.way ≡ ok a h.body = rw d x.is in
      let z = s.end in
      let pl = ap (λ (y : ShownHead). y.plain) x.shown in
      let same : step ≡ way (handed h ids) (end_of z) =
      rw e (ap shown_step (next-head (tile_format debug K K') m q.points q.ways q.at q.way (end_of z) i o ∙ ap (on_head (tile_format debug K K') (q.ways - 1) q.at q.way (end_of z)) is)
      ∙ head-shown a (tile.note_plain a.plain (end_of z))
      ∙ ap (λ (y : tile.TileEnd). way (head_of (replicate 15 0) a) y) (same_end z a.plain pl)
      ∙ ap (λ (y : ShownHead). way y (end_of z)) x.shown) in
      rw (layer-bits h.layer b) (sym same)

-- a point, by what is shown of it
abbrev poi_by : ShownPoint → Poi
poi_by p = record {
  signature = None;
  position = node_position p.position;
  layer = p.tags.layer;
  tag_ids = record { ids = p.tags.ids; count = p.tags.count };
  name = p.fields.name;
  house_number = p.fields.house;
  elevation = option_map low32 p.fields.elevation;
  plain = p.plain;
}

span-by : (n : Maybe Part) → optional_span (streamed_maybe n) ≡ shown_text n
span-by none = refl
span-by (some p) = refl

elevation-by : (e : Maybe ℤ) → optional_elevation e ≡ option_map low32 (shown_elevation e)
elevation-by none = refl
elevation-by (some z) = refl

point-by : (a : Point) → shown_point a ≡ poi_by (point_of (replicate 15 0) a)
unfolding filled_ids put
point-by a = rw (span-by a.name, span-by a.house_number, elevation-by a.elevation) refl

module _ (debug : Bool) (K K' : List Kind) (m : List ℕ) (s : Stream) (q : Remaining) (g : QuickPoint) (ids : List ℕ) where
  abbrev behind : ℕ
  behind = g.fields.next

  abbrev left : Stream
  left = record { turn = turn.Idle (record { points = q.points - 1; ways = q.ways; at = behind; way = q.way }); end = s.end }

  abbrev given : ShownPoint → tile.TileEnd → Shown
  given x z = plain (got_point (poi_by x)) (idle (q.points - 1) q.ways behind q.way z)

  pub point-is : (lent : List ℕ) (p : PointStep) → s.turn ≡ turn.Idle q → debug ≡ false → 1 ≤ q.points → lent ≡ replicate 15 0 → Reads (point_of lent) (point false K m q.at) (length m) (point_in g ids) behind → p ≡ given_point g left
      → next_step (point_step p ids) ≡ shown_step (on_next (tile_format debug K K') m (state_of s))
  point-is lent p e d o w r v =
      let x = stored (point_of (replicate 15 0)) (point false K m q.at) (point_in g ids) behind (rw w at r).same in
      let a = x.value in
      let is : point debug K m q.at ≡ ok a behind = rw d x.is in
      let z = s.end in
      let pl = ap (λ (y : ShownPoint). y.plain) x.shown in
      let same : shown_step (on_next (tile_format debug K K') m (state_of s)) ≡ given (point_in g ids) (end_of z) =
      rw e (ap shown_step (next-point (tile_format debug K K') m q.points q.ways q.at q.way (end_of z) o ∙ ap (on_point (tile_format debug K K') (q.points - 1) q.ways q.at q.way (end_of z)) is)
      ∙ ap {B = Shown} (λ (y : Poi). plain (got_point y) (idle (q.points - 1) q.ways behind q.way (tile.note_plain a.plain (end_of z)))) (point-by a)
      ∙ ap (λ (y : tile.TileEnd). given (point_of (replicate 15 0) a) y) (same_end z a.plain pl)
      ∙ ap (λ (y : ShownPoint). given y (end_of z)) x.shown) in
      rw v (sym same)
