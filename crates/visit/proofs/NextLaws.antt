-- One call of next, by what the readers answered.
use Prim.Native.Nat.{ℕ, suc, ◌+◌, ◌-◌, ◌≤◌, ◌<◌}
use native.Mathlib.Omega.{arith}
use mathlib.Core.Path.{◌≡◌, refl, sym, ap, ◌∙◌}
use mathlib.Core.Bool.{Bool}
use mathlib.Core.List.{List, []}
use Rattle.std.specs.Prelude.{Result, Ok, Err}
use Rattle.std.specs.Result.{IsErr, IsErrAnd}
use Rattle.parsing.specs.Parse.{ok, map_res}
use Rattle.error.specs.Refusals as error
use Rattle.error.specs.Refusals.{number_of, values_of}
use Rattle.error.specs.declared.Refusal.{Refusal}
use Rattle.byte_source.proofs.ReadLaws.{met}
use Rattle.arithmetic.specs.Cut.{cut}
use Rattle.tag.specs.declared.Kind.{Kind}
use Rattle.format.specs.Tile.{Point, Head, Body, point, head}
use Rattle.poi.specs.Poi.{poi_of, streamed_poi}
use Rattle.poi.specs.declared.Poi.{Poi}
use Rattle.poi.proofs.StreamLaws.{point-streamed}
use Rattle.way_head.specs.WayHead.{head_of}
use Rattle.way_head.specs.declared.WayHead.{WayHead}
use Rattle.agreement.specs.Calls.{Answer, refused, Step, plain}
use Rattle.agreement.specs.Stream.{idle, on_point, on_head, on_next}
use Rattle.agreement.specs.TileFormat as tile
use Rattle.agreement.proofs.Stored.{stored, stopped}
use Rattle.agreement.proofs.CallLaws.{next-point, next-head, next-end}
use Rattle.agreement.specs.TileFormat.{tile_format}
use Rattle.visit.specs.Visit.{end_of, TileState, state_of, shown_point, shown_head, shown_step, answered_of, next_of, next_step, streamed_head}
use Rattle.visit.specs.declared.TileEnd.{TileEnd}
use Rattle.visit.specs.declared.Remaining.{Remaining}
use Rattle.visit.specs.declared.WaitingWay.{WaitingWay}
use Rattle.visit.specs.declared.Turn.TheVariants as turn
use Rattle.visit.specs.declared.Stream.{Stream}
use Rattle.visit.specs.declared.StreamedHead.{StreamedHead}
use Rattle.visit.specs.declared.Given.{Given}
use Rattle.visit.specs.declared.Given.TheVariants as given
use Rattle.visit.specs.declared.Answered.{Answered}

abbrev StoredStep : Type 0
StoredStep = Step (Answer Point Head Body tile.TileEnd) (TileState)

module _ (debug : Bool) (points ways : List Kind) (m : List ℕ) (q : Remaining) (z : TileEnd) where
  abbrev at_rest : TileState
  at_rest = idle q.points q.ways q.at q.way (end_of z)

  abbrev step : StoredStep
  step = on_next (tile_format debug points ways) m at_rest

  -- what the machine makes of a read that is refused
  stays : (g : Result (Given × Stream) Refusal) (y : Refusal) → IsErr g × IsErrAnd g (λ x. x ≡ y) → step ≡ plain (refused (number_of y) (values_of y)) at_rest → next_of g at_rest ≡ shown_step step
  stays g y h e = ap (λ x. next_of x at_rest) (met h) ∙ sym (ap shown_step e)

  pub no-point : (g : Result (Given × Stream) Refusal) (y : Refusal) → IsErr g × IsErrAnd g (λ x. x ≡ y) → error.refused y ≡ map_res poi_of (point debug points m q.at) → 0 < q.points → next_of g at_rest ≡ shown_step step
  no-point g y h b o =
      let k = stopped poi_of (number_of y) (values_of y) (point debug points m q.at) b in
      let u : suc (q.points - 1) ≡ q.points = omega arith in
      stays g y h (next-point (tile_format debug points ways) m q.points q.ways q.at q.way (end_of z) o ∙ rw (k, u))

  pub no_way : (g : Result (Given × Stream) Refusal) (y : Refusal) → IsErr g × IsErrAnd g (λ x. x ≡ y) → error.refused y ≡ map_res head_of (head debug ways m q.way) → q.points ≤ 0 → 0 < q.ways → next_of g at_rest ≡ shown_step step
  no_way g y h b i o =
      let k = stopped head_of (number_of y) (values_of y) (head debug ways m q.way) b in
      let u : suc (q.ways - 1) ≡ q.ways = omega arith in
      let j : q.points ≡ 0 = omega arith in
      stays g y h (next-head (tile_format debug points ways) m q.points q.ways q.at q.way (end_of z) i o ∙ rw (k, u, j))

  pub a_point : (v : Poi) (n : ℕ) (p : Poi) (y : TileEnd) → ok v n ≡ map_res poi_of (point debug points m q.at) → p ≡ streamed_poi m v → end_of y ≡ tile.note_plain v.plain (end_of z) → 0 < q.points
      → next_of (Ok (given.Point p, record { turn = turn.Idle (record { points = q.points - 1; ways = q.ways; at = n; way = q.way }); end = y })) at_rest ≡ shown_step step
  a_point v n p y b u d o =
      let s = stored poi_of v n (point debug points m q.at) b in
      let i : p ≡ shown_point s.value = u ∙ ap (streamed_poi m) s.shown ∙ point-streamed m debug points q.at s.value n s.same in
      let f : end_of y ≡ tile.note_plain s.value.plain (end_of z) = d ∙ ap (λ (w : Poi). tile.note_plain w.plain (end_of z)) s.shown in
      let e = next-point (tile_format debug points ways) m q.points q.ways q.at q.way (end_of z) o ∙ ap (on_point (tile_format debug points ways) (q.points - 1) q.ways q.at q.way (end_of z)) s.same in
      (rw (i, f)) ∙ sym (ap shown_step e)

  pub a-way : (v : WayHead) (n past : ℕ) (h : StreamedHead) (y : TileEnd) (a : Bool) → a ≡ v.plain → ok v n ≡ map_res head_of (head debug ways m q.way) → past ≡ cut (v.start + v.size) → h ≡ streamed_head v → end_of y ≡ tile.note_plain v.plain (end_of z) → q.points ≤ 0 → 0 < q.ways
      → next_of (Ok (given.Way h, record { turn = turn.Waits (record { ways = q.ways - 1; past = past; body = n; head_plain = a }); end = y })) at_rest ≡ shown_step step
  a-way v n past h y a c b x u d i o =
      let s = stored head_of v n (head debug ways m q.way) b in
      let w : h ≡ shown_head s.value = u ∙ ap streamed_head s.shown in
      let j : past ≡ cut (s.value.start + s.value.size) = x ∙ ap (λ (w : WayHead). cut (w.start + w.size)) s.shown in
      let t : a ≡ s.value.plain = c ∙ ap (λ (w : WayHead). w.plain) s.shown in
      let f : end_of y ≡ tile.note_plain s.value.plain (end_of z) = d ∙ ap (λ (w : WayHead). tile.note_plain w.plain (end_of z)) s.shown in
      let e = next-head (tile_format debug points ways) m q.points q.ways q.at q.way (end_of z) i o ∙ ap (on_head (tile_format debug points ways) (q.ways - 1) q.at q.way (end_of z)) s.same in
      (rw (w, j, f, t)) ∙ sym (ap shown_step e)

  pub the_end : q.points ≤ 0 → q.ways ≤ 0 → next_of (Ok (given.End z, record { turn = turn.Idle q; end = z })) at_rest ≡ shown_step step
  the_end i j =
      let a : q.points ≡ 0 = omega arith in
      let b : q.ways ≡ 0 = omega arith in
      (rw (a, b)) ∙ sym (ap shown_step (next-end (tile_format debug points ways) m q.points q.ways q.at q.way (end_of z) i j))

-- a way waits
pub next-waits : (debug : Bool) (points ways : List Kind) (m : List ℕ) (s : Stream) (w : WaitingWay) → s.turn ≡ turn.Waits w → plain (refused 16 []) (state_of s) ≡ shown_step (on_next (tile_format debug points ways) m (state_of s))
next-waits debug points ways m s w e = rw e

-- what was answered, with the stream that a refusal leaves
pub answers-next : (g : Result (Given × Stream) Refusal) (s : Stream) → next_step (answered_of g s) ≡ next_of g (state_of s)
answers-next (Ok (n, t)) s = refl
answers-next (Err r) s = refl

-- while no way waits
pub next-idle : (debug : Bool) (points ways : List Kind) (m : List ℕ) (s : Stream) (q : Remaining) (g : Result (Given × Stream) Refusal) (r : Answered (Result Given Refusal)) → s.turn ≡ turn.Idle q → next_of g (idle q.points q.ways q.at q.way (end_of s.end)) ≡ shown_step (on_next (tile_format debug points ways) m (idle q.points q.ways q.at q.way (end_of s.end))) → r ≡ answered_of g s → next_step r ≡ shown_step (on_next (tile_format debug points ways) m (state_of s))
next-idle debug points ways m s q g r e h w = ap next_step w ∙ answers-next g s ∙ rw e h
