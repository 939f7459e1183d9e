-- Accept and decline, by what the readers answered.
use Prim.Native.Nat.{ℕ}
use mathlib.Core.Path.{◌≡◌, refl, sym, ap, ◌∙◌}
use mathlib.Core.Bool.{Bool, true, false, ◌&&◌}
use mathlib.Core.List.{List, []}
use lib.Ieee.{Float}
use borrow.Author.Rules.{rules}
use Rattle.parsing.specs.Parse.{Res, ok, no, map_res}
use Rattle.parsing.specs.Good.{ok-val, ok_at, no_ok}
use Rattle.error.specs.Refusals.{lent_number, lent_values, lent_refused}
use Rattle.error.specs.declared.LentRefusal.{LentRefusal}
use Rattle.error.specs.declared.Refusal.TheVariants.{OutOfTurn}
use Rattle.format.specs.Lent.{LentLists, Reply, fits, deliver}
use Rattle.format.specs.WayData.{way_data}
use Rattle.format.specs.BodyLists.{body_lists}
use Rattle.format.specs.Tile.{data_block_count, Body, body}
use Rattle.fields.specs.Fields.{streamed_span}
use Rattle.fields.proofs.StreamLaws.{Gives, any, gives-bind, gives-return, streamed-view}
use Rattle.way_fields.proofs.StreamLaws.{Texts, fields_within}
use Rattle.way.specs.Way.{body_of}
use Rattle.way.specs.declared.WayBody.{WayBody}
use Rattle.way_data.specs.Reply.{lent}
use Rattle.byte_source.specs.declared.Span.{Span}
use Rattle.byte_source.proofs.ReadLaws.{met}
use Rattle.std.specs.Prelude.{Result, Ok, Err, Option}
use Rattle.std.specs.Result.{IsErr, IsErrAnd}
use Rattle.agreement.specs.Calls.{got_body, refused, Step, lending}
use Rattle.agreement.specs.Stream.{idle, waits, on_body, on_accept, on_decline}
use Rattle.agreement.proofs.Remaining.{lent_reply}
use Rattle.agreement.specs.TileFormat as tile
use Rattle.visit.specs.Visit.{end_of, TileState, state_of, ShownAnswer, shown_body, shown_step, Accepted, answered_of, accept_of, accept_step, streamed_body, decline_step}
use Rattle.visit.specs.declared.TileEnd.{TileEnd}
use Rattle.visit.specs.declared.Remaining.{Remaining}
use Rattle.visit.specs.declared.WaitingWay.{WaitingWay}
use Rattle.visit.specs.declared.Turn.TheVariants as turn
use Rattle.visit.specs.declared.Stream.{Stream}
use Rattle.visit.specs.declared.StreamedBody.{StreamedBody}

-- a body's texts
pub body-made : (m : List ℕ) (h : Bool) (b : WayBody) (s t u : Option Span) (p : Bool) → s ≡ streamed_span m b.name → t ≡ streamed_span m b.house_number → u ≡ streamed_span m b.reference → p ≡ (h && b.plain) → ◌≡◌ {A = StreamedBody} (record { name = s; house_number = t; reference = u; label_position = b.label_position; blocks = b.blocks; nodes = b.nodes; plain = p }) (streamed_body m h b)
body-made m h b s t u p i k q o = rw (i, k, q, o)

-- what the code streams of a body that was read is what the machine's body shows
pub body-within : (m : List ℕ) → Gives m body (λ b. Texts m b.fields)
unfolding body
body-within m =
    gives-bind m (fields_within m) λ f t. gives-bind m (any m (data_block_count f.flags)) λ k _. gives-bind m (any m (way_data k.value)) λ d _. gives-return m _ (λ b. Texts m b.fields) t

body-streamed : (m : List ℕ) (p : Bool) (i : ℕ) (d : Body) (e : ℕ) → body m i ≡ ok d e → streamed_body m p (body_of d) ≡ shown_body (tile.whole_body p d)
body-streamed m p i d e h =
    let t = (body-within m).holds i d e h in
    rw (streamed-view m d.fields.name t.name, streamed-view m d.fields.house_number t.house_number, streamed-view m d.fields.reference t.reference)

-- what was delivered of a stored body, and what the code shows of it
module _ (l : LentLists) where
  abbrev lent_body : Res Body → Reply (Res Body)
  lent_body r = deliver (λ d. d) body_lists r l

  abbrev lent_shown : Res Body → Reply (Res WayBody)
  lent_shown r = deliver body_of body_lists r l

  record Same (r : Res Body) : Type 0 where
    lists : (lent_shown r).lists ≡ (lent_body r).lists
    answer : (lent_shown r).answer ≡ map_res body_of (lent_body r).answer
    read : (d : Body) (n : ℕ) → (lent_body r).answer ≡ ok d n → r ≡ ok d n

  same : (r : Res Body) → Same r
  same (no n v) = record { lists = refl; answer = refl; read = λ d n h. no_ok h }
  same (ok d e) = record { lists = lists_of (fits (body_lists d) l); answer = answer-of (fits (body_lists d) l); read = read_of (fits (body_lists d) l) }
    where
      lists_of : (c : Bool) → (lent_reply (body_of d) e (body_lists d) l c).lists ≡ (lent_reply d e (body_lists d) l c).lists
      lists_of true = refl
      lists_of false = refl

      answer-of : (c : Bool) → (lent_reply (body_of d) e (body_lists d) l c).answer ≡ map_res body_of (lent_reply d e (body_lists d) l c).answer
      answer-of true = refl
      answer-of false = refl

      read_of : (c : Bool) (b : Body) (n : ℕ) → (lent_reply d e (body_lists d) l c).answer ≡ ok b n → ok d e ≡ ok b n
      read_of true b n h = h
      read_of false b n h = no_ok h

-- the way that waits
module _ (m : List ℕ) (w : WaitingWay) (e : TileEnd) (c₀ c : List ℕ) (la₀ lo₀ la lo : List Float) where
  abbrev before : LentLists
  before = lent c₀ la₀ lo₀

  abbrev after : LentLists
  after = lent c la lo

  abbrev waiting : TileState
  waiting = waits w.ways w.past w.body w.head_plain (end_of e)

  abbrev step : Step ShownAnswer (TileState)
  step = shown_step (on_accept body body_lists tile.whole_body tile.note_body m waiting before)

  abbrev read : Res Body
  read = body m w.body

  -- the step, by the lists and the answer of what was delivered
  abbrev step_of : LentLists → Res Body → Step ShownAnswer (TileState)
  step_of l r = shown_step (on_body tile.whole_body tile.note_body w.ways w.past w.body w.head_plain (end_of e) l r)

  -- what is known of the read, whose answer is g
  module _ (g : Res WayBody) (q : ◌≡◌ {A = Reply (Res WayBody)} (record { answer = g; lists = after }) (deliver body_of body_lists (body m w.body) (lent c₀ la₀ lo₀))) where
    lists-are : after ≡ (lent_body before read).lists
    lists-are = ap (λ (a : Reply (Res WayBody)). a.lists) q ∙ (same before read).lists

    answer-is : g ≡ map_res body_of (lent_body before read).answer
    answer-is = ap (λ (a : Reply (Res WayBody)). a.answer) q ∙ (same before read).answer

  pub accept-no : (r : Result (StreamedBody × Stream) LentRefusal) (x : LentRefusal) → ◌≡◌ {A = Reply (Res WayBody)} (record { answer = lent_refused x; lists = after }) (deliver body_of body_lists (body m w.body) (lent c₀ la₀ lo₀))
      → IsErr r × IsErrAnd r (λ y. y ≡ x) → accept_of r waiting c la lo ≡ step
  accept-no r x q h =
      ap (λ g. accept_of g waiting c la lo) (met h) ∙ refuses (lent_body before read).answer (answer-is (lent_refused x) q) ∙ ap (λ l. step_of l (lent_body before read).answer) (lists-are (lent_refused x) q)
    where
      refuses : (r : Res Body) → lent_refused x ≡ map_res body_of r → lending (refused (lent_number x) (lent_values x)) after waiting ≡ step_of after r
      refuses (ok d n) q = no_ok q
      refuses (no n v) q = cc

  pub accept-ok : (v : WayBody) (n : ℕ) (b : StreamedBody) (z : TileEnd) → ◌≡◌ {A = Reply (Res WayBody)} (record { answer = ok v n; lists = after }) (deliver body_of body_lists (body m w.body) (lent c₀ la₀ lo₀))
      → b ≡ streamed_body m w.head_plain v → end_of z ≡ tile.note_plain b.plain (end_of e)
      → accept_of (Ok (b, record { turn = turn.Idle (record { points = 0; ways = w.ways; at = n; way = n }); end = z })) waiting c la lo ≡ step
  accept-ok v n b z q u y = gives (lent_body before read).answer refl (answer-is (ok v n) q) ∙ ap (λ l. step_of l (lent_body before read).answer) (lists-are (ok v n) q)
    where
      gives : (r : Res Body) → (lent_body before read).answer ≡ r → ok v n ≡ map_res body_of r → lending (got_body b) after (idle 0 w.ways n n (end_of z)) ≡ step_of after r
      gives (no k x) f q = no_ok (sym q)
      gives (ok d k) f q =
          let j : b ≡ shown_body (tile.whole_body w.head_plain d) = u ∙ ap (streamed_body m w.head_plain) (ok-val q) ∙ body-streamed m w.head_plain w.body d k ((same before read).read d k f) in
          let i : n ≡ k = ok_at q in
          let o : end_of z ≡ tile.note_body (tile.whole_body w.head_plain d) (end_of e) = y ∙ ap (λ (x : StreamedBody). tile.note_plain x.plain (end_of e)) j in
          rw (o, j, i)

module _ (m : List ℕ) (s : Stream) (c₀ c : List ℕ) (la₀ lo₀ la lo : List Float) where
  pub accept-idle : (q : Remaining) → s.turn ≡ turn.Idle q → lending (refused 16 []) (lent c₀ la₀ lo₀) (state_of s) ≡ shown_step (on_accept body body_lists tile.whole_body tile.note_body m (state_of s) (lent c₀ la₀ lo₀))
  accept-idle q e = rw e

  answers-accept : (g : Result (StreamedBody × Stream) LentRefusal) → accept_step (answered_of g s) c la lo ≡ accept_of g (state_of s) c la lo
  answers-accept (Ok (b, t)) = refl
  answers-accept (Err r) = refl

  pub accept-waits : (w : WaitingWay) (g : Result (StreamedBody × Stream) LentRefusal) (r : Accepted) → s.turn ≡ turn.Waits w
      → accept_of g (waits w.ways w.past w.body w.head_plain (end_of s.end)) c la lo ≡ shown_step (on_accept body body_lists tile.whole_body tile.note_body m (waits w.ways w.past w.body w.head_plain (end_of s.end)) (lent c₀ la₀ lo₀))
      → r ≡ answered_of g s → accept_step r c la lo ≡ shown_step (on_accept body body_lists tile.whole_body tile.note_body m (state_of s) (lent c₀ la₀ lo₀))
  accept-waits w g r e h z = ap (λ (x : Accepted). accept_step x c la lo) z ∙ answers-accept g ∙ rw e h

module _ (s : Stream) where
  pub decline-idle : (q : Remaining) → s.turn ≡ turn.Idle q → decline_step (record { answer = Err OutOfTurn; stream = s }) ≡ shown_step (on_decline (state_of s))
  decline-idle q e = rw e

  pub decline-waits : (w : WaitingWay) → s.turn ≡ turn.Waits w → decline_step (record { answer = Ok tt; stream = record { turn = turn.Idle (record { points = 0; ways = w.ways; at = w.past; way = w.past }); end = s.end } }) ≡ shown_step (on_decline (state_of s))
  decline-waits w e = rw e

pub ruleset turns = (rules, accept-idle, decline-idle, decline-waits)
