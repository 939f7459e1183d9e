-- A refused next, accept or decline leaves the stream as it was, from their contracts: so the words that a refused call leaves alone say
-- the stream that the inner function left.
use Rattle.std.specs.Prelude.{Result, Ok, Err}
use Rattle.visit.specs.declared.Given.{Given}
use Rattle.error.specs.declared.LentRefusal.{LentRefusal}
use Rattle.error.specs.declared.Refusal.{Refusal}
use Rattle.visit.specs.declared.StreamedBody.{StreamedBody}
use Prim.Native.Nat.{ℕ, zero, suc}
use native.Mathlib.Omega.{arith}
use mathlib.Core.Path.{◌≡◌, refl, sym, ap, ◌∙◌}
use mathlib.Core.List.{List}
use Rattle.parsing.specs.Parse.{Res, ok, no}
use Rattle.format.specs.Lent.{LentLists, deliver}
use Rattle.format.specs.BodyLists.{body_lists}
use Rattle.format.specs.Tile.{Point, Head, Body, body}
use Rattle.tile_layout.specs.TileLayout.{TileKinds, kinds_of, format_of}
use Rattle.tile_layout.specs.declared.TileLayout.{TileLayout}
use Rattle.agreement.specs.Calls.{Answer, refused, Step}
use Rattle.agreement.specs.Format.{Format}
use Rattle.agreement.specs.Stream.{idle, waits, on_point, on_head, on_next, on_body, on_accept, on_decline}
use Rattle.agreement.specs.TileFormat as tile
use Rattle.visit.specs.Visit.{end_of, TileState, turn_state, state_of, ShownAnswer, shown_step, next_answer, accept_answer, decline_answer, NextStep, Accepted, Declined}
use Rattle.visit.specs.declared.TileEnd.{TileEnd}
use Rattle.visit.specs.declared.Turn.{Turn}
use Rattle.visit.specs.declared.Turn.TheVariants as turn
use Rattle.visit.specs.declared.Stream.{Stream}
use Rattle.stream_wire.specs.Codecs.{left_by}
use Rattle.exports.specs.Calls.{NextOf, AcceptOf, DeclineOf}

-- a stream by its state
abbrev end_in : tile.TileEnd → TileEnd
end_in z = record { sub_file = z.sub_file; is_water = z.water; plain = z.plain }

abbrev stream_of : TileState → Stream
stream_of (idle n w i v z) = record { turn = turn.Idle (record { points = n; ways = w; at = i; way = v }); end = end_in z }
stream_of (waits w x b k z) = record { turn = turn.Waits (record { ways = w; past = x; body = b; head_plain = k }); end = end_in z }

stream-of : (s : Stream) → stream_of (state_of s) ≡ s
stream-of s = go s.turn s.end
  where
    go : (t : Turn) (z : TileEnd) → stream_of (turn_state t (end_of z)) ≡ record { turn = t; end = z }
    go (turn.Idle r) z = refl
    go (turn.Waits w) z = refl

never : {C : Type 0} → ◌≡◌ {A = ℕ} 0 1 → C
never z = absurd (omega arith)

abbrev Stored : Type 0
Stored = Step (Answer Point Head Body tile.TileEnd) (TileState)

-- a step that is refused leaves the state
abbrev Keeps : TileState → Stored → Type 0
Keeps t x = (k : ℕ) (y : List ℕ) → (shown_step x).reply.answer ≡ refused k y → x.left ≡ t

module _ (l : TileKinds) (m : List ℕ) where
  abbrev F : Format
  F = format_of l

  next-keeps : (t : TileState) → Keeps t (on_next F m t)
  next-keeps (idle (suc n) w i v z) k y e = go (F.point m i) k y e
    where
      go : (r : Res Point) → Keeps (idle (suc n) w i v z) (on_point F n w i v z r)
      go (ok p x) k y e = never cc
      go (no j x) k y e = refl
  next-keeps (idle zero (suc w) i v z) k y e = go (F.head m v) k y e
    where
      go : (r : Res Head) → Keeps (idle zero (suc w) i v z) (on_head F w i v z r)
      go (ok p x) k y e = never cc
      go (no j x) k y e = refl
  next-keeps (idle zero zero i v z) k y e = never cc
  next-keeps (waits w x b h z) k y e = refl

accept-keeps : (m : List ℕ) (lent : LentLists) (t : TileState) → Keeps t (on_accept body body_lists tile.whole_body tile.note_body m t lent)
accept-keeps m lent (idle n w i v z) k y e = refl
accept-keeps m lent (waits w x b h z) k y e = go (deliver (λ d. d) body_lists (body m b) lent).answer k y e
  where
    go : (r : Res Body) → Keeps (waits w x b h z) (on_body tile.whole_body tile.note_body w x b h z (deliver (λ d. d) body_lists (body m b) lent).lists r)
    go (ok d j) k y e = never cc
    go (no j v) k y e = refl

decline-keeps : (t : TileState) → Keeps t (on_decline t)
decline-keeps (idle n w i v z) k y e = refl
decline-keeps (waits w x b h z) k y e = never cc

-- what the state's words say after a refusal, before and after it the same
module _ (s t : Stream) (x : Stored) (y : Step ShownAnswer (TileState)) (e : y ≡ shown_step x) (left : y.left ≡ state_of t) (keeps : Keeps (state_of s) x) where
  kept : (k : ℕ) (v : List ℕ) → y.reply.answer ≡ refused k v → s ≡ t
  kept k v q =
      sym (stream-of s)
      ∙ ap stream_of (sym (keeps _ _ (sym (ap (λ (a : Step ShownAnswer (TileState)). a.reply.answer) e) ∙ q)))
      ∙ ap stream_of (sym (ap (λ (a : Step ShownAnswer (TileState)). a.left) e) ∙ left)
      ∙ stream-of t

pub next-kept : (m letters : List ℕ) (l : TileLayout) (s : Stream) (a : NextStep) → NextOf m letters l s a → left_by a.answer a.stream s ≡ a.stream
next-kept m letters l s a k = go a.answer refl
  where
    go : (x : Result Given Refusal) → a.answer ≡ x → left_by x a.stream s ≡ a.stream
    go (Ok v) e = refl
    go (Err r) e =
        kept s a.stream (on_next (format_of (kinds_of l letters)) m (state_of s)) _ k refl (next-keeps (kinds_of l letters) m (state_of s)) _ _
        (ap next_answer e)

pub accept-kept : (m : List ℕ) (s : Stream) (lent left : LentLists) (a : Accepted) → AcceptOf m s lent left a → left_by a.answer a.stream s ≡ a.stream
accept-kept m s lent left a k = go a.answer refl
  where
    go : (x : Result StreamedBody LentRefusal) → a.answer ≡ x → left_by x a.stream s ≡ a.stream
    go (Ok b) e = refl
    go (Err r) e =
        kept s a.stream (on_accept body body_lists tile.whole_body tile.note_body m (state_of s) lent) _ k refl (accept-keeps m lent (state_of s)) _ _
        (ap accept_answer e)

pub decline-kept : (s : Stream) (a : Declined) → DeclineOf s a → left_by a.answer a.stream s ≡ a.stream
decline-kept s a k = go a.answer refl
  where
    go : (x : Result (Unit {0}) Refusal) → a.answer ≡ x → left_by x a.stream s ≡ a.stream
    go (Ok u) e = refl
    go (Err r) e =
        kept s a.stream (on_decline (state_of s)) _ k refl (decline-keeps (state_of s)) _ _
        (ap decline_answer e)
