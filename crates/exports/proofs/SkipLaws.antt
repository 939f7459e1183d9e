-- The call that declines and goes on, which calls decline and next: from their contracts, by what their words say.
use Rattle.std.specs.Prelude.{Result, Ok, Err}
use Prim.Native.Nat.{ℕ, ◌<◌}
use native.Mathlib.Omega.{arith}
use lib.IntN.{ℤ}
use mathlib.Core.Path.{◌≡◌, refl, sym, ap, ◌∙◌, subst}
use mathlib.Core.List.{List, [], ◌∷◌}
use lib.Ieee.{Float}
use lib.ListN.{length}
use lib.Seq.{sets}
use borrow.Author.Tests.{ltb-true}
use Rattle.error.specs.Refusals.{number_of, values_of}
use Rattle.error.specs.declared.Refusal.{Refusal}
use Rattle.format.specs.Tile.{Point, Head, Body}
use Rattle.tile_layout.specs.TileLayout.{kinds_of, format_of}
use Rattle.tile_layout.specs.declared.TileLayout.{TileLayout}
use Rattle.agreement.specs.Calls.{Answer, declined, refused, Step, plain}
use Rattle.agreement.specs.Format.{Format}
use Rattle.agreement.specs.Stream.{idle, waits, on_next, on_decline}
use Rattle.agreement.specs.TileFormat as tile
use Rattle.visit.specs.Visit.{TileState, state_of, ShownAnswer, shown_step, NextIs, decline_answer, NextStep, Declined}
use Rattle.selection.specs.Selected.{unless_refused, skipped_next}
use Rattle.selection.proofs.NextLaws.{gives, given_back}
use Rattle.selection.proofs.SkipLaws.{past-it, out-of-turn}
use Rattle.wire.specs.Wire.{Wire, wire, lending, list_of, there, Crosses}
use Rattle.stream_wire.specs.Streams.{stream_in, next_wire, decline_with, decline_wire}
use Rattle.stream_wire.proofs.WordLaws.{above, keeping, next-given, decline-long, decline-left}
use Rattle.exports.specs.Calls.{NextOf, SkipOf, DeclineOf}

abbrev Stored : Type 0
Stored = Step (Answer Point Head Body tile.TileEnd) TileState

-- the answer of a decline, by the state
record OutOfTurn (s : TileState) (n : ℕ) (v : List ℕ) : Type 0 where
  answer : (on_decline {P = Point} {H = Head} {B = Body} s).reply.answer ≡ refused n v
  values : v ≡ []

out : (s : TileState) (n : ℕ) (v : List ℕ) → refused n v ≡ (shown_step (on_decline s)).reply.answer → OutOfTurn s n v
out (idle k w i j z) n v e =
    let p : n ≡ 16 = cc in
    let q : v ≡ [] = cc in
    record { answer = rw (p, q) refl; values = q }
out (waits w x b k z) n v e = absurd (let o : ◌≡◌ {A = ℕ} 0 1 = cc in omega arith)

went : (s : TileState) → declined ≡ (shown_step (on_decline s)).reply.answer → (on_decline {P = Point} {H = Head} {B = Body} s).reply.answer ≡ declined
went (idle k w i j z) e = absurd (let o : ◌≡◌ {A = ℕ} 0 1 = cc in omega arith)
went (waits w x b k z) e = refl

-- 0 is not a refusal's number
not-0 : {C : Type 0} (r : Refusal) → number_of r ≡ 0 → C
not-0 r e = absurd (let l : 0 < number_of r = ltb-true 0 (number_of r) (above r) in omega arith)

module _ (m letters : List ℕ) (l : TileLayout) (w i s : List ℕ) (z : List ℤ) (d : List Float)
    (aside : List ℕ) (k : ℕ) (aside' cur : List ℕ)
    (y : Crosses (decline_wire (lending (aside ∷ s ∷ []) [] [])) (DeclineOf (stream_in s)) (wire k (aside' ∷ cur ∷ []) [] [])) where
  abbrev S : TileState
  S = state_of (stream_in s)

  abbrev b : Declined
  b = y.answer

  number_is : k ≡ (decline_with b.answer b.stream (lending (aside ∷ s ∷ []) [] [])).number
  number_is = ap (λ (v : Wire). v.number) y.crossed

  state-is : cur ≡ list_of (decline_with b.answer b.stream (lending (aside ∷ s ∷ []) [] [])) 1
  state-is = ap (λ (v : Wire). list_of v 1) y.crossed

  answer-is : decline_answer b.answer ≡ (shown_step (on_decline S)).reply.answer
  answer-is = ap (λ (t : Step ShownAnswer TileState). t.reply.answer) y.is

  -- no way waits
  pub skip-refused : (k ≡ 0 → ⊥) → Crosses (next_wire (lending (w ∷ i ∷ s ∷ []) z d)) (SkipOf m letters l (stream_in s)) (wire k (w ∷ i ∷ cur ∷ []) z d)
  skip-refused f = go b.answer refl number_is state-is answer-is
    where
      go : (x : Result (Unit {0}) Refusal) → b.answer ≡ x → k ≡ (decline_with x b.stream (lending (aside ∷ s ∷ []) [] [])).number → cur ≡ list_of (decline_with x b.stream (lending (aside ∷ s ∷ []) [] [])) 1
          → decline_answer x ≡ (shown_step (on_decline S)).reply.answer → Crosses (next_wire (lending (w ∷ i ∷ s ∷ []) z d)) (SkipOf m letters l (stream_in s)) (wire k (w ∷ i ∷ cur ∷ []) z d)
      go (Ok tt) u e j q = absurd (f e)
      go (Err r) u e j q =
          let o = out S (number_of r) (values_of r) q in
          let t : shown_step (skipped_next (format_of (kinds_of l letters)) m S) ≡ plain (refused (number_of r) (values_of r)) (state_of b.stream) =
          ap shown_step (out-of-turn (format_of (kinds_of l letters)) m S (number_of r) (values_of r) o.answer) ∙ sym y.is ∙ ap (λ (x : Result (Unit {0}) Refusal). plain (decline_answer x) (state_of b.stream)) u in
          record {
            answer = record { answer = Err r; stream = b.stream };
            is = sym t;
            crossed = ap (λ (o : ℕ). wire o (w ∷ i ∷ cur ∷ []) z d) e ∙ ap (λ (o : List ℕ). wire (number_of r) (w ∷ i ∷ o ∷ []) z d) j ∙ ap (λ (v : List ℕ). wire (number_of r) (sets w 0 v ∷ i ∷ s ∷ []) z d) (sym o.values);
          }

  -- one waited, and was declined
  module _ (h : length s ≡ 8) (e : k ≡ 0) (n : ℕ) (w' i' cur' : List ℕ) (z' : List ℤ) (d' : List Float)
      (x : Crosses (next_wire (lending (w ∷ i ∷ cur ∷ []) z d)) (NextOf m letters l (stream_in cur)) (wire n (w' ∷ i' ∷ cur' ∷ []) z' d')) where
    abbrev a : NextStep
    a = x.answer

    abbrev F : Format
    F = format_of (kinds_of l letters)

    declines : (on_decline {P = Point} {H = Head} {B = Body} S).reply.answer ≡ declined
    declines = go b.answer (sym e ∙ number_is) answer-is
      where
        go : (q : Result (Unit {0}) Refusal) → 0 ≡ (decline_with q b.stream (lending (aside ∷ s ∷ []) [] [])).number → decline_answer q ≡ (shown_step (on_decline S)).reply.answer → (on_decline {P = Point} {H = Head} {B = Body} S).reply.answer ≡ declined
        go (Ok tt) u q = went S q
        go (Err r) u q = not-0 r (sym u)

    long : length cur ≡ 8
    long = ap length state-is ∙ decline-long aside s b h

    left : state_of (stream_in cur) ≡ (on_decline {P = Point} {H = Head} {B = Body} S).left
    left = ap (λ (v : List ℕ). state_of (stream_in v)) state-is ∙ decline-left aside s b h y.is

    whole : unless_refused S (on_next F m (state_of (stream_in cur))).reply.answer (on_next F m (state_of (stream_in cur))) ≡ skipped_next F m S
    whole = ap (λ (t : TileState). unless_refused S (on_next F m t).reply.answer (on_next F m t)) left ∙ sym (past-it F m S declines)

    pub skip-crosses : (r : ℕ) (s' : List ℕ) → (r ≡ n) × (s' ≡ there n cur' s) → Crosses (next_wire (lending (w ∷ i ∷ s ∷ []) z d)) (SkipOf m letters l (stream_in s)) (wire r (w' ∷ i' ∷ s' ∷ []) z' d')
    skip-crosses r s' q = record {
      answer = given_back a (stream_in s);
      is = subst (λ (t : Stored). NextIs (shown_step t) (given_back a (stream_in s))) whole (gives (on_next F m (state_of (stream_in cur))) a x.is (stream_in s));
      crossed =
          ap (λ (j : ℕ). wire j (w' ∷ i' ∷ s' ∷ []) z' d') q.0
          ∙ ap (λ (j : List ℕ). wire n (w' ∷ i' ∷ j ∷ []) z' d') q.1
          ∙ ap (keeping s) x.crossed
          ∙ next-given w i cur z d a long s h (stream_in s);
    }
