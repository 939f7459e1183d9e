-- What the words of a next and of a decline say, where a call is made of them: what they say of a way, the stream that they leave, and the
-- words of the last next, given back with the state of the whole call.
use Prim.Native.Nat.{ℕ, ◌<◌}
use native.Mathlib.Omega.{arith}
use lib.IntN.{ℤ}
use mathlib.Core.Path.{◌≡◌, refl, sym, ap, ◌∙◌, subst}
use mathlib.Core.Bool.{Bool, true, false, cond}
use mathlib.Core.List.{List, [], ◌∷◌}
use lib.Dec.{ltb}
use lib.Ieee.{Float}
use lib.ListN.{length}
use lib.Seq.{sets}
use borrow.Author.Tests.{ltb-true, ne_eqb}
use Rattle.std.specs.Prelude.{Result, Ok, Err}
use Rattle.error.specs.Refusals.{number_of, values_of}
use Rattle.error.specs.declared.Refusal.{Refusal}
use Rattle.format.specs.Tile.{Point, Head, Body}
use Rattle.agreement.specs.Calls.{refused, Step}
use Rattle.agreement.specs.Stream.{idle, waits, on_decline}
use Rattle.visit.specs.Visit.{TileState, state_of, ShownAnswer, shown_step, decline_answer, decline_step}
use Rattle.visit.specs.declared.Turn.{Turn}
use Rattle.visit.specs.declared.Turn.TheVariants as turn
use Rattle.visit.specs.declared.Stream.{Stream}
use Rattle.visit.specs.declared.Given.{Given}
use Rattle.visit.specs.declared.Given.TheVariants as given
use Rattle.visit.specs.declared.Answered.{Answered}
use Rattle.selection.specs.declared.Selection.{Selection}
use Rattle.selection.proofs.NextLaws.{given_back}
use Rattle.selection.proofs.NextLaws as selection
use Rattle.wire.specs.Wire.{Wire, wire, lending, list_of, there}
use Rattle.wire.specs.Codecs.{settled}
use Rattle.wire.specs.Spread.{entries, spread}
use Rattle.stream_wire.specs.Streams.{turn_words, stream_words, stream_in, goes_past, next_with, next_wire, decline_with, decline_wire}
use Rattle.stream_wire.specs.Codecs.{stream-back}

-- a refusal's number is above 0
pub above : (r : Refusal) → ltb 0 (number_of r) ≡ true
above r = go (ltb 0 (number_of r)) (settled (λ _. true) false 0 [] r)
  where
    go : (c : Bool) → cond c true false ≡ true → c ≡ true
    go true e = refl
    go false e = e

-- a stream that is written to eight words
written : (s : Stream) (l : List ℕ) → length l ≡ 8 → sets l 0 (stream_words s) ≡ stream_words s
written s l h = subst (λ (k : List ℕ). sets k 0 (stream_words s) ≡ stream_words s) (sym (spread 0 8 l h)) (go s.turn _ _ _)
  where
    go : (t : Turn) (a b c : ℕ) → sets (entries 0 8 l) 0 (turn_words t a b c) ≡ turn_words t a b c
    go (turn.Idle r) a b c = refl
    go (turn.Waits w) a b c = refl

eight : (s : Stream) → length (stream_words s) ≡ 8
eight s = go s.turn _ _ _
  where
    go : (t : Turn) (a b c : ℕ) → length (turn_words t a b c) ≡ 8
    go (turn.Idle r) a b c = refl
    go (turn.Waits w) a b c = refl

read_back : (s : Stream) (l : List ℕ) → length l ≡ 8 → stream_in (sets l 0 (stream_words s)) ≡ s
read_back s l h = subst (λ (k : List ℕ). stream_in (sets k 0 (stream_words s)) ≡ s) (sym (spread 0 8 l h)) (stream-back s _ _ _ _ _ _ _ _)

-- what a next wrote says whether it gave a way that is not selected,
abbrev pub Says : Selection → (classes : List ℕ) → Wire → Answered (Result Given Refusal) → Type 0
Says c classes y a = goes_past c classes y.number (list_of y 0) (list_of y 1) ≡ selection.goes_past c classes a

-- and with the state s of the whole call, which stays where the next was refused
abbrev pub keeping : (s : List ℕ) → Wire → Wire
keeping s y = wire y.number (list_of y 0 ∷ list_of y 1 ∷ there y.number (list_of y 2) s ∷ []) y.signed y.degrees

-- a next
module _ (w i s : List ℕ) (z : List ℤ) (d : List Float) (a : Answered (Result Given Refusal)) where
  abbrev pub next_left : Wire
  next_left = next_wire (lending (w ∷ i ∷ s ∷ []) z d) a

  pub says_past : length w ≡ 22 → (c : Selection) (classes : List ℕ) → Says c classes next_left a
  says_past h c classes = subst (λ (v : List ℕ). Says c classes (next_wire (lending (v ∷ i ∷ s ∷ []) z d) a) a) (sym (spread 0 22 w h)) (go a.answer a.stream)
    where
      go : (x : Result Given Refusal) (t : Stream) → Says c classes (next_with x t (lending (entries 0 22 w ∷ i ∷ s ∷ []) z d)) (record { answer = x; stream = t })
      go (Ok (given.Point p)) t = refl
      go (Ok (given.Way q)) t = refl
      go (Ok (given.End e)) t = refl
      go (Err r) t =
          let l : 0 < number_of r = ltb-true 0 (number_of r) (above r) in
          rw (ne_eqb (number_of r) 0 (λ e. omega arith)) refl

  module _ (h : length s ≡ 8) where
    pub next-long : length (list_of next_left 2) ≡ 8
    next-long = go a.answer
      where
        go : (x : Result Given Refusal) → length (list_of (next_with x a.stream (lending (w ∷ i ∷ s ∷ []) z d)) 2) ≡ 8
        go (Ok (given.Point p)) = ap length (written a.stream s h) ∙ eight a.stream
        go (Ok (given.Way q)) = ap length (written a.stream s h) ∙ eight a.stream
        go (Ok (given.End e)) = ap length (written a.stream s h) ∙ eight a.stream
        go (Err r) = h

    -- the stream behind a way that goes past
    pub past-left : (c : Selection) (classes : List ℕ) → selection.goes_past c classes a ≡ true → stream_in (list_of next_left 2) ≡ a.stream
    past-left c classes f = go a.answer f
      where
        go : (x : Result Given Refusal) → selection.is_past c classes x ≡ true → stream_in (list_of (next_with x a.stream (lending (w ∷ i ∷ s ∷ []) z d)) 2) ≡ a.stream
        go (Ok (given.Way q)) f = read_back a.stream s h
        go (Ok (given.Point p)) f = absurd (let e : ◌≡◌ {A = ℕ} 0 1 = cc in omega arith)
        go (Ok (given.End e)) f = absurd (let e : ◌≡◌ {A = ℕ} 0 1 = cc in omega arith)
        go (Err r) f = absurd (let e : ◌≡◌ {A = ℕ} 0 1 = cc in omega arith)

    pub next-given : (s₀ : List ℕ) → length s₀ ≡ 8 → (b : Stream) → keeping s₀ next_left ≡ next_wire (lending (w ∷ i ∷ s₀ ∷ []) z d) (given_back a b)
    next-given s₀ h₀ b = go a.answer
      where
        same : sets s 0 (stream_words a.stream) ≡ sets s₀ 0 (stream_words a.stream)
        same = written a.stream s h ∙ sym (written a.stream s₀ h₀)

        go : (x : Result Given Refusal) → keeping s₀ (next_with x a.stream (lending (w ∷ i ∷ s ∷ []) z d)) ≡ next_with x (selection.left_of x b a.stream) (lending (w ∷ i ∷ s₀ ∷ []) z d)
        go (Ok (given.Point p)) = rw same refl
        go (Ok (given.Way q)) = rw same refl
        go (Ok (given.End e)) = rw same refl
        go (Err r) = rw (above r) refl

-- a decline
module _ (w s : List ℕ) (d : Answered (Result (Unit {0}) Refusal)) (h : length s ≡ 8) where
  abbrev pub decline_left : Wire
  decline_left = decline_wire (lending (w ∷ s ∷ []) [] []) d

  pub decline-long : length (list_of decline_left 1) ≡ 8
  decline-long = go d.answer
    where
      go : (x : Result (Unit {0}) Refusal) → length (list_of (decline_with x d.stream (lending (w ∷ s ∷ []) [] [])) 1) ≡ 8
      go (Ok u) = ap length (written d.stream s h) ∙ eight d.stream
      go (Err r) = h

  -- the state that it left, which it leaves alone where it is refused
  pub decline-left : decline_step d ≡ shown_step (on_decline (state_of (stream_in s))) → state_of (stream_in (list_of decline_left 1)) ≡ (on_decline {P = Point} {H = Head} {B = Body} (state_of (stream_in s))).left
  decline-left e = go d.answer (ap (λ (x : Step ShownAnswer TileState). x.reply.answer) e)
    where
      left : state_of d.stream ≡ (on_decline {P = Point} {H = Head} {B = Body} (state_of (stream_in s))).left
      left = ap (λ (x : Step ShownAnswer TileState). x.left) e

      kept : (t : TileState) (k : ℕ) (v : List ℕ) → refused k v ≡ (shown_step (on_decline t)).reply.answer → t ≡ (on_decline {P = Point} {H = Head} {B = Body} t).left
      kept (idle n x i j y) k v q = refl
      kept (waits n x b j y) k v q = absurd (let o : ◌≡◌ {A = ℕ} 0 1 = cc in omega arith)

      go : (x : Result (Unit {0}) Refusal) → decline_answer x ≡ (shown_step (on_decline (state_of (stream_in s)))).reply.answer
          → state_of (stream_in (list_of (decline_with x d.stream (lending (w ∷ s ∷ []) [] [])) 1)) ≡ (on_decline {P = Point} {H = Head} {B = Body} (state_of (stream_in s))).left
      go (Ok u) q = ap state_of (read_back d.stream s h) ∙ left
      go (Err r) q = kept (state_of (stream_in s)) (number_of r) (values_of r) q
