-- The same of the answers of a program that calls next and, while it answers a way that is not selected, decline: what it then gives back is
-- what `selected_next` says.
use mathlib.Core.Path.{◌≡◌, refl, sym, ap, ◌∙◌, subst}
use mathlib.Core.Bool.{Bool, true, false, cond, not, false≢true}
use mathlib.Core.List.{List}
use Prim.Native.Nat.{ℕ, ◌<◌}
use native.Mathlib.Omega.{arith}
use Rattle.std.specs.Prelude.{Result, Ok, Err}
use Rattle.std.proofs.lemmas.Bool.{not-true, not-false}
use Rattle.error.specs.declared.Refusal.{Refusal}
use Rattle.format.specs.Lent.{Reply}
use Rattle.format.specs.Tile.{Point, Head, Body}
use Rattle.agreement.specs.Calls.{Answer, got_point, got_head, got_body, declined, ended, refused, Step, no_lists}
use Rattle.agreement.specs.Stream.{on_next, on_decline}
use Rattle.agreement.specs.TileFormat as tile
use Rattle.tile_layout.specs.TileLayout.{TileKinds, format_of}
use Rattle.visit.specs.Visit.{TileState, state_of, shown_head, ShownAnswer, shown, shown_step, next_answer, NextIs, NextStep}
use Rattle.visit.specs.declared.Stream.{Stream}
use Rattle.visit.specs.declared.Given.{Given}
use Rattle.visit.specs.declared.Given.TheVariants as given
use Rattle.visit.specs.declared.StreamedHead.{StreamedHead}
use Rattle.selection.specs.Selected.{ways_of, unless_refused, selected_from, selected_next}
use Rattle.selection.specs.Selects.{selects, selected}
use Rattle.selection.specs.declared.Selection.{Selection}
use Rattle.selection.proofs.SelectedLaws.{other, past_of, counts-down, goes-past, answers}

-- whether a next gave a way that is not selected,
abbrev pub is_past : Selection → (classes : List ℕ) → Result Given Refusal → Bool
is_past w classes (Ok (given.Way h)) = not (selects w classes h.bitmap h.tag_ids)
is_past w classes (Ok (given.Point p)) = false
is_past w classes (Ok (given.End z)) = false
is_past w classes (Err r) = false

abbrev pub goes_past : Selection → (classes : List ℕ) → NextStep → Bool
goes_past w classes r = is_past w classes r.answer

-- and the answer, with the stream before the call where it is a refusal
abbrev pub left_of : Result Given Refusal → (before after : Stream) → Stream
left_of (Ok v) before after = after
left_of (Err r) before after = before

abbrev pub given_back : NextStep → (before : Stream) → NextStep
given_back r before = record { answer = r.answer; stream = left_of r.answer before r.stream }

abbrev StoredAnswer : Type 0
StoredAnswer = Answer Point Head Body tile.TileEnd

abbrev StoredStep : Type 0
StoredStep = Step StoredAnswer TileState

-- whether an answer is a refusal
abbrev stops : {P H B E : Type 0} → Answer P H B E → Bool
stops (got_point p) = false
stops (got_head h) = false
stops (got_body b) = false
stops declined = false
stops (ended z) = false
stops (refused n v) = true

left-of : (x : Result Given Refusal) (b c : Stream) → state_of (left_of x b c) ≡ cond (stops (next_answer x)) (state_of b) (state_of c)
left-of (Ok (given.Point p)) b c = refl
left-of (Ok (given.Way h)) b c = refl
left-of (Ok (given.End z)) b c = refl
left-of (Err r) b c = refl

module _ (before : TileState) (t : StoredStep) where
  unless-reply : (a : StoredAnswer) → (unless_refused before a t).reply ≡ t.reply
  unless-reply (got_point p) = refl
  unless-reply (got_head h) = refl
  unless-reply (got_body b) = refl
  unless-reply declined = refl
  unless-reply (ended z) = refl
  unless-reply (refused n v) = refl

  unless-left : (a : StoredAnswer) → (unless_refused before a t).left ≡ cond (stops (shown a)) before t.left
  unless-left (got_point p) = refl
  unless-left (got_head h) = refl
  unless-left (got_body b) = refl
  unless-left declined = refl
  unless-left (ended z) = refl
  unless-left (refused n v) = refl

-- a step, by what is shown of its reply and by what it leaves
abbrev step_of : Reply StoredAnswer → TileState → Step ShownAnswer TileState
step_of r s = record { reply = record { answer = shown r.answer; lists = r.lists }; left = s }

module _ (t : StoredStep) (r : NextStep) (n : NextIs (shown_step t) r) where
  answer-same : next_answer r.answer ≡ shown t.reply.answer
  answer-same = ap (λ (s : Step ShownAnswer TileState). s.reply.answer) n

  reply-same : ◌≡◌ {A = Reply ShownAnswer} (record { answer = next_answer r.answer; lists = no_lists }) (record { answer = shown t.reply.answer; lists = t.reply.lists })
  reply-same = ap (λ (s : Step ShownAnswer TileState). s.reply) n

  left-same : state_of r.stream ≡ t.left
  left-same = ap (λ (s : Step ShownAnswer TileState). s.left) n

  -- the answer as it is given back
  pub gives : (b : Stream) → NextIs (shown_step (unless_refused (state_of b) t.reply.answer t)) (given_back r b)
  gives b =
      let u = unless_refused (state_of b) t.reply.answer t in
      let v : u.reply ≡ t.reply = unless-reply (state_of b) t t.reply.answer in
      let x : state_of (left_of r.answer b r.stream) ≡ u.left =
      left-of r.answer b r.stream
      ∙ ap (λ (a : ShownAnswer). cond (stops a) (state_of b) (state_of r.stream)) answer-same
      ∙ ap (cond (stops (shown t.reply.answer)) (state_of b)) left-same
      ∙ sym (unless-left (state_of b) t t.reply.answer) in
      ap (λ (a : Reply ShownAnswer). record { reply = a; left = state_of (left_of r.answer b r.stream) }) reply-same
      ∙ ap (step_of t.reply) x
      ∙ ap (λ (a : Reply StoredAnswer). step_of a u.left) (sym v)

  module _ (w : Selection) (classes : List ℕ) where
    -- whether a way is selected, by what is shown of it
    told : (h : Head) (x : Result Given Refusal) → next_answer x ≡ got_head (shown_head h) → is_past w classes x ≡ not (selected w classes h)
    told h (Ok (given.Way y)) e = let q : y ≡ shown_head h = cc in ap (λ (y : StreamedHead). not (selects w classes y.bitmap y.tag_ids)) q
    told h (Ok (given.Point p)) e = other e (λ k. omega arith)
    told h (Ok (given.End z)) e = other e (λ k. omega arith)
    told h (Err y) e = other e (λ k. omega arith)

    tells : (h : Head) → t.reply.answer ≡ got_head h → goes_past w classes r ≡ not (selected w classes h)
    tells h e = told h r.answer (answer-same ∙ ap shown e)

    record IsHead (a : StoredAnswer) : Type 0 where
      head : Head
      same : a ≡ got_head head

    is-head : (x : Result Given Refusal) (a : StoredAnswer) → is_past w classes x ≡ true → next_answer x ≡ shown a → IsHead a
    is-head (Ok (given.Way q)) (got_head h) f e = record { head = h; same = refl }
    is-head (Ok (given.Way q)) (got_point y) f e = other e (λ k. omega arith)
    is-head (Ok (given.Way q)) (got_body y) f e = other e (λ k. omega arith)
    is-head (Ok (given.Way q)) declined f e = other e (λ k. omega arith)
    is-head (Ok (given.Way q)) (ended y) f e = other e (λ k. omega arith)
    is-head (Ok (given.Way q)) (refused y v) f e = other e (λ k. omega arith)
    is-head (Ok (given.Point p)) a f e = absurd (false≢true f)
    is-head (Ok (given.End z)) a f e = absurd (false≢true f)
    is-head (Err z) a f e = absurd (false≢true f)

-- The loop, before a call of next: what is still to be done from here is what was to be done at first.
module _ (k : TileKinds) (m : List ℕ) (w : Selection) (classes : List ℕ) (stream₀ : Stream) where
  abbrev pub Left : TileState → Type 0
  Left s = selected_from (format_of k) m (selected w classes) (state_of stream₀) (ways_of s) s ≡ selected_next (format_of k) m (selected w classes) (state_of stream₀)

  module _ (s : TileState) (r : NextStep) (n : NextIs (shown_step (on_next (format_of k) m s)) r) where
    abbrev t : StoredStep
    t = on_next (format_of k) m s

    pub returned : Left s → goes_past w classes r ≡ false → NextIs (shown_step (selected_next (format_of k) m (selected w classes) (state_of stream₀))) (given_back r stream₀)
    returned i f =
        let a = answers (format_of k) m (selected w classes) (state_of stream₀) (ways_of s) s
        (λ h e. not-false (selected w classes h) (sym (tells t r n w classes h e) ∙ f)) in
        subst (λ (x : StoredStep). NextIs (shown_step x) (given_back r stream₀)) (sym a ∙ i) (gives t r n stream₀)

    module _ (f : goes_past w classes r ≡ true) (s' : TileState) (g : s' ≡ (on_decline {P = Point} {H = Head} {B = Body} (state_of r.stream)).left) where
      past_same : s' ≡ past_of (format_of k) m s
      past_same = g ∙ ap (λ (x : TileState). (on_decline {P = Point} {H = Head} {B = Body} x).left) (left-same t r n)

      the-head : IsHead t r n w classes t.reply.answer
      the-head = is-head t r n w classes r.answer t.reply.answer f (answer-same t r n)

      unselected : selected w classes the-head.head ≡ false
      unselected = not-true _ (sym (tells t r n w classes the-head.head the-head.same) ∙ f)

      pub goes_on : Left s → Left s'
      goes_on i =
          ap (λ (x : TileState). selected_from (format_of k) m (selected w classes) (state_of stream₀) (ways_of x) x) past_same
          ∙ sym (goes-past (format_of k) m (selected w classes) (state_of stream₀) s the-head.head the-head.same unselected)
          ∙ i

      pub fewer : ways_of s' < ways_of s
      fewer =
          let a = counts-down (format_of k) m s the-head.head the-head.same in
          let b = ap (λ (x : TileState). ways_of x) past_same in
          omega arith
