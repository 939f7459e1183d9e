-- One turn of the call: an unselected way goes past, and leaves one way less; all else is the answer.
use mathlib.Core.Path.{◌≡◌, refl, ap, ◌∙◌}
use mathlib.Core.Bool.{Bool, true, false, cond}
use mathlib.Core.List.{List}
use Prim.Native.Nat.{ℕ, zero, suc}
use native.Mathlib.Omega.{arith}
use Rattle.parsing.specs.Parse.{Res, ok, no}
use Rattle.agreement.specs.Calls.{next, decline, Answer, got_point, got_head, got_body, declined, ended, refused, Step}
use Rattle.agreement.specs.Format.{Format}
use Rattle.agreement.specs.Stream.{StreamAnswer, StreamState, idle, waits, stream, on_point, on_head}
use Rattle.selection.specs.Selected.{ways_of, unless_refused, passing, selected_from}

-- two answers of other kinds, told apart by a number
abbrev pub kind : {P H B E : Type 0} → Answer P H B E → ℕ
kind (got_point p) = 0
kind (got_head h) = 1
kind (got_body b) = 2
kind declined = 3
kind (ended z) = 4
kind (refused n v) = 5

pub other : {P H B E C : Type 0} {x y : Answer P H B E} → x ≡ y → (kind x ≡ kind y → ⊥) → C
other h f = absurd (f (ap kind h))

module _ (F : Format) (m : List ℕ) where
  abbrev pub answer_at : StreamState F → StreamAnswer F
  answer_at s = (stream F m s next).reply.answer

  -- the state behind a way that is declined
  abbrev pub past_of : StreamState F → StreamState F
  past_of s = (stream F m (stream F m s next).left decline).left

  no-point : {C : Type 0} (n w i v : ℕ) (z : F.End) (h : F.Head) (r : Res F.Point) → (on_point F n w i v z r).reply.answer ≡ got_head h → C
  no-point n w i v z h (ok p x) e = other e (λ k. omega arith)
  no-point n w i v z h (no p x) e = other e (λ k. omega arith)

  one_less : (w i v : ℕ) (z : F.End) (h : F.Head) (r : Res F.Head) → (on_head F w i v z r).reply.answer ≡ got_head h → suc w ≡ suc (ways_of (stream F m (on_head F w i v z r).left decline).left)
  one_less w i v z h (ok g b) e = refl
  one_less w i v z h (no k x) e = other e (λ k. omega arith)

  -- a way that next gives is one of those that remain
  pub counts-down : (s : StreamState F) (h : F.Head) → answer_at s ≡ got_head h → ways_of s ≡ suc (ways_of (past_of s))
  counts-down (idle (suc n) w i v z) h e = no-point n w i v z h (F.point m i) e
  counts-down (idle zero (suc w) i v z) h e = one_less w i v z h (F.head m v) e
  counts-down (idle zero zero i v z) h e = other e (λ k. omega arith)
  counts-down (waits w x b k z) h e = other e (λ k. omega arith)

  module _ (rule : F.Head → Bool) (before : StreamState F) where
    more : (n : ℕ) (s : StreamState F) (h : F.Head) → answer_at s ≡ got_head h → rule h ≡ false → selected_from F m rule before (suc n) s ≡ selected_from F m rule before n (past_of s)
    unfolding selected_from
    more n s h e f =
        ap (λ a. passing rule before (selected_from F m rule before n (past_of s)) a (stream F m s next)) e
        ∙ ap (λ c. cond c (stream F m s next) (selected_from F m rule before n (past_of s))) f

    pub goes-past : (s : StreamState F) (h : F.Head) → answer_at s ≡ got_head h → rule h ≡ false → selected_from F m rule before (ways_of s) s ≡ selected_from F m rule before (ways_of (past_of s)) (past_of s)
    goes-past s h e f = ap (λ n. selected_from F m rule before n s) (counts-down s h e) ∙ more (ways_of (past_of s)) s h e f

    stays : (past : Step (StreamAnswer F) (StreamState F)) (t : Step (StreamAnswer F) (StreamState F)) (a : StreamAnswer F) → ((h : F.Head) → a ≡ got_head h → rule h ≡ true) → passing rule before past a t ≡ unless_refused before a t
    stays past t (got_head h) f = ap (λ c. cond c t past) (f h refl)
    stays past t (got_point p) f = refl
    stays past t (got_body b) f = refl
    stays past t declined f = refl
    stays past t (ended z) f = refl
    stays past t (refused n v) f = refl

    -- where no unselected way is met
    pub answers : (n : ℕ) (s : StreamState F) → ((h : F.Head) → answer_at s ≡ got_head h → rule h ≡ true) → selected_from F m rule before n s ≡ unless_refused before (answer_at s) (stream F m s next)
    unfolding selected_from
    answers zero s f = refl
    answers (suc n) s f = stays (selected_from F m rule before n (past_of s)) (stream F m s next) (answer_at s) f
