-- A stream that goes by a rule (requests 9 and 10, document 02): next, which declines every way that the rule does not select, of a tile of
-- any format; and decline and next as one call. The stream is the machine of crate agreement.
use Rattle.std.specs.Prelude.{◌≡◌, Bool, cond, List, ℕ, zero, suc}
use Rattle.agreement.specs.Calls.{next, decline, Answer, got_point, got_head, got_body, declined, ended, refused, Step, plain}
use Rattle.agreement.specs.Format.{Format}
use Rattle.agreement.specs.Stream.{StreamAnswer, State, idle, waits, StreamState, stream}

-- the ways that remain, without one that waits
abbrev pub ways_of : {E K : Type 0} → State E K → ℕ
ways_of (idle n w i v z) = w
ways_of (waits w x b k z) = w

-- a refused call changes nothing: it leaves the state before it
abbrev pub unless_refused : {P H B E S : Type 0} → (before : S) → Answer P H B E → Step (Answer P H B E) S → Step (Answer P H B E) S
unless_refused before (refused n v) t = record { reply = t.reply; left = before }
unless_refused before (got_point p) t = t
unless_refused before (got_head h) t = t
unless_refused before (got_body b) t = t
unless_refused before declined t = t
unless_refused before (ended z) t = t

-- what comes of a next: a way that is not selected goes past; all else is the answer
abbrev pub passing : {P H B E S : Type 0} → (H → Bool) → (before : S) → (past : Step (Answer P H B E) S) → Answer P H B E → Step (Answer P H B E) S → Step (Answer P H B E) S
passing rule before past (got_head h) t = cond (rule h) t past
passing rule before past (refused n v) t = unless_refused before (refused n v) t
passing rule before past (got_point p) t = t
passing rule before past (got_body b) t = t
passing rule before past declined t = t
passing rule before past (ended z) t = t

-- next is called and, while it answers a way that is not selected, decline and next again, so many times at most
unfoldable pub selected_from : (F : Format) → List ℕ → (rule : F.Head → Bool) → (before : StreamState F) → (turns : ℕ) → StreamState F → Step (StreamAnswer F) (StreamState F)
selected_from F m rule before zero s = unless_refused before (stream F m s next).reply.answer (stream F m s next)
selected_from F m rule before (suc n) s =
    let past = selected_from F m rule before n (stream F m (stream F m s next).left decline).left in
    passing rule before past (stream F m s next).reply.answer (stream F m s next)

-- The next point, the next way that is selected, which then waits, or the end. Only a way that remains can be declined, so that there are
-- turns enough. A refusal is that of the next that was refused, and leaves the state before the whole call.
abbrev pub selected_next : (F : Format) → List ℕ → (rule : F.Head → Bool) → StreamState F → Step (StreamAnswer F) (StreamState F)
selected_next F m rule s = selected_from F m rule s (ways_of s) s

-- what comes of a decline: where it is refused, that is the answer; where the way is declined, what is done behind it
abbrev pub after_decline : {P H B E S : Type 0} → (behind : Step (Answer P H B E) S) → Answer P H B E → Step (Answer P H B E) S → Step (Answer P H B E) S
after_decline behind declined t = behind
after_decline behind (refused n v) t = t
after_decline behind (got_point p) t = t
after_decline behind (got_head h) t = t
after_decline behind (got_body b) t = t
after_decline behind (ended z) t = t

-- Decline and then next, as one call: 16 while no way waits. A refusal leaves the state before the whole call, with the way still waiting.
abbrev pub skipped_next : (F : Format) → List ℕ → StreamState F → Step (StreamAnswer F) (StreamState F)
skipped_next F m s =
    let t = stream F m (stream F m s decline).left next in
    after_decline (unless_refused s t.reply.answer t) (stream F m s decline).reply.answer (stream F m s decline)

-- So a program that calls it sees what one sees that calls decline and then next: a refused decline, or next from the state that decline
-- left, with that next's state unless it was refused.
pub record SkipIsBoth (F : Format) (m : List ℕ) (s : StreamState F) : Type 0 where
  pub refuses : (n : ℕ) (v : List ℕ) (s' : StreamState F) → stream F m s decline ≡ plain (refused n v) s' → skipped_next F m s ≡ plain (refused n v) s
  pub goes_on : (s' s'' : StreamState F) (a : StreamAnswer F) → stream F m s decline ≡ plain declined s' → stream F m s' next ≡ plain a s'' → skipped_next F m s ≡ unless_refused s a (plain a s'')
