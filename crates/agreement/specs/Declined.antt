-- The bytes that lie in ways declined untried: document 01, "The book of demand 3". They are computed from the calls and their answers
-- alone. Declined untried: no accept was called while the way waited. So an accept that is refused makes it tried, and a way that
-- still waits at the end of the list is not declined.
use Rattle.std.specs.Prelude.{◌≡◌, ◌≢◌, List, [], ◌∷◌, ◌++◌, ℕ, ◌≤◌, ◌<◌, length, get_or}
use Rattle.parsing.specs.Parse.{Parser, end_of, Maybe, none, some}
use Rattle.format.specs.Lent.{Reply}
use Rattle.agreement.specs.Calls.{Call, next, accept, decline, Answer, got_point, got_head, got_body, declined, ended, refused}
use Rattle.agreement.specs.Format.{Format, data_end}
use Rattle.agreement.specs.Stream.{StreamAnswer}

-- bytes of the map: from one place up to another
pub record Bytes : Type 0 where
  pub from : ℕ
  pub to : ℕ

-- byte j is one of these
pub data LiesIn (j : ℕ) : List Bytes → Type 0 where
  this : {b : Bytes} {l : List Bytes} → b.from ≤ j → j < b.to → LiesIn j (b ∷ l)
  later : {b : Bytes} {l : List Bytes} → LiesIn j l → LiesIn j (b ∷ l)

-- the bytes that a read at place i passes; none if it is refused
abbrev pub passed_bytes : {A : Type 0} → Parser A → List ℕ → ℕ → Bytes
passed_bytes p m i = record { from = i; to = end_of (p m i) }

-- two maps of one length differ only in allowed bytes
pub record DifferOnly (m m' : List ℕ) (Allowed : ℕ → Type 0) : Type 0 where
  pub long : length m ≡ length m'
  pub only : (j : ℕ) → get_or m j 0 ≢ get_or m' j 0 → Allowed j

-- after an answer of next: the head of the way that waits, if no accept was called for it
abbrev pub after_next : {P H B E : Type 0} → Maybe H → Answer P H B E → Maybe H
after_next w (got_point p) = w
after_next w (got_head h) = some h
after_next w (got_body b) = w
after_next w declined = w
after_next w (ended z) = w
after_next w (refused n v) = w

-- the same after any call
abbrev pub untried : {P H B E : Type 0} → Maybe H → Call → Answer P H B E → Maybe H
untried w next a = after_next w a
untried w (accept l) a = none
untried w decline a = none

-- the bytes that a call adds: a decline of such a way adds those behind its tag ids and values, before its data start plus stored size
abbrev pub bytes_added : (F : Format) → Maybe F.Head → Call → List Bytes
bytes_added F (some h) decline = record { from = F.behind h; to = data_end F h } ∷ []
bytes_added F none decline = []
bytes_added F w next = []
bytes_added F w (accept l) = []

abbrev pub declined_from : (F : Format) → Maybe F.Head → List Call → List (Reply (StreamAnswer F)) → List Bytes
declined_from F w [] rs = []
declined_from F w (c ∷ cs) [] = []
declined_from F w (c ∷ cs) (r ∷ rs) = bytes_added F w c ++ declined_from F (untried w c r.answer) cs rs

-- of a list of calls and their replies; at first no way waits
abbrev pub declined_bytes : (F : Format) → List Call → List (Reply (StreamAnswer F)) → List Bytes
declined_bytes F cs rs = declined_from F none cs rs
