-- The calls of a stream, their answers, and the lent lists after each: document 01, "The stream and the collected tile". The stream
-- (Stream.antt) and the book of demand 3 (Book.antt) are two machines that answer such calls.
use Rattle.std.specs.Prelude.{List, [], ◌∷◌, ℕ}
use Rattle.format.specs.Lent.{LentLists, Reply}

pub data Call : Type 0 where
  next : Call
  accept : LentLists → Call
  decline : Call

-- next answers a point, a way's head, which then waits, or the end; accept the waiting way's body; decline nothing. A refusal is its
-- number in document 01's table, with its values.
pub data Answer (Point Head Body End : Type 0) : Type 0 where
  got_point : Point → Answer Point Head Body End
  got_head : Head → Answer Point Head Body End
  got_body : Body → Answer Point Head Body End
  declined : Answer Point Head Body End
  ended : End → Answer Point Head Body End
  refused : ℕ → List ℕ → Answer Point Head Body End

-- an answer whose parts are shown another way
abbrev pub map_answer : {P H B E P' H' B' E' : Type 0} → (P → P') → (H → H') → (B → B') → (E → E') → Answer P H B E → Answer P' H' B' E'
map_answer p h b e (got_point x) = got_point (p x)
map_answer p h b e (got_head x) = got_head (h x)
map_answer p h b e (got_body x) = got_body (b x)
map_answer p h b e declined = declined
map_answer p h b e (ended x) = ended (e x)
map_answer p h b e (refused n v) = refused n v

-- a reply, and the state that the call leaves
pub record Step (A S : Type 0) : Type 0 where
  pub reply : Reply A
  pub left : S

-- a machine's replies to a list of calls: each call gets the state that the last one left
abbrev pub run : {A S : Type 0} → (S → Call → Step A S) → S → List Call → List (Reply A)
run f s [] = []
run f s (c ∷ cs) = (f s c).reply ∷ run f (f s c).left cs

-- next and decline are lent none
abbrev pub no_lists : LentLists
no_lists = record { counts = []; latitudes = []; longitudes = [] }

-- next and decline
abbrev pub plain : {A S : Type 0} → A → S → Step A S
plain a s = record { reply = record { answer = a; lists = no_lists }; left = s }

-- accept, with the lists after it
abbrev pub lending : {A S : Type 0} → A → LentLists → S → Step A S
lending a l s = record { reply = record { answer = a; lists = l }; left = s }
