-- The book of demand 3: document 01, "The book of demand 3". It is fed a collected tile, the rows up to the clamped zoom, and the
-- calls with their lent lists; its state is a number k, whether a way waits, and what the end will answer.
use Rattle.std.specs.Prelude.{Bool, true, false, cond, List, [], ℕ, suc, ◌+◌, ◌-◌, ltb, length}
use Rattle.parsing.specs.Parse.{Res, ok, no}
use Rattle.format.specs.Index.{answer}
use Rattle.format.specs.Lent.{LentLists, Reply, deliver}
use Rattle.agreement.specs.Calls.{Call, next, accept, decline, Answer, got_point, got_head, got_body, declined, ended, refused, Step, run, plain, lending}
use Rattle.agreement.specs.Heads.{points_up_to, ways_up_to}
use Rattle.agreement.specs.Collected.{Collection, CollectedTile, Feature, a_point, a_way, missing, fetch}

abbrev pub BookAnswer : Collection → Type 0
BookAnswer K = Answer K.PointAnswer K.HeadAnswer K.BodyAnswer K.EndAnswer

-- `end` is what the end would answer: as the book is fed it, with what was said of each feature since
pub record BookState (E : Type 0) : Type 0 where
  pub k : ℕ
  pub waiting : Bool
  pub end : E

abbrev pub book_state : {E : Type 0} → ℕ → Bool → E → BookState E
book_state k b z = record { k = k; waiting = b; end = z }

-- k is first 0, and no way waits
abbrev pub book_start : {E : Type 0} → E → BookState E
book_start z = book_state 0 false z

abbrev pub BookStep : Collection → Type 0
BookStep K = Step (BookAnswer K) (BookState K.EndAnswer)

-- point k, and k grows by 1 (a tile that collects has it; a missing feature is 17)
abbrev pub book_point : (K : Collection) → (k : ℕ) → K.EndAnswer → Feature K → BookStep K
book_point K k z (a_point p) = plain (got_point (K.point p)) (book_state (suc k) false (K.note_point (K.point p) z))
book_point K k z (a_way w) = plain (refused 17 []) (book_state k false z)
book_point K k z missing = plain (refused 17 []) (book_state k false z)

-- the head of a way, which then waits
abbrev pub book_head : (K : Collection) → (k : ℕ) → K.EndAnswer → Feature K → BookStep K
book_head K k z (a_point p) = plain (refused 17 []) (book_state k false z)
book_head K k z (a_way w) = plain (got_head (K.head w)) (book_state k true (K.note_head (K.head w) z))
book_head K k z missing = plain (refused 17 []) (book_state k false z)

-- what was delivered of a way: its other fields, k grows by 1 and none waits; a refusal changes nothing
abbrev pub book_lent : (K : Collection) → (k : ℕ) → K.EndAnswer → (left : LentLists) → Res K.BodyAnswer → BookStep K
book_lent K k z l (ok b e) = lending (got_body b) l (book_state (suc k) false (K.note_body b z))
book_lent K k z l (no n v) = lending (refused n v) l (book_state k true z)

-- its lists are written, or 15 if one is shorter
abbrev pub book_body : (K : Collection) → (k : ℕ) → K.EndAnswer → LentLists → Feature K → BookStep K
book_body K k z l (a_point p) = lending (refused 17 []) l (book_state k true z)
book_body K k z l (a_way w) = book_lent K k z (deliver K.body K.lists (answer w) l).lists (deliver K.body K.lists (answer w) l).answer
book_body K k z l missing = lending (refused 17 []) l (book_state k true z)

-- way k - P: the fetches count all collected points before the ways, not only the P points up to the zoom
abbrev pub book_way : {K : Collection} → CollectedTile K → (P k : ℕ) → Feature K
book_way t P k = fetch t (length t.points + (k - P))

abbrev pub book_next : (K : Collection) → CollectedTile K → (P W k : ℕ) → K.EndAnswer → BookStep K
book_next K t P W k z =
    cond (ltb k P) (book_point K k z (fetch t k))
    (cond (ltb k (P + W)) (book_head K k z (book_way t P k)) (plain (ended z) (book_state k false z)))

-- by whether a way waits
abbrev pub book_call : (K : Collection) → CollectedTile K → (P W k : ℕ) → Bool → K.EndAnswer → Call → BookStep K
book_call K t P W k false z next = book_next K t P W k z
book_call K t P W k false z (accept l) = lending (refused 16 []) l (book_state k false z)
book_call K t P W k false z decline = plain (refused 16 []) (book_state k false z)
book_call K t P W k true z next = plain (refused 16 []) (book_state k true z)
book_call K t P W k true z (accept l) = book_body K k z l (book_way t P k)
book_call K t P W k true z decline = plain declined (book_state (suc k) false z)

-- one call of the book; P and W sum the zoom table's counts over the first rows
abbrev pub book : (K : Collection) → CollectedTile K → (rows : ℕ) → BookState K.EndAnswer → Call → BookStep K
book K t rows s c = book_call K t (points_up_to t.table rows) (ways_up_to t.table rows) s.k s.waiting s.end c

abbrev pub book_replies : (K : Collection) → CollectedTile K → (rows : ℕ) → List Call → List (Reply (BookAnswer K))
book_replies K t rows cs = run (book K t rows) (book_start t.end) cs
