-- The stream of a tile: document 01, "The stream and the collected tile". Places and counts are whole numbers there; the state holds
-- them in 64 bits, cut at 2 ^ 64 - 1, and nothing else that code could not hold.
use Rattle.std.specs.Prelude.{List, [], ℕ, zero, suc, ◌+◌}
use Rattle.parsing.specs.Parse.{Res, ok, no, Parser, ◌>>=◌, return, here}
use Rattle.arithmetic.specs.Cut.{cut}
use Rattle.format.specs.Lent.{LentLists, deliver}
use Rattle.format.specs.Tile.{TileHead}
use Rattle.agreement.specs.Calls.{Call, next, accept, decline, Answer, got_point, got_head, got_body, declined, ended, refused, Step, plain, lending}
use Rattle.agreement.specs.Format.{Format, data_end}
use Rattle.agreement.specs.Heads.{points_up_to, ways_up_to}

-- what a stream answers: features as stored (View.antt has what is shown of them)
abbrev pub StreamAnswer : Format → Type 0
StreamAnswer F = Answer F.Point F.Head F.Body F.End

-- by what the end answers, and what is kept of a waiting way's head
pub data State (E K : Type 0) : Type 0 where
  -- no way waits: the points and ways that remain, the place of the next point, that of the next way, and what the end would answer
  idle : (points ways at way : ℕ) → E → State E K
  -- a way waits: the ways that remain behind it, where declining it goes, the place of its body, what is kept of its head, and what the
  -- end would answer
  waits : (ways past body : ℕ) → K → E → State E K

abbrev pub StreamState : Format → Type 0
StreamState F = State F.End F.Kept

-- the next point; a refusal changes nothing
abbrev pub on_point : (F : Format) → (points ways at way : ℕ) → F.End → Res F.Point → Step (StreamAnswer F) (StreamState F)
on_point F n w i v z (ok p e) = plain (got_point p) (idle n w e v (F.note_point p z))
on_point F n w i v z (no r x) = plain (refused r x) (idle (suc n) w i v z)

-- the next way head, which then waits; declining goes to its data start plus stored size
abbrev pub on_head : (F : Format) → (ways at way : ℕ) → F.End → Res F.Head → Step (StreamAnswer F) (StreamState F)
on_head F w i v z (ok h b) = plain (got_head h) (waits w (cut (data_end F h)) b (F.kept h) (F.note_head h z))
on_head F w i v z (no r x) = plain (refused r x) (idle 0 (suc w) i v z)

-- next: a point; after the last point a way head; at last the end, repeated on further calls; 16 while a way waits
abbrev pub on_next : (F : Format) → List ℕ → StreamState F → Step (StreamAnswer F) (StreamState F)
on_next F m (idle (suc n) w i v z) = on_point F n w i v z (F.point m i)
on_next F m (idle zero (suc w) i v z) = on_head F w i v z (F.head m v)
on_next F m (idle zero zero i v z) = plain (ended z) (idle 0 0 i v z)
on_next F m (waits w x b k z) = plain (refused 16 []) (waits w x b k z)

-- the body of the waiting way, as it was delivered, and the lists after it; a refused accept leaves the way waiting
abbrev pub on_body : {P H B E K : Type 0} → (K → B → B) → (B → E → E) → (ways past body : ℕ) → K → E → (left : LentLists) → Res B → Step (Answer P H B E) (State E K)
on_body whole note w x b k z l (ok d e) = lending (got_body (whole k d)) l (idle 0 w e e (note (whole k d) z))
on_body whole note w x b k z l (no n v) = lending (refused n v) l (waits w x b k z)

-- accept: the body is decoded whole, then its lists are written, or 15; 16 while no way waits. It reads nothing but a body.
abbrev pub on_accept : {P H B E K : Type 0} → Parser B → (B → LentLists) → (K → B → B) → (B → E → E) → List ℕ → State E K → LentLists → Step (Answer P H B E) (State E K)
on_accept body lists whole note m (idle n w i v z) l = lending (refused 16 []) l (idle n w i v z)
on_accept body lists whole note m (waits w x b k z) l =
    on_body whole note w x b k z (deliver (λ d. d) lists (body m b) l).lists (deliver (λ d. d) lists (body m b) l).answer

-- decline: 16 while no way waits. It reads nothing.
abbrev pub on_decline : {P H B E K : Type 0} → State E K → Step (Answer P H B E) (State E K)
on_decline (idle n w i v z) = plain (refused 16 []) (idle n w i v z)
on_decline (waits w x b k z) = plain declined (idle 0 w x x z)

-- one call of a stream over the map m
abbrev pub stream : (F : Format) → List ℕ → StreamState F → Call → Step (StreamAnswer F) (StreamState F)
stream F m s next = on_next F m s
stream F m s (accept l) = on_accept F.body F.lists F.whole F.note_body m s l
stream F m s decline = on_decline s

-- a freshly opened stream of the first rows of a tile's zoom table; h is the tile's head, e the place behind it, z what the end would
-- answer of it
abbrev pub fresh_stream : {E K : Type 0} → (rows : ℕ) → (TileHead → E) → TileHead → ℕ → State E K
fresh_stream rows z h e = idle (cut (points_up_to h.table rows)) (cut (ways_up_to h.table rows)) e (cut (e + h.offset)) (z h)

abbrev pub open_stream : {E K : Type 0} → Parser TileHead → (rows : ℕ) → (TileHead → E) → Parser (State E K)
open_stream tile_head rows z = do
  h ← tile_head
  e ← here
  return (fresh_stream rows z h e)
