-- What a tile's stream delivers under a list of decisions, or the refusal that it meets, of a tile of any format: request 1, document 02. No
-- lent list is involved. (WantedSays.antt states that the stream of crate agreement delivers just this.)
use Rattle.std.specs.Prelude.{Bool, not, List, [], ◌∷◌, ℕ, zero, suc, eqb, get_or}
use Rattle.parsing.specs.Parse.{Res, no, Parser, and_then, ◌>>=◌, return, pick, many, seek, Maybe, none, some}
use Rattle.arithmetic.specs.Cut.{cut}
use Rattle.format.specs.Index.{answer}
use Rattle.agreement.specs.Format.{Format, data_end}
use Rattle.agreement.specs.Stream.{StreamState, idle, waits}

-- byte j decides way j: 0 declines it, any other accepts it; behind the end of the list a way is declined
abbrev pub accepts : (decisions : List ℕ) → (way : ℕ) → Bool
accepts ds k = not (eqb (get_or ds k 0) 0)

-- a way that is delivered: its head, and its body if it is accepted
pub record Taken (F : Format) : Type 0 where
  pub head : F.Head
  pub body : Maybe F.Body

-- the body of a declined way is not read: declining goes to data start plus stored size, as the stream holds it
abbrev pub taken_way : (F : Format) → (accepted : Bool) → Parser (Taken F)
taken_way F accepted = do
  h ← F.head
  pick accepted (do
    b ← F.body
    return (record { head = h; body = some b })) (seek (cut (data_end F h)) (return (record { head = h; body = none })))

-- n ways, the first of which is way k
abbrev pub taken_ways : (F : Format) → (decisions : List ℕ) → (k n : ℕ) → Parser (List (Taken F))
taken_ways F ds k zero = return []
taken_ways F ds k (suc n) = do
  w ← taken_way F (accepts ds k)
  ws ← taken_ways F ds (suc k) n
  return (w ∷ ws)

pub record Delivered (F : Format) : Type 0 where
  pub points : List F.Point
  pub ways : List (Taken F)

-- by a stream where no way waits: its points, then its ways; while one waits, next is refused by 16
abbrev pub delivered : (F : Format) → (decisions : List ℕ) → List ℕ → StreamState F → Res (Delivered F)
delivered F ds m (idle n w i v z) =
    and_then (many F.point n m i) (λ ps _. and_then (taken_ways F ds 0 w m v) (λ ws _. answer (record { points = ps; ways = ws })))
delivered F ds m (waits w x b k z) = no 16 []

-- what is there, in front of a list
abbrev pub with_maybe : {A : Type 0} → Maybe A → List A → List A
with_maybe none l = l
with_maybe (some a) l = a ∷ l

-- the bodies of the accepted ways
abbrev pub bodies : {F : Format} → List (Taken F) → List F.Body
bodies [] = []
bodies (w ∷ ws) = with_maybe w.body (bodies ws)
