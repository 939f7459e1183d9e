-- What demand 3 supposes of a tile's features: which parts they have, and how each is read. The format document's own definitions
-- (crate format) give such a Format; the stream and the book are defined over any. How a tile's head is read stands in Heads.antt:
-- no call of a stream reads it again.
use Rattle.std.specs.Prelude.{◌≡◌, Bool, ℕ, ◌+◌, ◌≤◌}
use Rattle.parsing.specs.Parse.{Parser}
use Rattle.parsing.specs.Good.{Good, Strict, Post}
use Rattle.format.specs.Lent.{LentLists}

pub record Format : Type 1 where
  pub Point : Type 0
  pub Head : Type 0
  pub Body : Type 0
  -- what the end of a stream answers
  pub End : Type 0
  -- a point, signature first
  pub point : Parser Point
  -- a way up to its tag values, signature first: the data start (the byte behind the size field), the stored size, which is counted
  -- from there, and the byte behind the tag values
  pub head : Parser Head
  pub start : Head → ℕ
  pub size : Head → ℕ
  pub behind : Head → ℕ
  -- a way behind its tag values, and its node counts, latitudes and longitudes
  pub body : Parser Body
  pub lists : Body → LentLists
  -- whether every number of it was plain (request 6 of document 02)
  pub plain_point : Point → Bool
  pub plain_head : Head → Bool
  pub plain_body : Body → Bool
  -- what is kept of the head of a way that waits, and the body with what accept says of the whole way
  pub Kept : Type 0
  pub kept : Head → Kept
  pub whole : Kept → Body → Body
  -- what the end answers, after a point, a way's head or its body was delivered
  pub note_point : Point → End → End
  pub note_head : Head → End → End
  pub note_body : Body → End → End

-- data start plus stored size
abbrev pub data_end : (F : Format) → F.Head → ℕ
data_end F h = F.start h + F.size h

-- what every format has to meet: a read depends only on the bytes that it passes, points and heads have at least one byte, and a
-- way's head knows where it ends
pub record Laws (F : Format) : Type 0 where
  pub point-good : Good F.point
  pub point-strict : Strict F.point
  pub head-good : Good F.head
  pub head-strict : Strict F.head
  pub head_post : Post F.head (λ h e. (F.start h ≤ e) × (F.behind h ≡ e))
  pub body-good : Good F.body
