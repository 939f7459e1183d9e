-- Zooming in only adds (request 12), of a tile of any format: document 02. The stream is the machine of crate agreement. Nothing here
-- speaks of collecting or of decoded lengths, so a tile need not collect, and a stored size may be any number.
use Rattle.std.specs.Prelude.{◌≡◌, Bool, true, false, List, [], ◌∷◌, ◌++◌, ℕ, suc, ◌≤◌, ◌<◌, length, take}
use Rattle.parsing.specs.Parse.{ok, Parser}
use Rattle.format.specs.Lent.{LentLists}
use Rattle.format.specs.Tile.{TileHead}
use Rattle.agreement.specs.Calls.{next, accept, decline, got_point, got_head, got_body, declined, ended, plain, lending}
use Rattle.agreement.specs.Format.{Format}
use Rattle.agreement.specs.Heads.{points_up_to, ways_up_to}
use Rattle.agreement.specs.Stream.{StreamState, stream, open_stream}

-- a way that a stream delivered: by its head alone if it was declined; else with the lists that its accept was lent, the body that accept
-- gave, and the lists after the call
pub data Delivered (Head Body : Type 0) : Type 0 where
  by_head : Head → Delivered Head Body
  whole : Head → (lent : LentLists) → Body → (left : LentLists) → Delivered Head Body

abbrev pub Way : Format → Type 0
Way F = Delivered F.Head F.Body

-- A program drives a stream by a rule, and the stream ends well. Next is called until the end: it gives the points, then the ways. A way
-- is accepted, with the next of the lent lists, exactly if the rule says so of its number, counted from 0, and its head; else it is
-- declined. No call is refused. `points` and `ways` are what the stream delivered, `z` is what its end said.
pub data EndsWell (F : Format) (m : List ℕ) (rule : ℕ → F.Head → Bool) : (way : ℕ) → StreamState F → (lent : List LentLists) → (points : List F.Point) → (ways : List (Way F)) → (z : F.End) → Type 0 where
  at-end : {k : ℕ} {s s' : StreamState F} {z : F.End} → stream F m s next ≡ plain (ended z) s' → EndsWell F m rule k s [] [] [] z
  on-point : {k : ℕ} {s s' : StreamState F} {p : F.Point} {ls : List LentLists} {ps : List F.Point} {ws : List (Way F)} {z : F.End}
      → stream F m s next ≡ plain (got_point p) s'
      → EndsWell F m rule k s' ls ps ws z → EndsWell F m rule k s ls (p ∷ ps) ws z
  on-declined : {k : ℕ} {s s' s'' : StreamState F} {h : F.Head} {ls : List LentLists} {ws : List (Way F)} {z : F.End}
      → stream F m s next ≡ plain (got_head h) s' → rule k h ≡ false → stream F m s' decline ≡ plain declined s''
      → EndsWell F m rule (suc k) s'' ls [] ws z → EndsWell F m rule k s ls [] (by_head h ∷ ws) z
  on-accepted : {k : ℕ} {s s' s'' : StreamState F} {h : F.Head} {b : F.Body} {l l' : LentLists} {ls : List LentLists} {ws : List (Way F)} {z : F.End}
      → stream F m s next ≡ plain (got_head h) s' → rule k h ≡ true → stream F m s' (accept l) ≡ lending (got_body b) l' s''
      → EndsWell F m rule (suc k) s'' ls [] ws z → EndsWell F m rule k s (l ∷ ls) [] (whole h l b l' ∷ ws) z

-- a way's data start is behind its first byte, so that even a declined way of size 0 leads on
pub record Advances (F : Format) : Type 0 where
  pub starts : (m : List ℕ) (i : ℕ) (h : F.Head) (e : ℕ) → F.head m i ≡ ok h e → i < F.start h

-- What the end says grows with what was delivered: R a b if b may be said where more was delivered than where a is said.
pub record Grows (F : Format) (R : F.End → F.End → Type 0) : Type 0 where
  pub same : (z : F.End) → R z z
  pub after : {x y z : F.End} → R x y → R y z → R x z
  -- a delivery adds to it, and to more it adds no less
  pub point : (p : F.Point) (z : F.End) → R z (F.note_point p z)
  pub head : (h : F.Head) (z : F.End) → R z (F.note_head h z)
  pub body : (b : F.Body) (z : F.End) → R z (F.note_body b z)
  pub on-point : (p : F.Point) {y z : F.End} → R y z → R (F.note_point p y) (F.note_point p z)
  pub on-head : (h : F.Head) {y z : F.End} → R y z → R (F.note_head h y) (F.note_head h z)
  pub on-body : (b : F.Body) {y z : F.End} → R y z → R (F.note_body b y) (F.note_body b z)

-- The stream of fewer rows of the tile at place i, whose head is h: it opens, ends well by the same rule with the first of the same
-- lists, and delivers the first points and the first ways, just as many as its rows count. Its end says what y may grow from.
pub record Fewer (tile_head : Parser TileHead) (F : Format) (R : F.End → F.End → Type 0) (m : List ℕ) (rule : ℕ → F.Head → Bool) (i : ℕ) (z : TileHead → F.End) (h : TileHead) (rows : ℕ) (lent : List LentLists) (points : List F.Point) (ways : List (Way F)) (y : F.End) : Type 0 where
  pub start : StreamState F
  pub behind : ℕ
  pub opens : open_stream tile_head rows z m i ≡ ok start behind
  pub first : List LentLists
  pub rest : List LentLists
  pub lists : lent ≡ first ++ rest
  pub said : F.End
  pub ends : EndsWell F m rule 0 start first (take (points_up_to h.table rows) points) (take (ways_up_to h.table rows) ways) said
  pub grows : R said y
  pub point-count : length (take (points_up_to h.table rows) points) ≡ points_up_to h.table rows
  pub way-count : length (take (ways_up_to h.table rows) ways) ≡ ways_up_to h.table rows

-- So it is of every smaller number of rows: the tile has a head, by whose zoom table they are counted.
pub record OnlyAdds (tile_head : Parser TileHead) (F : Format) (R : F.End → F.End → Type 0) (m : List ℕ) (rule : ℕ → F.Head → Bool) (i : ℕ) (z : TileHead → F.End) (rows : ℕ) (lent : List LentLists) (points : List F.Point) (ways : List (Way F)) (y : F.End) : Type 0 where
  pub head : TileHead
  pub behind : ℕ
  pub read : tile_head m i ≡ ok head behind
  pub fewer : (rows' : ℕ) → rows' ≤ rows → Fewer tile_head F R m rule i z head rows' lent points ways y
