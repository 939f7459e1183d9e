-- Collecting and fetching: document 01, "The stream and the collected tile". Collecting decodes every row; feature k of a collected
-- tile can then be fetched, points from 0, ways behind them.
use Rattle.std.specs.Prelude.{Bool, true, ◌&&◌, cond, List, [], ◌∷◌, ℕ, ◌+◌, ◌-◌, ltb, eqb, length}
use Rattle.parsing.specs.Parse.{Res, ok, no, Parser, ◌>>=◌, return, many, here, seek, Maybe, none, some, nth}
use Rattle.arithmetic.specs.Cut.{cut}
use Rattle.format.specs.Tile.{Row, TileHead}
use Rattle.format.specs.Lent.{LentLists}
use Rattle.format.specs.Rows.{points_of, ways_of}
use Rattle.agreement.specs.Format.{Format}

-- a way that was read whole, and the place behind it
pub record Way (F : Format) : Type 0 where
  pub head : F.Head
  pub body : F.Body
  pub end : ℕ

abbrev pub way : (F : Format) → Parser (Way F)
way F = do
  h ← F.head
  b ← F.body
  e ← here
  return (record { head = h; body = b; end = e })

-- counted from the data start, as the stored size is
abbrev pub decoded_length : {F : Format} → Way F → ℕ
decoded_length {F} w = w.end - F.start w.head

-- its stored size is its decoded length
abbrev pub exact : {F : Format} → Way F → Bool
exact {F} w = eqb (F.size w.head) (decoded_length w)

abbrev pub all_exact : {F : Format} → List (Way F) → Bool
all_exact [] = true
all_exact (w ∷ ws) = exact w && all_exact ws

-- every number of a way, of these points and of these ways was plain
abbrev pub plain_way : {F : Format} → Way F → Bool
plain_way {F} w = F.plain_head w.head && F.plain_body w.body

abbrev pub plain_points : (F : Format) → List F.Point → Bool
plain_points F [] = true
plain_points F (p ∷ ps) = F.plain_point p && plain_points F ps

abbrev pub plain_ways : {F : Format} → List (Way F) → Bool
plain_ways [] = true
plain_ways (w ∷ ws) = plain_way w && plain_ways ws

-- a collected tile, its features as stored; `start` is the place behind its head, where the points start
pub record StoredTile (F : Format) : Type 0 where
  pub head : TileHead
  pub start : ℕ
  pub points : List F.Point
  pub ways : List (Way F)

-- the points of all rows, behind the head, then the ways of all rows, from where the first-way offset leads; a tile collects if this is
-- not refused
abbrev pub collect : Parser TileHead → (F : Format) → Parser (StoredTile F)
collect tile_head F = do
  h ← tile_head
  e ← here
  ps ← many F.point (points_of h.table)
  ws ← seek (e + h.offset) (many (way F) (ways_of h.table))
  return (record { head = h; start = e; points = ps; ways = ws })

-- a result as code holds it, its place cut at 2 ^ 64 - 1: where no way is read, the first-way offset may lead past that
abbrev pub cut_place : {A : Type 0} → Res A → Res A
cut_place (ok a e) = ok a (cut e)
cut_place (no n v) = no n v

-- What collecting and fetching give of each feature, together with its texts as stored, and what document 01's book says of it: a
-- point, the head of a way, its other fields, and its lists.
pub record Collection : Type 1 where
  pub Point : Type 0
  pub Way : Type 0
  pub PointAnswer : Type 0
  pub HeadAnswer : Type 0
  pub BodyAnswer : Type 0
  pub EndAnswer : Type 0
  pub point : Point → PointAnswer
  pub head : Way → HeadAnswer
  pub body : Way → BodyAnswer
  pub lists : Way → LentLists
  -- what the end answers, after the book said this of a point, a way's head or its other fields
  pub note_point : PointAnswer → EndAnswer → EndAnswer
  pub note_head : HeadAnswer → EndAnswer → EndAnswer
  pub note_body : BodyAnswer → EndAnswer → EndAnswer

-- a collected tile as the book is fed it; `end` is what the end would answer if no feature was read: its sub file, its entry's water mark,
-- and whether its head was plain
pub record CollectedTile (K : Collection) : Type 0 where
  pub table : List Row
  pub points : List K.Point
  pub ways : List K.Way
  pub end : K.EndAnswer

-- the same of features as stored
abbrev pub stored_collection : Format → Collection
stored_collection F = record {
  Point = F.Point;
  Way = Way F;
  PointAnswer = F.Point;
  HeadAnswer = F.Head;
  BodyAnswer = F.Body;
  EndAnswer = F.End;
  point = λ p. p;
  head = λ w. w.head;
  body = λ w. F.whole (F.kept w.head) w.body;
  lists = λ w. F.lists w.body;
  note_point = F.note_point;
  note_head = F.note_head;
  note_body = F.note_body;
}

abbrev pub stored_tile : {F : Format} → StoredTile F → (TileHead → F.End) → CollectedTile (stored_collection F)
stored_tile {F} t z = record { table = t.head.table; points = t.points; ways = t.ways; end = z t.head }

-- `missing` is refusal 17: a feature number at or above the count
pub data Feature (K : Collection) : Type 0 where
  a_point : K.Point → Feature K
  a_way : K.Way → Feature K
  missing : Feature K

abbrev pub point_or : {K : Collection} → Maybe K.Point → Feature K
point_or none = missing
point_or (some p) = a_point p

abbrev pub way_or : {K : Collection} → Maybe K.Way → Feature K
way_or none = missing
way_or (some w) = a_way w

-- feature k: points from 0, ways behind them
abbrev pub fetch : {K : Collection} → CollectedTile K → ℕ → Feature K
fetch {K} t k =
    cond (ltb k (length t.points)) (point_or {K = K} (nth t.points k)) (way_or {K = K} (nth t.ways (k - length t.points)))
