-- Zooming in only adds (request 12, document 02), from the functions' contracts: what a program saw of a tile's stream at one zoom tells
-- what it will see at every lower one. Nothing is supposed of collecting or of stored sizes, nor that layout, interval
-- and letters are the map's own.
use Rattle.std.specs.Prelude.{Result, Ok}
use Rattle.error.specs.declared.Refusal.{Refusal}
use Rattle.std.specs.Prelude.{ℕ, ◌^◌, ◌≤◌, ◌<◌, ◌≡◌, Bool, true, false, List, [], ◌∷◌, length, take}
use Rattle.parsing.specs.Parse.{ok, Maybe}
use Rattle.format.specs.Header.{Interval}
use Rattle.format.specs.Index.{answer, answered, Grid, Located, locate, tile_at}
use Rattle.format.specs.Lent.{LentLists, Reply}
use Rattle.format.specs.Rows.{rows_upto, located_head}
use Rattle.format.specs.Tile.{TileHead}
use Rattle.tagged.specs.declared.TagIds.{TagIds}
use Rattle.poi.specs.declared.Poi.{Poi}
use Rattle.tile_layout.specs.TileLayout.{kinds_of}
use Rattle.tile_layout.specs.declared.TileLayout.{TileLayout}
use Rattle.agreement.specs.Calls.{Call, next, accept, decline, Answer, got_point, got_head, got_body, declined, ended, no_lists}
use Rattle.agreement.specs.Heads.{points_up_to, ways_up_to}
use Rattle.agreement.specs.TileFormat.{TileEnd}
use Rattle.zooming.specs.Zooming.{Delivered, by_head, whole}
use Rattle.zooming.specs.TileEnds.{PlainToo}
use Rattle.visit.specs.Visit.{open_tile, open_res, ShownAnswer}
use Rattle.visit.specs.declared.Stream.{Stream}
use Rattle.visit.specs.declared.StreamedHead.{StreamedHead}
use Rattle.visit.specs.declared.StreamedBody.{StreamedBody}
use Rattle.map_agreement.specs.Called.{Called}
use Rattle.map_agreement.specs.BookSays.{Opens}

-- a way that a program saw: its head and, unless it was declined, the lists lent to accept, the body, and the lists after it
abbrev pub SeenWay : Type 0
SeenWay = Delivered StreamedHead StreamedBody

-- the calls of a program that goes through a stream to its end, by what it does with each way
abbrev pub calls_of_ways : {H B : Type 0} → List (Delivered H B) → List Call
calls_of_ways [] = next ∷ []
calls_of_ways (by_head h ∷ ws) = next ∷ decline ∷ calls_of_ways ws
calls_of_ways (whole h l b l' ∷ ws) = next ∷ accept l ∷ calls_of_ways ws

abbrev pub calls_of : {P H B : Type 0} → List P → List (Delivered H B) → List Call
calls_of [] ws = calls_of_ways ws
calls_of (p ∷ ps) ws = next ∷ calls_of ps ws

-- and the replies, none of them a refusal
abbrev pub plainly : {A : Type 0} → A → Reply A
plainly a = record { answer = a; lists = no_lists }

abbrev pub replies_of_ways : {P H B E : Type 0} → List (Delivered H B) → E → List (Reply (Answer P H B E))
replies_of_ways [] z = plainly (ended z) ∷ []
replies_of_ways (by_head h ∷ ws) z = plainly (got_head h) ∷ plainly declined ∷ replies_of_ways ws z
replies_of_ways (whole h l b l' ∷ ws) z = plainly (got_head h) ∷ record { answer = got_body b; lists = l' } ∷ replies_of_ways ws z

abbrev pub replies_of : {P H B E : Type 0} → List P → List (Delivered H B) → E → List (Reply (Answer P H B E))
replies_of [] ws z = replies_of_ways ws z
replies_of (p ∷ ps) ws z = plainly (got_point p) ∷ replies_of ps ws z

-- The program decides by a rule on bitmap and tag ids alone: it accepts a way, with the next of its lists, exactly if the rule says so.
-- Lists may be left over.
pub data Decides (rule : (bitmap : ℕ) → TagIds → Bool) : (lists : List LentLists) → List SeenWay → Type 0 where
  no_way : {ls : List LentLists} → Decides rule ls []
  declines : {h : StreamedHead} {ls : List LentLists} {ws : List SeenWay} → rule h.bitmap h.tag_ids ≡ false
      → Decides rule ls ws → Decides rule ls (by_head h ∷ ws)
  accepts : {h : StreamedHead} {l l' : LentLists} {b : StreamedBody} {ls : List LentLists} {ws : List SeenWay} → rule h.bitmap h.tag_ids ≡ true
      → Decides rule ls ws → Decides rule (l ∷ ls) (whole h l b l' ∷ ws)

-- What the program saw at a zoom: the contract of `open`, which gave a stream, and those of `next`, `accept` and `decline`, call for call,
-- to a good end. (No lent map has 2 ^ 64 bytes.)
pub record Saw (m : List ℕ) (l : TileLayout) (letters : List ℕ) (i : Maybe Interval) (sub_file : ℕ) (grid : Grid) (number zoom : ℕ) (rule : (bitmap : ℕ) → TagIds → Bool) (lists : List LentLists) (points : List Poi) (ways : List SeenWay) (z : TileEnd) : Type 0 where
  pub small : length m < 2 ^ 64
  pub stream : Stream
  pub opens : open_res (Ok stream) ≡ open_tile l i sub_file grid number zoom m
  pub decides : Decides rule lists ways
  pub calls : Called m (kinds_of l letters) stream (calls_of points ways) (replies_of points ways z)

-- What it will see at a lower zoom, of which the zoom table counts so many points and ways: the stream opens; the rule decides the first
-- ways as it did, with the same lists from the first on; and the replies to the calls that it then makes are the first points and the
-- first ways, field for field and list for list, and an end of the same sub file and water mark, which says that all was plain if the
-- richer one does. There are as many of them as are counted.
pub record WillSee (m : List ℕ) (l : TileLayout) (letters : List ℕ) (i : Maybe Interval) (sub_file : ℕ) (grid : Grid) (number zoom point_count way_count : ℕ) (rule : (bitmap : ℕ) → TagIds → Bool) (lists : List LentLists) (points : List Poi) (ways : List SeenWay) (z : TileEnd) : Type 0 where
  pub opens : (o : Result Stream Refusal) → open_res o ≡ open_tile l i sub_file grid number zoom m → Opens o
  pub decides : Decides rule lists (take way_count ways)
  pub said : TileEnd
  pub plain-too : PlainToo said z
  pub replies : (s : Stream) → open_res (Ok s) ≡ open_tile l i sub_file grid number zoom m
      → (rs : List (Reply ShownAnswer)) → Called m (kinds_of l letters) s (calls_of (take point_count points) (take way_count ways)) rs
      → rs ≡ replies_of (take point_count points) (take way_count ways) said
  pub point-count : length (take point_count points) ≡ point_count
  pub way-count : length (take way_count ways) ≡ way_count

-- The tile has a head, at the place that its entry names; marked empty, it has an empty one. At every lower zoom the program sees the first points and the first ways, as
-- many as the head's zoom table counts up to that zoom, clamped into the interval.
pub record ZoomingIn (m : List ℕ) (l : TileLayout) (letters : List ℕ) (i : Maybe Interval) (sub_file : ℕ) (grid : Grid) (number zoom : ℕ) (rule : (bitmap : ℕ) → TagIds → Bool) (lists : List LentLists) (points : List Poi) (ways : List SeenWay) (z : TileEnd) : Type 0 where
  pub place : Located
  pub located : answered (locate l.debug i grid number m) ≡ answer place
  pub head : TileHead
  pub behind : ℕ
  pub read : located_head l.debug place m (tile_at place) ≡ ok head behind
  pub lower : (zoom' : ℕ) → zoom' ≤ zoom
      → WillSee m l letters i sub_file grid number zoom'
      (points_up_to head.table (rows_upto place.interval.min place.interval.max zoom'))
      (ways_up_to head.table (rows_upto place.interval.min place.interval.max zoom'))
      rule lists points ways z
