-- Demand 3 for a program in another language: what it knows that opened a map, asked for a sub file's interval and collected a tile,
-- none of which was refused, and what it then sees of every list of calls.
use Rattle.std.specs.Prelude.{Result, Ok}
use Rattle.std.specs.Prelude.{ℕ, ◌+◌, ◌^◌, ◌≤◌, ◌<◌, ◌≡◌, true, List, [], ◌∷◌, length, get_or}
use Rattle.std.proofs.lemmas.List.Edits.{sets}
use Rattle.parsing.specs.Parse.{Part, Maybe}
use Rattle.format.specs.Lent.{front, Reply}
use Rattle.types.specs.Types.{grid_of}
use Rattle.types.specs.declared.Grid.{Grid}
use Rattle.format.specs.TagLists.{TagLists}
use Rattle.types.specs.declared.HeaderFields.{HeaderFields}
use Rattle.error.specs.declared.LentRefusal.{LentRefusal}
use Rattle.index.specs.Answers.{interval_found, held_entry}
use Rattle.agreement.specs.Calls.{Call}
use Rattle.agreement.specs.Collected.{fetch}
use Rattle.agreement.specs.Declined.{DifferOnly}
use Rattle.agreement.specs.MapLayout.{rows_at}
use Rattle.agreement.specs.Demand3.{map_replies, WaysBehind, OnlyDeclined, MapAlterable}
use Rattle.visit.specs.Visit.{ShownAnswer}
use Rattle.fetched.specs.Fetched.{FetchLists}
use Rattle.fetch.specs.Fetch.{FeatureIs}
use Rattle.wire.specs.Wire.{Wire, Lent, list_of, Crosses}
use Rattle.header_wire.specs.Header.{header_wire, layout_in, intervals_in}
use Rattle.header_wire.specs.Codecs.{HeaderLent, header_in}
use Rattle.index_wire.specs.Index.{interval_wire, interval_in, entry_wire}
use Rattle.index_wire.specs.Codecs.{entry_in}
use Rattle.feature_wire.specs.Features.{tile_wire, fetch_wire}
use Rattle.feature_wire.specs.Codecs.{summary_in, tile_in}
use Rattle.tile.specs.Tile.{shown_tile, feature_places, summary_of, rows_of_tile, row_points, row_ways, TileLists}
use Rattle.tile.specs.declared.Tile.{Tile}
use Rattle.exports.specs.Calls.{OpenOf, RowOf, EntryOf, TileOf, FeatureOf}
use Rattle.map_agreement.specs.Texts.{texts_found}
use Rattle.map_agreement.specs.TileView.{fetch_gives}
use Rattle.map_agreement.specs.MapsforgeMap.{mapsforge}
use Rattle.map_agreement.specs.BookSays.{MapRead, BookSays, fed_tile, book_at, texts_at, listed_in, Unread}
use Rattle.word_agreement.specs.WordCalls.{WordStreams}

-- what `mapsforge_open` answers: the header but for its intervals, with the place behind it, or why there is none
abbrev pub FieldsRead : Type 0
FieldsRead = Result (HeaderFields × ℕ) LentRefusal

abbrev pub IntervalLent : Wire → Type 0
IntervalLent = Lent (6 ∷ 6 ∷ []) 0 0

abbrev pub EntryLent : Wire → Type 0
EntryLent = Lent (9 ∷ []) 0 0

abbrev pub TileLent : Wire → Type 0
TileLent = Lent (15 ∷ []) 0 0

-- what `mapsforge_collect` left says this tile: its words, its rows in front of two lists, and its features' places in front of the third
pub record ShowsTile (t : Tile) (places : List ℕ) (lent left : TileLists) (after : Wire) : Type 0 where
  pub words : tile_in after ≡ Ok (summary_of t)
  pub points : left.points ≡ sets lent.points 0 (row_points (rows_of_tile t))
  pub ways : left.ways ≡ sets lent.ways 0 (row_ways (rows_of_tile t))
  pub list : left.places ≡ front places lent.places

-- the contracts of `mapsforge_open` and `mapsforge_interval` on the map x, whatever words were lent to them: what they left there, and what
-- opening left of the lists that it was lent
pub record WordAnswers (x : List ℕ) (sub_file : ℕ) (lists : TagLists) (header : Wire) (tags : TagLists) (interval : Wire) : Type 0 where
  pub header_before : Wire
  pub header_lent : HeaderLent header_before
  pub opens : Crosses (header_wire header_before) (OpenOf x lists tags) header
  pub interval_before : Wire
  pub interval_lent : IntervalLent interval_before
  pub finds : Crosses (interval_wire interval_before) (RowOf x sub_file (intervals_in (list_of header 1))) interval

-- and that of `mapsforge_collect`: nothing was refused, and collecting said that every stored size is the decoded length. (A map is a
-- list of bytes, and no lent map has 2 ^ 64 of them.)
pub record WordCollected (m : List ℕ) (sub_file : ℕ) (grid : Grid) (number : ℕ) (lists : TagLists) (header : Wire) (tags : TagLists) (interval : Wire) : Type 0 where
  pub small : length m < 2 ^ 64
  pub bytes : (j : ℕ) → get_or m j 0 < 256
  pub answers : WordAnswers m sub_file lists header tags interval
  pub opened : header.number ≡ 0
  pub found : interval.number ≡ 0
  pub before : Wire
  pub after : Wire
  pub room : TileLists
  pub left : TileLists
  pub lent : TileLent before
  pub tile : Crosses (tile_wire before) (TileOf m tags.letters number room left (layout_in (list_of header 1)) (interval_in (list_of interval 1)) grid) after
  pub collects : after.number ≡ 0
  pub exact : (summary_in after).exact ≡ true

-- What such a program sees of a map at a zoom, when it makes the calls cs (compare `Sees` of map_agreement): however it opens the map, with
-- the same lent lists, it reads the header h, finds these tags in the lists, gets these layout words, and reads this interval, and neither
-- call is refused; the tile's stream opens, and the
-- calls get these replies
pub record WordSees (x : List ℕ) (sub_file : ℕ) (grid : Grid) (number zoom : ℕ) (lists : TagLists) (h : FieldsRead) (tags : TagLists) (layout interval : List ℕ) (cs : List Call)
    (replied : List (Reply ShownAnswer)) (spelled : List (List (Maybe Part))) : Type 0 where
  pub opened : (header : Wire) (tags' : TagLists) (interval' : Wire) → WordAnswers x sub_file lists header tags' interval' → (header_in header ≡ h) × (tags' ≡ tags)
  pub answers : (header : Wire) (tags' : TagLists) (interval' : Wire) → WordAnswers x sub_file lists header tags' interval'
      → (header.number ≡ 0) × (interval'.number ≡ 0) × (list_of header 1 ≡ layout) × (interval_in (list_of interval' 1) ≡ interval_in interval)
  pub streams : WordStreams x sub_file grid number zoom layout tags.letters interval cs replied
  pub texts : texts_found x replied ≡ spelled

-- Demand 3 holds of the map (`says`: BookSays of map_agreement). `shows`, `entry`, `fetches`: what crosses back from `mapsforge_collect` with a
-- list that is long enough, from `mapsforge_index_entry`, and from `mapsforge_fetch` with all lent lists, through that list, is what the book is
-- fed; the fetch also on a map in which bytes are altered that it does not read. `sees`, `altered`, `literal`: by
-- its words such a program sees the book's replies, on this map, and on one of the same length that is altered in ways declined untried
pub record WordBook (m : List ℕ) (sub_file : ℕ) (grid : Grid) (number : ℕ) (lists tags : TagLists) (layout interval : List ℕ) : Type 0 where
  pub header : MapRead
  pub fields : FieldsRead
  pub says : BookSays m sub_file (grid_of grid) number lists header tags (layout_in layout) (interval_found (interval_in interval))
  pub shows : (room left : TileLists) (before after : Wire) → TileLent before → length says.tile.points + length says.tile.ways ≤ length room.places
      → Crosses (tile_wire before) (TileOf m tags.letters number room left (layout_in layout) (interval_in interval) grid) after
      → ShowsTile (shown_tile says.tile) (feature_places ((mapsforge sub_file (grid_of grid) number).format says.stored) m says.tile) room left after
  pub entry : (before after : Wire) → EntryLent before → Crosses (entry_wire before) (EntryOf m number (layout_in layout) (interval_in interval) grid) after
      → entry_in after ≡ Ok (held_entry says.place.entry)
  pub fetches : (room : List ℕ) (k : ℕ) (m' : List ℕ) → DifferOnly m m' (Unread sub_file (grid_of grid) number says.stored says.place says.tile m k) → (lent left : FetchLists) (before after : Wire)
      → Crosses (fetch_wire before) (FeatureOf m' tags.starts tags.letters (listed_in sub_file (grid_of grid) number says.stored says.place says.tile m room) (length says.tile.points) (length says.tile.ways) k lent left (layout_in layout)) after
      → Crosses (fetch_wire before) (λ r. FeatureIs (fetch_gives (fetch (fed_tile sub_file (grid_of grid) number says.stored says.place says.tile) k)) lent r left) after
  pub sees : (zoom : ℕ) (cs : List Call)
      → WordSees m sub_file grid number zoom lists fields tags layout interval cs (book_at sub_file (grid_of grid) number says.stored says.place says.tile zoom cs) (texts_at sub_file (grid_of grid) number says.stored says.place says.tile zoom cs)
  pub altered : (zoom : ℕ) (cs : List Call) (m' : List ℕ)
      → DifferOnly m m' (MapAlterable (mapsforge sub_file (grid_of grid) number) m says.stored says.tile zoom cs (map_replies (mapsforge sub_file (grid_of grid) number) says.stored says.place says.tile zoom cs))
      → WordSees m' sub_file grid number zoom lists fields tags layout interval cs (book_at sub_file (grid_of grid) number says.stored says.place says.tile zoom cs) (texts_at sub_file (grid_of grid) number says.stored says.place says.tile zoom cs)
  pub literal : (zoom : ℕ) (cs : List Call) (m' : List ℕ)
      → WaysBehind ((mapsforge sub_file (grid_of grid) number).format says.stored) m says.tile (rows_at (mapsforge sub_file (grid_of grid) number) says.stored zoom)
      → DifferOnly m m' (OnlyDeclined (mapsforge sub_file (grid_of grid) number) m says.stored cs (map_replies (mapsforge sub_file (grid_of grid) number) says.stored says.place says.tile zoom cs))
      → WordSees m' sub_file grid number zoom lists fields tags layout interval cs (book_at sub_file (grid_of grid) number says.stored says.place says.tile zoom cs) (texts_at sub_file (grid_of grid) number says.stored says.place says.tile zoom cs)
