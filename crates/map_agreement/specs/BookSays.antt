-- Demand 3, from the functions' contracts: what a program that opened a map, collected a tile and opened its stream knows, and what then
-- holds of every list of calls, on that map and on one that is altered in ways declined untried.
use Rattle.error.specs.declared.LentRefusal.{LentRefusal}
use Rattle.error.specs.declared.Refusal.{Refusal}
use Rattle.tile.specs.declared.Tile.{Tile}
use Rattle.index.specs.declared.TileIndexEntry.{TileIndexEntry}
use Rattle.types.specs.declared.ZoomInterval.{ZoomInterval}
use Rattle.std.specs.Prelude.{Option, Result, Ok, IfOk, ℕ, ◌+◌, ◌^◌, ◌≤◌, ◌<◌, ◌≡◌, true, List, [], ◌∷◌, length}
use Rattle.parsing.specs.Parse.{ok, Part, Maybe, nth}
use Rattle.format.specs.Header.{Interval, Header, header, opened}
use Rattle.format.specs.Index.{Grid, Located, tile_index_entry}
use Rattle.format.specs.Lent.{front, Reply}
use Rattle.format.specs.TagLists.{TagLists}
use Rattle.types.specs.Types.{intervals_of}
use Rattle.types.specs.declared.MapHeader.{MapHeader}
use Rattle.opening.specs.Opening.{OpenIs}
use Rattle.index.specs.Answers.{interval_found, held_entry, held_res, answer_res}
use Rattle.tile_layout.specs.TileLayout.{layout_of, kinds_of}
use Rattle.tile_layout.specs.declared.TileLayout.{TileLayout}
use Rattle.agreement.specs.Calls.{Call}
use Rattle.agreement.specs.Book.{book_replies}
use Rattle.agreement.specs.Collected.{CollectedTile, StoredTile, fetch}
use Rattle.agreement.specs.Declined.{LiesIn, passed_bytes, DifferOnly}
use Rattle.agreement.specs.MapLayout as layout
use Rattle.agreement.specs.MapLayout.{rows_at}
use Rattle.agreement.specs.View.{collected_tile}
use Rattle.agreement.specs.Demand3.{Demand3, MapCollects, map_replies, WaysBehind, OnlyDeclined, MapAlterable}
use Rattle.visit.specs.Visit.{open_tile, open_res, ShownAnswer}
use Rattle.visit.specs.declared.Stream.{Stream}
use Rattle.tile.specs.Tile.{shown_tile, feature_places, collect_tile, tile_places, TileIs}
use Rattle.fetched.specs.Fetched.{FetchLists}
use Rattle.fetch.specs.Fetch.{fetch_listed, FeatureIs}
use Rattle.fetch.specs.Direct.{feature_bytes}
use Rattle.fetched.specs.declared.Feature.{Feature}
use Rattle.map_agreement.specs.TileView.{tile_collection, fetch_gives}
use Rattle.map_agreement.specs.MapsforgeMap.{mapsforge}
use Rattle.map_agreement.specs.Called.{Called}
use Rattle.map_agreement.specs.Texts.{texts_found, texts_stored}

-- what `open_map` answers: the header with the place behind it, or why there is none
abbrev pub MapRead : Type 0
MapRead = Result (MapHeader × ℕ) LentRefusal

-- the contracts of `open_map`, `layout_of` and `interval_of`: what they answer of a map, and what opening leaves of the lists that it was lent
pub record Answers (m : List ℕ) (sub_file : ℕ) (lent : TagLists) (h : MapRead) (t : TagLists) (l : TileLayout) (i : Maybe Interval) : Type 0 where
  pub header : OpenIs (opened m) lent h t
  pub layout : IfOk h (λ a. l ≡ layout_of a.0)
  pub interval : IfOk h (λ a. i ≡ nth (intervals_of a.0) sub_file)

-- and that of `read_tile`: the map opened, the tile collected, with a list that is long enough, and collecting said that every stored size is
-- the decoded length. The tags are those that opening listed, and nobody has written the lists since. (No lent map has 2 ^ 64 bytes.)
pub record Collected (m : List ℕ) (sub_file : ℕ) (grid : Grid) (number : ℕ) (lent : TagLists) (h : MapRead) (tags : TagLists) (l : TileLayout) (i : Option ZoomInterval) (t : Result Tile LentRefusal) : Type 0 where
  pub small : length m < 2 ^ 64
  pub answers : Answers m sub_file lent h tags l (interval_found i)
  pub header : MapHeader
  pub header_end : ℕ
  pub opens : h ≡ Ok (header, header_end)
  pub room : List ℕ
  pub places : List ℕ
  pub tile : TileIs (collect_tile (kinds_of l tags.letters) (interval_found i) grid number m) (tile_places (kinds_of l tags.letters) (interval_found i) grid number m) room t places
  pub whole : Tile
  pub collects : t ≡ Ok whole
  pub exact : whole.exact ≡ true

-- a stream opens
pub data Opens : Result Stream Refusal → Type 0 where
  opens : (s : Stream) → Opens (Ok s)

-- What a program sees of a map at a zoom, when it makes the calls cs. However it opens the map, with the same lent lists, it is answered h,
-- l and i, and the lists are left as t. The tile's stream opens; the calls get these replies, in answers and lent lists; and where the replies give texts, these stand in the map.
pub record Sees (m : List ℕ) (sub_file : ℕ) (grid : Grid) (number zoom : ℕ) (lent : TagLists) (h : MapRead) (t : TagLists) (l : TileLayout) (i : Maybe Interval) (cs : List Call)
    (replied : List (Reply ShownAnswer)) (spelled : List (List (Maybe Part))) : Type 0 where
  pub answers : (h' : MapRead) (t' : TagLists) (l' : TileLayout) (i' : Maybe Interval) → Answers m sub_file lent h' t' l' i' → (h' ≡ h) × (t' ≡ t) × (l' ≡ l) × (i' ≡ i)
  pub streams : (o : Result Stream Refusal) → open_res o ≡ open_tile l i sub_file grid number zoom m → Opens o
  pub replies : (s : Stream) → open_res (Ok s) ≡ open_tile l i sub_file grid number zoom m
      → (rs : List (Reply ShownAnswer)) → Called m (kinds_of l t.letters) s cs rs → rs ≡ replied
  pub texts : texts_found m replied ≡ spelled

-- the book, by the map's stored header, the tile's place and the tile as stored: it knows nothing of the map's bytes
module _ (sub_file : ℕ) (grid : Grid) (number : ℕ) (stored : Header) (place : Located) (tile : StoredTile ((mapsforge sub_file grid number).format stored)) where
  -- the collected tile that the book is fed
  abbrev pub fed_tile : CollectedTile tile_collection
  fed_tile = collected_tile ((mapsforge sub_file grid number).view stored) tile ((mapsforge sub_file grid number).end stored place)

  abbrev pub book_at : (zoom : ℕ) → List Call → List (Reply ShownAnswer)
  book_at zoom cs = book_replies tile_collection fed_tile (rows_at (mapsforge sub_file grid number) stored zoom) cs

  -- the texts of the features that it delivers
  abbrev pub texts_at : (zoom : ℕ) → List Call → List (List (Maybe Part))
  texts_at zoom cs = texts_stored (map_replies (mapsforge sub_file grid number) stored place tile zoom cs)

  -- what a program is to see of the map x
  abbrev pub SeesBook : (x : List ℕ) → (lent : TagLists) → MapRead → TagLists → TileLayout → Maybe Interval → (zoom : ℕ) → List Call → Type 0
  SeesBook x lent h t l i zoom cs = Sees x sub_file grid number zoom lent h t l i cs (book_at zoom cs) (texts_at zoom cs)

  -- the places of its features, as collecting lists them in the map m, in front of a list that is long enough
  abbrev pub listed_in : (m lent : List ℕ) → List ℕ
  listed_in m lent = front (feature_places ((mapsforge sub_file grid number).format stored) m tile) lent

  -- a byte that a fetch of feature k does not read: it lies neither in the header nor in the feature
  abbrev pub Unread : (m : List ℕ) → (k j : ℕ) → Type 0
  Unread m k j = LiesIn j (passed_bytes header m 0 ∷ feature_bytes ((mapsforge sub_file grid number).format stored) m tile k ∷ []) → ⊥

-- The map's stored header and the tile as stored, of which demand 3 holds. `shows`, `entry`, `fetches`: what the book is fed is what
-- collecting answers with a list that is long enough, what `tile_index_entry` answers, and what the fetches give through that list and the
-- counts, also on a map in which bytes are altered that they do not read (request 8). `sees`: whatever a program calls, it sees the book's
-- replies. `altered`, `literal`: so it does on a map of the same length that is altered in ways declined untried, though the tile need
-- not collect there (agreement, Demand3.antt, says why there are two).
pub record BookSays (m : List ℕ) (sub_file : ℕ) (grid : Grid) (number : ℕ) (lent : TagLists) (h : MapRead) (tags : TagLists) (l : TileLayout) (i : Maybe Interval) : Type 0 where
  pub stored : Header
  pub place : Located
  pub tile : StoredTile ((mapsforge sub_file grid number).format stored)
  pub collects : MapCollects (mapsforge sub_file grid number) m stored place tile
  pub demand-3 : Demand3 (mapsforge sub_file grid number) m stored place tile
  pub shows : (t : Result Tile LentRefusal) (room left : List ℕ) → length tile.points + length tile.ways ≤ length room
      → TileIs (collect_tile (kinds_of l tags.letters) i grid number m) (tile_places (kinds_of l tags.letters) i grid number m) room t left
      → (t ≡ Ok (shown_tile tile)) × (left ≡ listed_in sub_file grid number stored place tile m room)
  pub entry : (r : Result TileIndexEntry Refusal) → answer_res r ≡ held_res (tile_index_entry l.debug i grid number m) → r ≡ Ok (held_entry place.entry)
  pub fetches : (room : List ℕ) (k : ℕ) (m' : List ℕ) → DifferOnly m m' (Unread sub_file grid number stored place tile m k) → (lists left : FetchLists) (r : Result Feature LentRefusal)
      → FeatureIs (fetch_listed l tags.starts tags.letters (listed_in sub_file grid number stored place tile m room) (length tile.points) (length tile.ways) k m') lists r left
      → FeatureIs (fetch_gives (fetch (fed_tile sub_file grid number stored place tile) k)) lists r left
  pub sees : (zoom : ℕ) (cs : List Call) → SeesBook sub_file grid number stored place tile m lent h tags l i zoom cs
  pub altered : (zoom : ℕ) (cs : List Call) (m' : List ℕ)
      → DifferOnly m m' (MapAlterable (mapsforge sub_file grid number) m stored tile zoom cs (map_replies (mapsforge sub_file grid number) stored place tile zoom cs))
      → SeesBook sub_file grid number stored place tile m' lent h tags l i zoom cs
  pub literal : (zoom : ℕ) (cs : List Call) (m' : List ℕ)
      → WaysBehind ((mapsforge sub_file grid number).format stored) m tile (rows_at (mapsforge sub_file grid number) stored zoom)
      → DifferOnly m m' (OnlyDeclined (mapsforge sub_file grid number) m stored cs (map_replies (mapsforge sub_file grid number) stored place tile zoom cs))
      → SeesBook sub_file grid number stored place tile m' lent h tags l i zoom cs

-- Request 8 (document 02), of every tile that collects, whatever its stored sizes are: "altered bytes outside it, the header and index signatures
-- change nothing". `tile` is the tile as stored; `places`, `points` and `ways` are what collecting gave.
pub record FetchesAlone (m : List ℕ) (sub_file : ℕ) (grid : Grid) (number : ℕ) (tags : TagLists) (l : TileLayout) (points ways : ℕ) (places : List ℕ) : Type 0 where
  pub stored : Header
  pub place : Located
  pub tile : StoredTile ((mapsforge sub_file grid number).format stored)
  pub header_end : ℕ
  pub opens : opened m ≡ ok stored header_end
  pub past : ℕ
  pub collects : layout.collect_tile (mapsforge sub_file grid number) stored m ≡ ok tile past
  pub same : (k : ℕ) (m' : List ℕ) → DifferOnly m m' (Unread sub_file grid number stored place tile m k)
      → fetch_listed l tags.starts tags.letters places points ways k m' ≡ fetch_listed l tags.starts tags.letters places points ways k m
