-- A collected tile (document 01, "The stream and the collected tile": "Collecting decodes every row and answers the zoom table,
-- first-way offset, feature counts, and (added) whether every stored size is the decoded length"; request 6 adds whether every number was
-- plain, request 8 where each feature starts). The machine is `collect` of crate agreement.
use Rattle.std.specs.Prelude.{ℕ, zero, suc, ◌+◌, Bool, true, ◌&&◌, ◌≡◌, List, [], ◌∷◌, ◌++◌, map as mapped, leb, length, take, Result, Ok}
use Rattle.std.proofs.lemmas.List.Edits.{sets}
use Rattle.parsing.specs.Parse.{Res, ok, no, Parser, ◌>>=◌, return, pick, and_then, map_res, many, end_of, list_of, Maybe}
use Rattle.error.specs.Refusals.{lengths}
use Rattle.error.specs.declared.LentRefusal.{LentRefusal}
use Rattle.error.specs.declared.LentRefusal.TheVariants.{Short}
use Rattle.error.specs.declared.Refusal.{Refusal}
use Rattle.arithmetic.specs.Cut.{cut}
use Rattle.utils.specs.Vbe.{values_of}
use Rattle.format.specs.Header.{Interval}
use Rattle.format.specs.Index.{answer, answered, Grid, locate, tile_at}
use Rattle.format.specs.Lent.{front, Replied, Lending, deliver_to}
use Rattle.format.specs.Rows.{rows_of_interval, interval_table, empty_head, marked_head, located_head}
use Rattle.format.specs.Tile.{Row, TileHead, debug_signature, point, Head, head}
use Rattle.tag.specs.declared.Kind.{Kind}
use Rattle.types.specs.Types.{optional_span}
use Rattle.index.specs.Answers.{lent_answer}
use Rattle.zoom_table.specs.Blocks.{filled_rows}
use Rattle.zoom_table.specs.declared.ZoomRow.{ZoomRow}
use Rattle.agreement.specs.Format.{Format}
use Rattle.agreement.specs.TileFormat.{tile_format}
use Rattle.agreement.specs.Collected.{Way, way, all_exact, plain_points, plain_ways, StoredTile, collect}
use Rattle.tile_layout.specs.TileLayout.{TileKinds, format_of}
use Rattle.tile_walk.specs.TileWalk.{said_ways}
use Rattle.tile_walk.specs.declared.WaysSaid.{WaysSaid}
use Rattle.tile.specs.declared.Tile.{Tile}
use Rattle.tile.specs.declared.TileSummary.{TileSummary}

-- what is shown of a tile that was collected: its features are fetched
abbrev pub shown_tile : {F : Format} → StoredTile F → Tile
shown_tile {F} t = record {
  signature = optional_span t.head.signature;
  zoom_table = filled_rows t.head.table;
  rows = length t.head.table;
  first_way_offset = t.head.offset;
  points = length t.points;
  ways = length t.ways;
  exact = all_exact t.ways;
  plain = t.head.plain && (plain_points F t.points && plain_ways t.ways);
}

-- sub file (8), grid (14), tile (8), its entry and the next one (19), interval (13), then the tile's bytes, if it is not marked empty
unfoldable pub collect_tile : TileKinds → Maybe Interval → Grid → (number : ℕ) → List ℕ → Res Tile
collect_tile l i g t m =
    and_then (locate l.debug i g t m) (λ a _.
    answered (map_res shown_tile (collect (located_head l.debug a) (format_of l) m (tile_at a))))

-- Where each of n reads in a row starts.
abbrev pub places_of : {A : Type 0} → Parser A → (n : ℕ) → List ℕ → (at : ℕ) → List ℕ
places_of p zero m i = []
places_of p (suc n) m i = i ∷ places_of p n m (end_of (p m i))

-- Where each feature starts, its signature in debug maps: the points, behind the head; then the ways, from where the first-way offset leads
abbrev pub feature_places : (F : Format) → List ℕ → StoredTile F → List ℕ
feature_places F m t =
    places_of F.point (length t.points) m t.start ++ places_of (way F) (length t.ways) m (t.start + t.head.offset)

-- of a tile that collects
unfoldable pub tile_places : TileKinds → Maybe Interval → Grid → (number : ℕ) → List ℕ → List ℕ
tile_places l i g t m =
    list_of (and_then (locate l.debug i g t m) (λ a _.
    map_res (feature_places (format_of l) m) (collect (located_head l.debug a) (format_of l) m (tile_at a))))

-- A tile that collects, its places written to the front of a lent list. If the list is shorter, 15, with the length needed (2 ^ 64 - 1
-- stands for any larger one). With any refusal the list is as before the call.
abbrev pub listing : Lending (List ℕ)
listing = record {
  room = λ places lent. leb (length places) (length lent);
  put = front;
  need = λ places. lengths (cut (length places)) 0 0 0 0 0;
}

abbrev pub listed : Res Tile → (places lent : List ℕ) → Replied (List ℕ) (Res Tile)
listed stored places lent = deliver_to listing (λ t. t) (λ _. places) stored lent

-- the answer to a call that collects, where the definitions say `stored` and `places`, and the list after the call
abbrev pub TileIs : (stored : Res Tile) → (places lent : List ℕ) → Result Tile LentRefusal → (left : List ℕ) → Type 0
TileIs stored places lent r left = ◌≡◌ {A = Replied (List ℕ) (Res Tile)} (record { answer = lent_answer r; lists = left }) (listed stored places lent)

-- The same without an array: what is said of a tile besides its rows,
abbrev pub summary_of : Tile → TileSummary
summary_of t = record {
  signature = t.signature;
  first_way_offset = t.first_way_offset;
  points = t.points;
  ways = t.ways;
  rows = t.rows;
  exact = t.exact;
  plain = t.plain;
}

-- and its rows, whose points and ways go to the fronts of two lent lists
abbrev pub rows_of_tile : Tile → List ZoomRow
rows_of_tile t = take t.rows t.zoom_table

abbrev pub row_points : List ZoomRow → List ℕ
row_points l = mapped (λ (r : ZoomRow). r.points) l

abbrev pub row_ways : List ZoomRow → List ℕ
row_ways l = mapped (λ (r : ZoomRow). r.ways) l

-- what is made of the value, or what there was before a refusal
abbrev pub view_or : {A C : Type 0} → (A → C) → C → Res A → C
view_or view empty (ok a e) = view a
view_or view empty (no n v) = empty

-- the lists that a call is lent: two for the rows, one for the places
pub record TileLists : Type 0 where
  pub points : List ℕ
  pub ways : List ℕ
  pub places : List ℕ

abbrev pub lent_tile : (points ways places : List ℕ) → TileLists
lent_tile p w l = record { points = p; ways = w; places = l }

-- the answer and the lists after the call; entries behind the rows and places keep their values, and with a refusal all do
pub record CollectIs (stored : Res Tile) (places : List ℕ) (lent : TileLists) (r : Result TileSummary LentRefusal) (left : TileLists) : Type 0 where
  pub answer : lent_answer r ≡ map_res summary_of (listed stored places lent.places).answer
  pub points : left.points ≡ view_or (λ t. sets lent.points 0 (row_points (rows_of_tile t))) lent.points (listed stored places lent.places).answer
  pub ways : left.ways ≡ view_or (λ t. sets lent.ways 0 (row_ways (rows_of_tile t))) lent.ways (listed stored places lent.places).answer
  pub list : left.places ≡ (listed stored places lent.places).lists

-- What private functions read, which need not be believed: the stored tile at a place, of the levels from low to high,
abbrev pub stored_at : (l : TileKinds) → (empty : Bool) → (low high at : ℕ) → List ℕ → Res (StoredTile (format_of l))
stored_at l empty low high at m = collect (marked_head empty l.debug (rows_of_interval low high)) (format_of l) m at

-- the tile, with the place behind its head, where its points start
abbrev pub shown_from : {F : Format} → Res (StoredTile F) → Res Tile
shown_from r = and_then r (λ t _. ok (shown_tile t) t.start)

abbrev pub collect_at : TileKinds → (empty : Bool) → (low high at : ℕ) → List ℕ → Res Tile
collect_at l empty low high at m = shown_from (stored_at l empty low high at m)

abbrev pub places_at : TileKinds → (empty : Bool) → (low high at : ℕ) → List ℕ → List ℕ
places_at l empty low high at m = list_of (map_res (feature_places (format_of l) m) (stored_at l empty low high at m))

-- whether a list has room for these features, as whole numbers, and the refusal if it has not
abbrev pub has_room : (points ways len : ℕ) → Bool
has_room points ways len = leb (points + ways) len

abbrev pub too_short : (points ways : ℕ) → LentRefusal
too_short points ways = Short (record { list1 = cut (points + ways); list2 = 0; list3 = 0; list4 = 0; list5 = 0; buffer = 0 })

-- its zoom table, behind its signature,
unfoldable pub rows_read : (empty debug : Bool) → (low high : ℕ) → Parser (List Row)
rows_read empty debug low high =
    pick empty (return (empty_head (rows_of_interval low high)).table) (do
      g ← debug_signature debug
      t ← interval_table low high
      return (values_of t))

-- with whether the points were plain
abbrev pub also_points : Bool → WaysSaid → WaysSaid
also_points p s = record { exact = s.exact; plain = p && s.plain }

-- and, behind a head that ends at e, the points, then the ways
abbrev pub walked : TileKinds → List ℕ → (e points ways offset : ℕ) → Res WaysSaid
walked l m e points ways offset =
    and_then (many (point l.debug l.points) points m e) (λ ps _. map_res (also_points (plain_points (format_of l) ps)) (said_ways l m ways (cut (e + offset))))

-- rows that can be read are written to the fronts of two lists
pub record RowsPut (stored : Res (List Row)) (lent_points lent_ways left_points left_ways : List ℕ) : Type 0 where
  pub points : (rows : List Row) (e : ℕ) → stored ≡ ok rows e → left_points ≡ sets lent_points 0 (mapped (λ (r : Row). r.points) rows)
  pub ways : (rows : List Row) (e : ℕ) → stored ≡ ok rows e → left_ways ≡ sets lent_ways 0 (mapped (λ (r : Row). r.ways) rows)

-- what n reads from a place on leave of a list, from entry `first` on, if none of them is refused
pub record ReadsPut {A : Type 0} (p : Parser A) (n : ℕ) (m : List ℕ) (at first : ℕ) (lent left : List ℕ) : Type 0 where
  pub put : (xs : List A) (e : ℕ) → many p n m at ≡ ok xs e → left ≡ sets lent first (places_of p n m at)

-- the same of ways of any kinds of tags, if every stored size is the decoded length
pub record ExactPut (debug : Bool) (n : ℕ) (m : List ℕ) (at first : ℕ) (lent left : List ℕ) : Type 0 where
  pub put : (points ways : List Kind) (ws : List (Way (tile_format debug points ways))) (e : ℕ) → many (way (tile_format debug points ways)) n m at ≡ ok ws e → all_exact ws ≡ true
      → left ≡ sets lent first (places_of (way (tile_format debug points ways)) n m at)

-- of ways, of which this was said
pub record WaysPut (l : TileKinds) (n : ℕ) (exact : Bool) (m : List ℕ) (at first : ℕ) (lent left : List ℕ) : Type 0 where
  pub put : (ws : List (Way (format_of l))) (e : ℕ) → many (way (format_of l)) n m at ≡ ok ws e → all_exact ws ≡ exact → left ≡ sets lent first (places_of (way (format_of l)) n m at)

-- of a tile whose points start at a place, and of which this was said
pub record PlacesPut (l : TileKinds) (m : List ℕ) (start : ℕ) (s : TileSummary) (lent left : List ℕ) : Type 0 where
  pub put : (t : StoredTile (format_of l)) (e : ℕ) (H : Parser TileHead) (at : ℕ) → collect H (format_of l) m at ≡ ok t e → start ≡ t.start → s ≡ summary_of (shown_tile t) → left ≡ sets lent 0 (feature_places (format_of l) m t)

-- where a way ends whose head can be read and whose stored size is its decoded length
pub record EndsExact (debug : Bool) (m : List ℕ) (at : ℕ) (r : Result ℕ Refusal) : Type 0 where
  pub ends : (kinds : List Kind) (h : Head) (b : ℕ) → head debug kinds m at ≡ ok h b → r ≡ Ok (cut (h.start + h.size))
