-- Demand 3 from the functions' contracts (specs/BookSays.antt).
use Rattle.std.specs.Prelude.{Option}
use Rattle.std.specs.Prelude.{Result, Ok}
use Rattle.std.proofs.lemmas.Result.{IfOk-at_ok}
use Rattle.types.specs.declared.MapHeader.{MapHeader}
use Rattle.error.specs.declared.LentRefusal.{LentRefusal}
use Rattle.types.specs.declared.ZoomInterval.{ZoomInterval}
use Prim.Native.Nat.{ℕ, ◌+◌, ◌^◌, ◌≤◌, ◌<◌}
use mathlib.Core.Path.{◌≡◌, refl, sym, ap, ◌∙◌, subst}
use mathlib.Core.Bool.{true}
use mathlib.Core.List.{List, map}
use lib.ListN.{length, get_or}
use Rattle.parsing.specs.Parse.{Res, ok, no, and_then, map_res, end_of, list_of, Maybe, nth}
use Rattle.parsing.specs.Good.{ok-val, no_ok}
use Rattle.format.specs.Header.{Interval, Header, header, header-good, opened, debug}
use Rattle.format.specs.Index.{answer, answered, Grid, Located}
use Rattle.format.specs.Kinds.{kind_of_text}
use Rattle.format.specs.TagLists.{TagLists, tag_lists, lists_fit, lists_written}
use Rattle.format.specs.Lent.{front}
use Rattle.format.proofs.ListLaws.{names-listed}
use Rattle.tag.specs.declared.Kind.{Kind}
use Rattle.types.specs.Types.{intervals_of}
use Rattle.opening.specs.Opening.{OpenIs}
use Rattle.opening.proofs.OpenedLaws.{OpenedWith, opened_with}
use Rattle.header.specs.HeaderView.{map_header}
use Rattle.index.specs.Answers.{interval_found}
use Rattle.tile_layout.specs.TileLayout.{layout_of, kinds_of, format_of}
use Rattle.tile_layout.specs.declared.TileLayout.{TileLayout}
use Rattle.agreement.specs.Collected.{StoredTile, all_exact, collect}
use Rattle.agreement.specs.MapLayout.{MapLayout, opened_bytes}
use Rattle.agreement.specs.Demand3.{Demand3, MapCollects, map_replies, MapAlterable}
use Rattle.agreement.proofs.Agreement.{demand-3, open-near}
use Rattle.tile.specs.Tile.{shown_tile, feature_places, collect_tile, tile_places, TileIs}
use Rattle.tile.proofs.PlaceLaws.{places_count}
use Rattle.tile.proofs.CollectLaws.{is-collected, long-enough}
use Rattle.tile.specs.declared.Tile.{Tile}
use Rattle.agreement.specs.Collected as collected
use Rattle.fetched.specs.Fetched.{started_name, Fetched}
use Rattle.fetched.specs.declared.Feature.{Feature}
use Rattle.fetch.specs.Fetch as fetch
use Rattle.fetch.proofs.FetchLaws.{gives-by}
use Rattle.map_agreement.specs.TileView.{fetch_gives}
use Rattle.map_agreement.proofs.FetchGives.{name-is, fetch-gives}
use Rattle.map_agreement.specs.MapsforgeMap.{mapsforge}
use Rattle.map_agreement.specs.BookSays.{MapRead, Answers, Collected, BookSays, fed_tile, book_at, Unread, FetchesAlone}
use Rattle.map_agreement.proofs.MapLaws.{mapsforge-laws}
use Rattle.map_agreement.proofs.HeaderFacts.{opened-is, header_of}
use Rattle.agreement.specs.Calls.{Call}
use Rattle.agreement.specs.Declined.{LiesIn, this, later, DifferOnly}
use Rattle.agreement.proofs.TileAltered.{decided}
use Rattle.map_agreement.specs.Texts.{texts_found}
use Rattle.map_agreement.proofs.Opened.{Listed, kinds, located-as, collected-as, listed-as, entry-is, sees-book}

-- the stored header of a map that was opened, with lists that have room
stored : (m : List ℕ) (lent : TagLists) (b : MapRead) (t : TagLists) (v : MapHeader) (e : ℕ) → OpenIs (opened m) lent b t → b ≡ Ok (v, e) → OpenedWith map_header (opened m) lent v e t
stored m lent b t v e i q = opened_with map_header (opened m) lent v e t (subst (λ x. OpenIs (opened m) lent x t) q i)

-- the map m, in which the tile collects; `b` is what `open_map` answered
module _ (m : List ℕ) (small : length m < 2 ^ 64) (s : ℕ) (grid : Grid) (number : ℕ) (h : Header) (e : ℕ) (o : opened m ≡ ok h e) (lent : TagLists) (room : lists_fit (tag_lists h) lent ≡ true) (b : MapRead) (d : Listed h e lent b (lists_written (tag_lists h) lent)) where
  abbrev C : MapLayout
  C = mapsforge s grid number

  abbrev poi_kinds : List Kind
  poi_kinds = map kind_of_text h.poi_tags.texts

  abbrev way_kinds : List Kind
  way_kinds = map kind_of_text h.way_tags.texts

  -- what `layout_of` and `interval_of` give of the header
  abbrev lay : TileLayout
  lay = layout_of (map_header h)

  abbrev found : Maybe Interval
  found = nth (intervals_of (map_header h)) s

  -- the tags that opening listed
  abbrev tags : TagLists
  tags = lists_written (tag_lists h) lent

  abbrev Says : Type 0
  Says = BookSays m s grid number lent b tags lay found

  -- a map that has the same bytes where opening reads opens with the same header
  opens-too : (m' : List ℕ) → length m ≡ length m' → ((j : ℕ) → LiesIn j (opened_bytes C m h) → get_or m j 0 ≡ get_or m' j 0) → opened m' ≡ ok h e
  opens-too m' long k =
      opened-is s grid number m'
      ∙ open-near m m' long C (mapsforge-laws s grid number) h e k (sym (opened-is s grid number m) ∙ o)

  module _ (l : Located) (x : ℕ) (en : C.entry h m (C.entry_at h) ≡ ok l x) where
    module _ (t : StoredTile (C.format h)) (past : ℕ) (c : collect (C.tile_head h l) (C.format h) m (C.tile_at h l) ≡ ok t past) where
      -- collecting answers that tile
      shown-is : collect_tile (kinds_of lay tags.letters) found grid number m ≡ answer (shown_tile t)
      shown-is = collected-as s grid number h lent m e o l x en ∙ ap (λ r. answered (map_res shown_tile r)) c

      -- and lists its places
      places-are : tile_places (kinds_of lay tags.letters) found grid number m ≡ feature_places (C.format h) m t
      places-are = listed-as s grid number h lent m e o l x en ∙ ap (λ r. list_of (map_res (feature_places (C.format h) m) r)) c

      shows : (r : Result Tile LentRefusal) (list left : List ℕ) → length t.points + length t.ways ≤ length list
          → TileIs (collect_tile (kinds_of lay tags.letters) found grid number m) (tile_places (kinds_of lay tags.letters) found grid number m) list r left
          → (r ≡ Ok (shown_tile t)) × (left ≡ front (feature_places (C.format h) m t) list)
      shows r list left k i =
          let q = long-enough _ (shown_tile t) _ list r left shown-is (subst (λ (x : List ℕ). length x ≤ length list) (sym places-are) (subst (λ n. n ≤ length list) (sym (places_count (C.format h) m t)) k)) i in
          (q.0, q.1 ∙ ap (λ (x : List ℕ). front x list) places-are)

      -- what the fetches give is what the book is fed
      fetched-is : (list : List ℕ) (k : ℕ) (m' : List ℕ) → DifferOnly m m' (Unread s grid number h l t m k)
          → fetch.fetch_listed lay tags.starts tags.letters (front (feature_places (C.format h) m t) list) (length t.points) (length t.ways) k m' ≡ fetch_gives (collected.fetch (fed_tile s grid number h l t) k)
      fetched-is list k m' a =
          let header-too : header m' 0 ≡ ok h e = header-near m' a in
          let names = names-listed m' h e header-too lent in
          gives-by lay tags.starts tags.letters (C.tile_head h l) m (C.tile_at h l) (C.end h l) k m' list poi_kinds way_kinds (kinds s grid number h lent).poi (kinds s grid number h lent).way t past c
          (record { long = a.long; same = λ j u v. decided _ _ (λ q. a.only j q (later (this u v))) })
          ∙ fetch-gives (debug h) poi_kinds way_kinds h.poi_tags.texts h.way_tags.texts (started_name tags.starts lay.poi_tags m') (started_name tags.starts lay.way_tags m') (name-is tags.starts m' lay.poi_tags h.poi_tags names.poi) (name-is tags.starts m' lay.way_tags h.way_tags names.way) t (C.end h l) k
        where
          header-near : (m' : List ℕ) → DifferOnly m m' (Unread s grid number h l t m k) → header m' 0 ≡ ok h e
          header-near m' a =
              let q = header_of m h e o in
              header-good.near m m' 0 h e (record { long = a.long; same = λ j u v. decided _ _ (λ w. a.only j w (this u (subst (λ n. j < n) (sym (ap end_of q)) v))) }) q

      -- so a fetch reads the header and its feature alone, whatever the stored sizes are
      alone : (v : Tile) (list left : List ℕ) → v ≡ shown_tile t → left ≡ front (tile_places (kinds_of lay tags.letters) found grid number m) list
          → FetchesAlone m s grid number tags lay v.points v.ways left
      alone v list left q r =
          let f : left ≡ front (feature_places (C.format h) m t) list = r ∙ ap (λ (x : List ℕ). front x list) places-are in
          record {
            stored = h;
            place = l;
            tile = t;
            header_end = e;
            opens = o;
            past = past;
            collects = ap (λ r. and_then {B = StoredTile (C.format h)} r (λ n _. collect (C.tile_head h n) (C.format h) m (C.tile_at h n))) en ∙ c;
            same = λ k m' a. rw (q, f) (fetched-is list k m' a ∙ sym (fetched-is list k m (record { long = refl; only = λ j n. absurd (n refl) })));
          }

      module _ (sizes : all_exact t.ways ≡ true) where
        whole : MapCollects C m h l t
        whole = record {
          map = record { header_end = e; header = sym (opened-is s grid number m) ∙ o; entry_end = x; entry = en };
          past = past;
          collects = ap (λ r. and_then {B = StoredTile (C.format h)} r (λ n _. collect (C.tile_head h n) (C.format h) m (C.tile_at h n))) en ∙ c;
          sizes = sizes;
          small = small;
        }

        D : Demand3 C m h l t
        D = demand-3 C (mapsforge-laws s grid number) m h l t whole

        says : Says
        says = record {
          stored = h;
          place = l;
          tile = t;
          collects = whole;
          demand-3 = D;
          shows = shows;
          entry = entry-is s grid number h lent m e o l x en;
          fetches = λ list k m' a lists left r f. subst (λ (x : Res (Fetched Feature)). fetch.FeatureIs x lists r left) (fetched-is list k m' a) f;
          sees = λ zoom cs. sees-book s grid number h lent m e o l t zoom cs (D.agrees zoom cs) room b d;
          altered = λ zoom cs m' a.
              sees-book s grid number h lent m' e (opens-too m' a.long (λ j k. decided _ _ (λ q. (a.only j q).only.opened k))) l t zoom cs (D.altered zoom cs m' a) room b d;
          literal = λ zoom cs m' w a.
              sees-book s grid number h lent m' e (opens-too m' a.long (λ j k. decided _ _ (λ q. (a.only j q).opened k))) l t zoom cs (D.literal zoom cs m' w a) room b d;
        }

  -- what is to be shown of the tile as stored
  abbrev Shown : Type 0 → Tile → Type 0
  Shown P v = (l : Located) (x : ℕ) (en : C.entry h m (C.entry_at h) ≡ ok l x) (t : StoredTile (C.format h)) (past : ℕ) → collect (C.tile_head h l) (C.format h) m (C.tile_at h l) ≡ ok t past → v ≡ shown_tile t → P

  from-map : (P : Type 0) (v : Tile) → Shown P v → answer v ≡ collect_tile (kinds_of lay tags.letters) found grid number m → P
  unfolding collect_tile
  from-map P v f q = go (C.entry h m (C.entry_at h)) refl (q ∙ ap (λ r. and_then {B = Tile} r (λ l _. answered (map_res shown_tile (collect (C.tile_head h l) (format_of (kinds_of lay tags.letters)) m (C.tile_at h l))))) (located-as s grid number h lent m e o))
    where
      tiled : (l : Located) (x : ℕ) (en : C.entry h m (C.entry_at h) ≡ ok l x) (r : Res (StoredTile (C.format h))) → collect (C.tile_head h l) (C.format h) m (C.tile_at h l) ≡ r → answer v ≡ answered (map_res shown_tile r) → P
      tiled l x en (ok t past) c d = f l x en t past c (ok-val d)
      tiled l x en (no k y) c d = no_ok (sym d)

      go : (r : Res Located) → C.entry h m (C.entry_at h) ≡ r → answer v ≡ and_then {B = Tile} (answered r) (λ l _. answered (map_res shown_tile (collect (C.tile_head h l) (format_of (kinds_of lay tags.letters)) m (C.tile_at h l)))) → P
      go (ok l x) en d = tiled l x en (collect (C.tile_head h l) (C.format h) m (C.tile_at h l)) refl (q ∙ collected-as s grid number h lent m e o l x en)
      go (no k y) en d = no_ok (sym d)

  from-exact : (v : Tile) → v.exact ≡ true → answer v ≡ collect_tile (kinds_of lay tags.letters) found grid number m → Says
  from-exact v f q = from-map Says v (λ l x en t past c d. says l x en t past c (ap (λ (a : Tile). a.exact) (sym d) ∙ f)) q

-- Demand 3, from the contracts
pub book-says : (m : List ℕ) (sub_file : ℕ) (grid : Grid) (number : ℕ) (lent : TagLists) (h : MapRead) (tags : TagLists) (l : TileLayout) (i : Option ZoomInterval) (t : Result Tile LentRefusal)
    → Collected m sub_file grid number lent h tags l i t → BookSays m sub_file grid number lent h tags l (interval_found i)
book-says m s grid number lent h tags l i t c =
    let n = c.answers in
    let k = stored m lent h tags c.header c.header_end n.header c.opens in
    let filled = lists_written (tag_lists k.header) lent in
    let lay = layout_of (map_header k.header) in
    let found = nth (intervals_of (map_header k.header)) s in
    let g : tags ≡ filled = k.lists in
    let a : l ≡ lay = IfOk-at_ok _ c.opens n.layout ∙ ap layout_of k.shown in
    let b : interval_found i ≡ found = IfOk-at_ok _ c.opens n.interval ∙ ap (λ x. nth (intervals_of x) s) k.shown in
    let q : answer c.whole ≡ collect_tile (kinds_of l tags.letters) (interval_found i) grid number m = sym (is-collected _ _ c.room c.whole c.places (subst (λ x. TileIs (collect_tile (kinds_of l tags.letters) (interval_found i) grid number m) (tile_places (kinds_of l tags.letters) (interval_found i) grid number m) c.room x c.places) c.collects c.tile)).tile in
    subst (λ x. BookSays m s grid number lent h x l (interval_found i)) (sym g)
    (subst (λ x. BookSays m s grid number lent h filled x (interval_found i)) (sym a)
    (subst (λ x. BookSays m s grid number lent h filled lay x) (sym b)
    (from-exact m c.small s grid number k.header c.header_end k.read lent k.fits h (record { header = c.opens ∙ ap (λ y. Ok (y, c.header_end)) k.shown; tags = refl }) c.whole c.exact
    (q ∙ ap (λ (x : TagLists). collect_tile (kinds_of l x.letters) (interval_found i) grid number m) g
    ∙ ap (λ x. collect_tile (kinds_of x filled.letters) (interval_found i) grid number m) a
    ∙ ap (λ x. collect_tile (kinds_of lay filled.letters) x grid number m) b))))

-- Request 8, from the contracts, of every tile that collects
pub fetches-alone : (m : List ℕ) → length m < 2 ^ 64 → (sub_file : ℕ) (grid : Grid) (number : ℕ) (lent : TagLists) (h : MapRead) (tags : TagLists) (l : TileLayout) (i : Option ZoomInterval) (v : MapHeader) (e : ℕ) (t : Tile) (room left : List ℕ)
    → Answers m sub_file lent h tags l (interval_found i) → h ≡ Ok (v, e)
    → TileIs (collect_tile (kinds_of l tags.letters) (interval_found i) grid number m) (tile_places (kinds_of l tags.letters) (interval_found i) grid number m) room (Ok t) left
    → FetchesAlone m sub_file grid number tags l t.points t.ways left
fetches-alone m small s grid number lent h tags lays i v e t room left n opens is =
    let k = stored m lent h tags v e n.header opens in
    let filled = lists_written (tag_lists k.header) lent in
    let lay = layout_of (map_header k.header) in
    let found = nth (intervals_of (map_header k.header)) s in
    let g : tags ≡ filled = k.lists in
    let a : lays ≡ lay = IfOk-at_ok _ opens n.layout ∙ ap layout_of k.shown in
    let b : interval_found i ≡ found = IfOk-at_ok _ opens n.interval ∙ ap (λ x. nth (intervals_of x) s) k.shown in
    let c = is-collected _ _ room t left is in
    subst (λ x. FetchesAlone m s grid number x lays t.points t.ways left) (sym g)
    (subst (λ x. FetchesAlone m s grid number filled x t.points t.ways left) (sym a)
    (from-map m small s grid number k.header e k.read lent k.fits h (record { header = opens ∙ ap (λ y. Ok (y, e)) k.shown; tags = refl }) (FetchesAlone m s grid number filled lay t.points t.ways left) t
    (λ l x en y past f d. alone m small s grid number k.header e k.read lent k.fits h (record { header = opens ∙ ap (λ y. Ok (y, e)) k.shown; tags = refl }) l x en y past f t room left d
    (c.list
    ∙ ap (λ (x : TagLists). front (tile_places (kinds_of lays x.letters) (interval_found i) grid number m) room) g
    ∙ ap (λ x. front (tile_places (kinds_of x filled.letters) (interval_found i) grid number m) room) a
    ∙ ap (λ x. front (tile_places (kinds_of lay filled.letters) x grid number m) room) b))
    (sym c.tile
    ∙ ap (λ (x : TagLists). collect_tile (kinds_of lays x.letters) (interval_found i) grid number m) g
    ∙ ap (λ x. collect_tile (kinds_of x filled.letters) (interval_found i) grid number m) a
    ∙ ap (λ x. collect_tile (kinds_of lay filled.letters) x grid number m) b)))

-- each text that the replies give has the same bytes in both maps
pub texts-alike : (m : List ℕ) (sub_file : ℕ) (grid : Grid) (number : ℕ) (lent : TagLists) (h : MapRead) (tags : TagLists) (l : TileLayout) (i : Maybe Interval) (b : BookSays m sub_file grid number lent h tags l i) (zoom : ℕ) (cs : List Call) (m' : List ℕ)
    → DifferOnly m m' (MapAlterable (mapsforge sub_file grid number) m b.stored b.tile zoom cs (map_replies (mapsforge sub_file grid number) b.stored b.place b.tile zoom cs))
    → texts_found m (book_at sub_file grid number b.stored b.place b.tile zoom cs) ≡ texts_found m' (book_at sub_file grid number b.stored b.place b.tile zoom cs)
texts-alike m s grid number lent h tags l i b zoom cs m' d = (b.sees zoom cs).texts ∙ sym (b.altered zoom cs m' d).texts
