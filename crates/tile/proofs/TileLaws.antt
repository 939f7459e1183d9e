-- Collecting, by what the readers answered.
use Prim.Native.Nat.{ℕ, ◌+◌, ◌-◌, ◌^◌, ◌≤◌, ◌<◌}
use native.Mathlib.Numerals.{add-one}
use mathlib.Core.Path.{◌≡◌, refl, sym, ap, ◌∙◌}
use mathlib.Core.Bool.{Bool, ◌&&◌}
use mathlib.Core.List.{List}
use lib.ListN.{length}
use borrow.Author.Tests.{le-leb}
use Rattle.parsing.specs.Parse.{Res, ok, no, and_then, map_res, many, list_of, Maybe}
use Rattle.parsing.specs.Good.{ok-val, no_ok}
use Rattle.parsing.proofs.Loops.{many-count}
use Rattle.error.specs.Refusals.{refused, number_of, values_of}
use Rattle.error.specs.declared.Refusal.{Refusal}
use Rattle.arithmetic.specs.Cut.{cut}
use Rattle.format.specs.Header.{Interval}
use Rattle.format.specs.Index.{answered, Grid, Located, locate, tile_at}
use Rattle.format.specs.Rows.{marked_head, located_head, rows_of_interval, interval_head, points_of, ways_of}
use Rattle.format.specs.Tile as format
use Rattle.format.specs.Tile.{Point, point}
use Rattle.types.specs.Types.{optional_span}
use Rattle.zoom_table.specs.Blocks.{rows_of}
use Rattle.std.specs.Prelude.{Result}
use Rattle.std.specs.Result.{IsErr, IsErrAnd}
use Rattle.byte_source.specs.Answers.{read_res}
use Rattle.byte_source.proofs.ReadLaws.{handed-up}
use Rattle.tile_head.specs.TileHead.{head_at}
use Rattle.tile_head.specs.declared.TileHead.{TileHead}
use Rattle.tile_place.specs.Places.{place_of}
use Rattle.tile_place.specs.declared.FoundTile.{FoundTile}
use Rattle.tile_place.proofs.PlaceLaws.{located-ordered, place-refused}
use Rattle.agreement.proofs.Stored as held
use Rattle.agreement.specs.Collected.{Way, way, plain_points, StoredTile, collect, cut_place}
use Rattle.agreement.proofs.CollectLaws.{collect-cut, collect-at}
use Rattle.agreement.proofs.TileFormatLaws.{tile-laws, head-counts, head-cut, head-end}
use Rattle.tile_layout.specs.TileLayout.{TileKinds, format_of}
use Rattle.tile_walk.specs.TileWalk.{said_of_all, said_ways}
use Rattle.tile_walk.specs.declared.WaysSaid.{WaysSaid}
use Rattle.tile.specs.Tile.{shown_tile, shown_from, stored_at, collect_at, places_at, feature_places, collect_tile, tile_places, summary_of, also_points, walked}
use Rattle.tile.specs.declared.Tile.{Tile}
use Rattle.tile.specs.declared.TileSummary.{TileSummary}
use Rattle.tile.proofs.RowLaws.{head-table}

-- collecting with every sum cut
module _ (l : TileKinds) (m : List ℕ) (small : length m < 2 ^ 64) (empty : Bool) (rows i : ℕ) where
  abbrev points : format.TileHead → ℕ
  points h = cut (points_of h.table)

  abbrev ways : format.TileHead → ℕ
  ways h = cut (ways_of h.table)

  abbrev shown : Res (StoredTile (format_of l)) → Res Tile
  shown r = shown_from r

  -- the place is not shown
  place-gone : (r : Res (StoredTile (format_of l))) → shown r ≡ shown (cut_place r)
  place-gone (ok t e) = refl
  place-gone (no k v) = refl

  abbrev stored : format.TileHead → ℕ → List Point → List (Way (format_of l)) → StoredTile (format_of l)
  stored h e ps ws = record { head = h; start = e; points = ps; ways = ws }

  abbrev behind : format.TileHead → ℕ → Res (StoredTile (format_of l))
  behind h e =
      and_then (many (point l.debug l.points) (points h) m e) (λ ps _.
      and_then (many (way (format_of l)) (ways h) m (cut (e + h.offset))) (λ ws y.
      ok (stored h e ps ws) y))

  collected : shown (collect (marked_head empty l.debug rows) (format_of l) m i) ≡ shown (and_then (marked_head empty l.debug rows m i) behind)
  collected =
      place-gone (collect (marked_head empty l.debug rows) (format_of l) m i)
      ∙ ap shown (collect-cut (marked_head empty l.debug rows) (head-counts empty l.debug rows) (format_of l) (tile-laws l.debug l.points l.ways) (head-end l.debug l.ways) m small i)

  abbrev made : format.TileHead → WaysSaid → Tile
  made h b = record {
    signature = optional_span h.signature;
    zoom_table = (rows_of h.table).rows;
    rows = length h.table;
    first_way_offset = h.offset;
    points = points h;
    ways = ways h;
    exact = b.exact;
    plain = h.plain && b.plain;
  }

  -- by what the walk behind the head answers
  behind-no : (h : format.TileHead) (e k : ℕ) (v : List ℕ) → no k v ≡ walked l m e (points h) (ways h) h.offset → no k v ≡ shown (behind h e)
  behind-no h e k v q = go (many (point l.debug l.points) (points h) m e) q
    where
      on : (ps : List Point) (r : Res (List (Way (format_of l)))) → no k v ≡ map_res (also_points (plain_points (format_of l) ps)) (map_res (said_of_all l) r) → no k v ≡ shown (and_then r (λ ws y. ok (stored h e ps ws) y))
      on ps (ok ws y) d = no_ok d
      on ps (no x y) d = cc

      go : (r : Res (List Point)) → no k v ≡ and_then r (λ ps _. map_res (also_points (plain_points (format_of l) ps)) (said_ways l m (ways h) (cut (e + h.offset)))) → no k v ≡ shown (and_then r (λ ps _. and_then (many (way (format_of l)) (ways h) m (cut (e + h.offset))) (λ ws y. ok (stored h e ps ws) y)))
      go (ok ps x) d = on ps (many (way (format_of l)) (ways h) m (cut (e + h.offset))) d
      go (no x y) d = cc

  behind-ok : (h : format.TileHead) (e : ℕ) (b : WaysSaid) (y : ℕ) → ok b y ≡ walked l m e (points h) (ways h) h.offset → ok (made h b) e ≡ shown (behind h e)
  behind-ok h e b y q = go (many (point l.debug l.points) (points h) m e) refl q
    where
      on : (ps : List Point) (r : Res (List (Way (format_of l)))) → many (way (format_of l)) (ways h) m (cut (e + h.offset)) ≡ r → length ps ≡ points h → ok b y ≡ map_res (also_points (plain_points (format_of l) ps)) (map_res (said_of_all l) r) → ok (made h b) e ≡ shown (and_then r (λ ws y. ok (stored h e ps ws) y))
      on ps (ok ws z) f c d =
          let n = many-count (way (format_of l)) m (ways h) (cut (e + h.offset)) ws z f in
          let u : b ≡ also_points (plain_points (format_of l) ps) (said_of_all l ws) = ok-val d in
          rw (c, n, u)
      on ps (no x w) f c d = no_ok (sym d)

      go : (r : Res (List Point)) → many (point l.debug l.points) (points h) m e ≡ r → ok b y ≡ and_then r (λ ps _. map_res (also_points (plain_points (format_of l) ps)) (said_ways l m (ways h) (cut (e + h.offset)))) → ok (made h b) e ≡ shown (and_then r (λ ps _. and_then (many (way (format_of l)) (ways h) m (cut (e + h.offset))) (λ ws y. ok (stored h e ps ws) y)))
      go (ok ps x) f d = on ps (many (way (format_of l)) (ways h) m (cut (e + h.offset))) refl (many-count (point l.debug l.points) m (points h) e ps x f) d
      go (no x w) f d = no_ok (sym d)

-- from a tile's place on
module _ (l : TileKinds) (empty : Bool) (low high : ℕ) (m : List ℕ) (at : ℕ) (o : low ≤ high) (small : length m < 2 ^ 64) where
  abbrev head : Res format.TileHead
  head = marked_head empty l.debug (rows_of_interval low high) m at

  abbrev seen : Res TileHead
  seen = map_res (head_at low high high) (interval_head empty l.debug low high m at)

  in-order : seen ≡ map_res (head_at low high high) head
  unfolding interval_head
  in-order = rw (le-leb low high o)

  pub no-head : (g : Result (TileSummary × ℕ) Refusal) (x : Refusal) → IsErr g × IsErrAnd g (λ y. y ≡ x) → refused x ≡ seen → read_res g ≡ map_res summary_of (collect_at l empty low high at m)
  no-head g x h q =
      handed-up (λ a. a) g x _ h (ap (map_res summary_of) (go head (q ∙ in-order) ∙ sym (collected l m small empty (rows_of_interval low high) at)))
    where
      go : (r : Res format.TileHead) → refused x ≡ map_res (head_at low high high) r → refused x ≡ shown l m small empty (rows_of_interval low high) at (and_then r (behind l m small empty (rows_of_interval low high) at))
      go (ok a e) d = no_ok d
      go (no k v) d = cc

  module _ (v : TileHead) (n : ℕ) (q : ok v n ≡ seen) where
    abbrev said_behind : Res WaysSaid
    said_behind = walked l m n v.sums.all_points v.sums.all_ways v.offset

    -- the stored head
    found : held.Stored (head_at low high high) v n head
    found = held.stored (head_at low high high) v n head (q ∙ in-order)

    walked_as : said_behind ≡ walked l m n (cut (points_of found.value.table)) (cut (ways_of found.value.table)) found.value.offset
    walked_as = ap (λ (a : TileHead). walked l m n a.sums.all_points a.sums.all_ways a.offset) found.shown

    collected-as : collect_at l empty low high at m ≡ shown l m small empty (rows_of_interval low high) at (behind l m small empty (rows_of_interval low high) at found.value n)
    collected-as =
        collected l m small empty (rows_of_interval low high) at
        ∙ ap (λ r. shown l m small empty (rows_of_interval low high) at (and_then r (behind l m small empty (rows_of_interval low high) at))) found.same

    pub no_walk : (g : Result (TileSummary × ℕ) Refusal) (x : Refusal) → IsErr g × IsErrAnd g (λ y. y ≡ x) → refused x ≡ said_behind → read_res g ≡ map_res summary_of (collect_at l empty low high at m)
    no_walk g x h d =
        handed-up (λ a. a) g x _ h
        (ap (map_res summary_of)
        (behind-no l m small empty (rows_of_interval low high) at found.value n (number_of x) (values_of x) (d ∙ walked_as)
        ∙ sym collected-as))

    pub summarized : (b : WaysSaid) (y : ℕ) → ok b y ≡ said_behind
        → ◌≡◌ {A = Res TileSummary} (ok (record { signature = v.signature; first_way_offset = v.offset; points = v.sums.all_points; ways = v.sums.all_ways; rows = high - low + 1; exact = b.exact; plain = v.plain && b.plain }) n) (map_res summary_of (collect_at l empty low high at m))
    summarized b y d =
        summary-is found.value v found.shown (head-table empty l.debug low high m at o found.value n found.same).count
        ∙ ap (map_res summary_of) (behind-ok l m small empty (rows_of_interval low high) at found.value n b y (d ∙ walked_as) ∙ sym collected-as)
      where
        summary-is : (k : format.TileHead) (x : TileHead) → x ≡ head_at low high high k → length k.table ≡ rows_of_interval low high
            → ◌≡◌ {A = Res TileSummary} (ok (record { signature = x.signature; first_way_offset = x.offset; points = x.sums.all_points; ways = x.sums.all_ways; rows = high - low + 1; exact = b.exact; plain = x.plain && b.plain }) n) (ok (summary_of (made l m small empty (rows_of_interval low high) at k b)) n)
        summary-is k x h q = rw (h, q, add-one (high - low))

-- what is read from a place is what the definitions say
pub record At (stored : Res Tile) (places : List ℕ) (read : Res Tile) (starts : List ℕ) : Type 0 where
  pub tile : answered read ≡ stored
  pub same : starts ≡ places

abbrev pub AtPlace : TileKinds → Maybe Interval → Grid → ℕ → List ℕ → Res Tile → List ℕ → Type 0
AtPlace l i grid number m read starts = At (collect_tile l i grid number m) (tile_places l i grid number m) read starts

-- a tile's place, first
module _ (l : TileKinds) (i : Maybe Interval) (grid : Grid) (number : ℕ) (m : List ℕ) where
  abbrev located : Res Located
  located = locate l.debug i grid number m

  abbrev there : Located → Res Tile
  there a = answered (map_res shown_tile (collect (located_head l.debug a) (format_of l) m (tile_at a)))

  pub no_place : (x : Refusal) → refused x ≡ map_res place_of located → refused x ≡ collect_tile l i grid number m
  unfolding collect_tile
  no_place x q = place-refused x located (λ a _. there a) q

  module _ (p : FoundTile) (q : ok p 0 ≡ map_res place_of located) where
    pub place-ordered : p.min_zoom ≤ p.max_zoom
    place-ordered = go located refl q
      where
        go : (k : Res Located) → located ≡ k → ok p 0 ≡ map_res place_of k → p.min_zoom ≤ p.max_zoom
        go (ok a e) f d = rw (ok-val d) (located-ordered l.debug i grid number m a e f)
        go (no k v) f d = no_ok (sym d)

    -- the tile is that at the place, which may be cut
    pub at_place : length m < 2 ^ 64 → AtPlace l i grid number m (collect_at l p.empty p.min_zoom p.max_zoom p.at m) (places_at l p.empty p.min_zoom p.max_zoom p.at m)
    unfolding collect_tile tile_places
    at_place small = go located q
      where
        shows : (r : Res (StoredTile (format_of l))) → answered (shown_from r) ≡ answered (map_res shown_tile r)
        shows (ok t e) = refl
        shows (no k v) = refl

        same : (a : Located) → p ≡ place_of a → stored_at l p.empty p.min_zoom p.max_zoom p.at m ≡ collect (located_head l.debug a) (format_of l) m (tile_at a)
        same a d =
            ap (λ (x : FoundTile). stored_at l x.empty x.min_zoom x.max_zoom x.at m) d
            ∙ collect-at (located_head l.debug a) (format_of l) m (place_of a).at (tile_at a) (head-cut a.empty l.debug (rows_of_interval a.interval.min a.interval.max) m a.entry.absolute small)

        go : (k : Res Located) → ok p 0 ≡ map_res place_of k
            → At (and_then k (λ a _. there a)) (list_of (and_then k (λ a _. map_res (feature_places (format_of l) m) (collect (located_head l.debug a) (format_of l) m (tile_at a)))))
            (collect_at l p.empty p.min_zoom p.max_zoom p.at m) (places_at l p.empty p.min_zoom p.max_zoom p.at m)
        go (ok a n) d = record {
          tile = ap (λ r. answered (shown_from r)) (same a (ok-val d)) ∙ shows (collect (located_head l.debug a) (format_of l) m (tile_at a));
          same = ap (λ r. list_of (map_res (feature_places (format_of l) m) r)) (same a (ok-val d));
        }
        go (no k v) d = no_ok (sym d)
