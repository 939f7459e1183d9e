-- A fetched feature, by where it stands and what was read there.
use Prim.Native.Nat.{ℕ, ◌+◌, ◌-◌, ◌≤◌, ◌<◌, zero-le}
use native.Mathlib.Omega.{arith}
use mathlib.Core.Path.{◌≡◌, refl, sym, ap, ◌∙◌, subst}
use mathlib.Core.Bool.{Bool, true, false, ◌&&◌, cond}
use mathlib.Core.List.{List, [], ◌++◌}
use lib.Dec.{leb, ltb}
use lib.Ieee.{Float}
use lib.ListN.{length, get_or, drop, length-append, get_or-append}
use lib.Seq.{get_or-append-add}
use borrow.Author.Tests.{ltb-true, ltb-false, le-ltb, lt-ltb, le-leb}
use Rattle.std.specs.Prelude.{Result, Ok, Err}
use Rattle.parsing.specs.Parse.{Res, ok, no, and_then, map_res, Parser, end_of, list_of, Maybe, none, nth}
use Rattle.parsing.specs.Good.{Agree, Good, ok-val, no_ok}
use Rattle.tag.specs.declared.Kind.{Kind}
use Rattle.parsing.proofs.Lists.{nth_past}
use Rattle.error.specs.Refusals.{refused}
use Rattle.error.specs.declared.LentRefusal.{LentRefusal}
use Rattle.error.specs.declared.LentRefusal.TheVariants.{Refused}
use Rattle.error.specs.declared.Refusal.{Refusal}
use Rattle.error.specs.declared.Refusal.TheVariants.{InvalidFeature}
use Rattle.format.specs.Header.{Interval}
use Rattle.format.specs.Index.{answer, answered, Grid, Located, locate, tile_at}
use Rattle.format.specs.Rows.{located_head}
use Rattle.format.specs.Tile.{TileHead, Point, point, Head, head, Body, body}
use Rattle.types.specs.declared.TagRange.{TagRange}
use Rattle.tag_table.specs.Tables.{kinds_by}
use Rattle.agreement.specs.TileFormat.{TileEnd, tile_end, tile_format}
use Rattle.agreement.specs.Format.{Format, Laws}
use Rattle.agreement.specs.Declined.{Bytes, passed_bytes}
use Rattle.agreement.proofs.TileAgrees.{way-good}
use Rattle.agreement.proofs.TileFormatLaws.{tile-laws}
use Rattle.agreement.specs.Collected as collected
use Rattle.agreement.specs.Collected.{Way, way, StoredTile, stored_tile, collect}
use Rattle.agreement.proofs.TileAgrees as tile
use Rattle.tile_layout.specs.TileLayout.{kinds_of, format_of}
use Rattle.tile_layout.specs.declared.TileLayout.{TileLayout}
use Rattle.format.specs.Lent.{front}
use Rattle.tile.specs.Tile.{shown_tile, places_of, feature_places, collect_tile, tile_places, TileIs}
use Rattle.tile.specs.declared.Tile.{Tile}
use Rattle.tile.proofs.PlaceLaws.{places-length, stands}
use Rattle.tile.proofs.CollectLaws.{is-collected}
use Rattle.byte_source.specs.Answers.{lent_res}
use Rattle.index.specs.Answers.{lent_answer}
use Rattle.fetched.specs.Fetched.{started_name, buffered, FetchLists, Fetched, fetched_point, poi_lists, fetched_way, fits_all, FetchReply, deliver_all, fetch_reply}
use Rattle.fetched.specs.declared.Feature.{Feature}
use Rattle.fetched.specs.declared.Feature.TheVariants as feature
use Rattle.fetched.specs.declared.FetchedPoi.{FetchedPoi}
use Rattle.fetched.specs.declared.FetchedWay.{FetchedWay}
use Rattle.fetch_poi.specs.FetchPoi.{poi_stored, buffer_only, PoiFetchIs}
use Rattle.measured_way.specs.MeasuredWay.{way_stored}
use Rattle.fetch_way.specs.FetchWay.{lent, WayFetchIs}
use Rattle.fetch.specs.declared.FeaturePlace.{FeaturePlace}
use Rattle.fetch.specs.declared.FeaturePlace.TheVariants as place
use Rattle.fetch.specs.Fetch.{fetched_as, given_by, given, fetch_at, fetch_tile, FeatureIs, listed_place, read_at, fetch_listed}
use Rattle.fetch.specs.Direct.{Direct, feature_bytes}

-- delivering a point or a way is delivering a feature
delivered-as : {A : Type 0} (f : A → Feature) (stored : Res (Fetched A)) (l : FetchLists)
    → ◌≡◌ {A = FetchReply Feature} (record { answer = answered (map_res f (deliver_all stored l).answer); lists = (deliver_all stored l).lists }) (deliver_all (answered (map_res (fetched_as f) stored)) l)
delivered-as f (ok x e) l = go (fits_all x.values l) refl
  where
    go : (b : Bool) → fits_all x.values l ≡ b → ◌≡◌ {A = FetchReply Feature} (record { answer = answered (map_res f (deliver_all (ok x e) l).answer); lists = (deliver_all (ok x e) l).lists }) (deliver_all (ok (fetched_as f x) 0) l)
    go true h = rw h
    go false h = rw h
delivered-as f (no n v) l = refl

-- a point or a way that was fetched, as the feature
abbrev shown_as : {A : Type 0} → (A → Feature) → Result (A × ℕ) LentRefusal → Result Feature LentRefusal
shown_as f (Ok (v, n)) = Ok (f v)
shown_as f (Err r) = Err r

feature-is : {A : Type 0} (f : A → Feature) (stored : Res (Fetched A)) (l left : FetchLists) (r : Result (A × ℕ) LentRefusal) → fetch_reply r left ≡ deliver_all stored l
    → FeatureIs (answered (map_res (fetched_as f) stored)) l (shown_as f r) left
feature-is {A} f stored l left r q =
    ap (λ (a : Res Feature). record { answer = a; lists = left }) (same r)
    ∙ ap (λ (a : FetchReply A). record { answer = answered (map_res f a.answer); lists = a.lists }) q ∙ delivered-as f stored l
  where
    same : (r : Result (A × ℕ) LentRefusal) → lent_answer (shown_as f r) ≡ answered (map_res f (lent_res r))
    same (Ok (v, n)) = refl
    same (Err x) = refl

-- a point's fetch leaves the lists alone
module _ (debug : Bool) (starts letters : List ℕ) (t : TagRange) (m : List ℕ) (i : ℕ) (c : List ℕ) (la lo il io : List Float) where
  abbrev full : List ℕ → FetchLists
  full b = lent c la lo il io b

  room : (s : Point) (b : List ℕ) → fits_all (poi_lists (started_name starts t m) s) (full b) ≡ leb (length (buffered (started_name starts t m) s.tagged.ids s.name s.house_number none)) (length b)
  room s b = rw (le-leb 0 (length c) zero-le, le-leb 0 (length la) zero-le, le-leb 0 (length lo) zero-le, le-leb 0 (length il) zero-le, le-leb 0 (length io) zero-le) refl

  abbrev widened : List ℕ → FetchReply FetchedPoi → FetchReply FetchedPoi
  widened b r = record { answer = r.answer; lists = full r.lists.buffer }

  wide : (b : List ℕ) → widened b (deliver_all (poi_stored debug starts letters t m i) (buffer_only b)) ≡ deliver_all (poi_stored debug starts letters t m i) (full b)
  wide b = go (point debug (kinds_by letters t) m i)
    where
      tested : (s : Point) (e : ℕ) (x : Bool) → leb (length (buffered (started_name starts t m) s.tagged.ids s.name s.house_number none)) (length b) ≡ x
          → widened b (deliver_all (ok (fetched_point (started_name starts t m) s) e) (buffer_only b)) ≡ deliver_all (ok (fetched_point (started_name starts t m) s) e) (full b)
      tested s e true h = rw (room s b, h) refl
      tested s e false h = rw (room s b, h) refl

      go : (r : Res Point) → widened b (deliver_all (map_res (fetched_point (started_name starts t m)) r) (buffer_only b)) ≡ deliver_all (map_res (fetched_point (started_name starts t m)) r) (full b)
      go (ok s e) = tested s e (leb (length (buffered (started_name starts t m) s.tagged.ids s.name s.house_number none)) (length b)) refl
      go (no n v) = refl

  poi-wide : (b left : List ℕ) (r : Result (FetchedPoi × ℕ) LentRefusal) → PoiFetchIs (poi_stored debug starts letters t m i) b r left → fetch_reply r (full left) ≡ deliver_all (poi_stored debug starts letters t m i) (full b)
  poi-wide b left r q = ap (widened b) q ∙ wide b

-- In a tile that collects, a read from where feature k stands gives what the fetch gives, also on a map x that has the feature's bytes.
module _ (l : TileLayout) (starts letters : List ℕ) (H : Parser TileHead) (m : List ℕ) (i : ℕ) (t : StoredTile (format_of (kinds_of l letters))) (z : ℕ) (c : collect H (format_of (kinds_of l letters)) m i ≡ ok t z) (e : TileHead → TileEnd) (k : ℕ) (x : List ℕ) where
  abbrev F : Format
  F = format_of (kinds_of l letters)

  abbrev L : Laws F
  L = tile-laws l.debug (kinds_by letters l.poi_tags) (kinds_by letters l.way_tags)

  abbrev gives : collected.Feature (collected.stored_collection F) → Res (Fetched Feature)
  gives f = given l starts letters x f

  -- a way is its head and its body
  way-stored : (x y : List ℕ) (j : ℕ) → map_res (λ w. fetched_way (started_name starts l.way_tags y) w.head w.body) (way F x j) ≡ and_then (head l.debug (kinds_by letters l.way_tags) x j) (λ h n. map_res (fetched_way (started_name starts l.way_tags y) h) (body x n))
  way-stored x y j = headed (head l.debug (kinds_by letters l.way_tags) x j)
    where
      bodied : (h : Head) (r : Res Body) → map_res (λ w. fetched_way (started_name starts l.way_tags y) w.head w.body) (and_then {B = Way F} r (λ b n. ok (record { head = h; body = b; end = n }) n))
          ≡ map_res (fetched_way (started_name starts l.way_tags y) h) r
      bodied h (ok b n) = refl
      bodied h (no n v) = refl

      headed : (r : Res Head) → map_res (λ w. fetched_way (started_name starts l.way_tags y) w.head w.body) (and_then {B = Way F} r (λ h n. and_then (body x n) (λ b u. ok (record { head = h; body = b; end = u }) u)))
          ≡ and_then r (λ h n. map_res (fetched_way (started_name starts l.way_tags y) h) (body x n))
      headed (ok h n) = bodied h (body x n)
      headed (no n v) = refl

  abbrev starts-at : List ℕ
  starts-at = feature_places F m t

  abbrev point_places : List ℕ
  point_places = places_of F.point (length t.points) m t.start

  abbrev way_places : List ℕ
  way_places = places_of (way F) (length t.ways) m (t.start + t.head.offset)

  point-places : length point_places ≡ length t.points
  point-places = places-length F.point m (length t.points) t.start

  way-places : length way_places ≡ length t.ways
  way-places = places-length (way F) m (length t.ways) (t.start + t.head.offset)

  both-places : length starts-at ≡ length t.points + length t.ways
  both-places = length-append point_places way_places ∙ rw (point-places, way-places) refl

  -- entry k of the list
  listed-so : (lent : List ℕ) → k < length t.points + length t.ways → get_or (front starts-at lent) k 0 ≡ get_or starts-at k 0
  listed-so lent b = get_or-append starts-at (drop (length starts-at) lent) 0 k (omega (arith, both-places, b))

  -- what is read there is read on x too
  alike : {A : Type 0} (p : Parser A) → Good p → (at : ℕ) (v : A) (n : ℕ) → p m at ≡ ok v n → Agree m x at (end_of (p m at)) → p x at ≡ ok v n
  alike p g at v n h a = g.near m x at v n (subst (λ (j : ℕ). Agree m x at j) (ap end_of h) a) h

  a_point : (lent : List ℕ) → k < length t.points → Agree m x (get_or starts-at k 0) (end_of (F.point m (get_or starts-at k 0)))
      → answered (read_at l starts letters (place.Point (get_or (front starts-at lent) k 0)) x) ≡ gives (collected.point_or (nth t.points k))
  a_point lent b a =
      let s = stands F.point m (tile.collected H F m i t z c).points.chain k b in
      let q : get_or starts-at k 0 ≡ s.at = get_or-append point_places way_places 0 k (omega (arith, point-places, b)) ∙ s.listed in
      let y = alike F.point L.point-good s.at s.value s.end s.read (subst (λ j. Agree m x j (end_of (F.point m j))) q a) in
      rw (listed-so lent (omega (arith, b)), q, y, s.kth)

  a-way : (lent : List ℕ) → length t.points ≤ k → k - length t.points < length t.ways → Agree m x (get_or starts-at k 0) (end_of (way F m (get_or starts-at k 0)))
      → answered (read_at l starts letters (place.Way (get_or (front starts-at lent) k 0)) x) ≡ gives (collected.way_or (nth t.ways (k - length t.points)))
  a-way lent h b a =
      let s = stands (way F) m (tile.collected H F m i t z c).ways.chain (k - length t.points) b in
      let j : length point_places + (k - length t.points) ≡ k = omega (arith, point-places) in
      let q : get_or starts-at k 0 ≡ s.at = ap (λ n. get_or (point_places ++ way_places) n 0) (sym j) ∙ get_or-append-add point_places way_places (k - length t.points) 0 ∙ s.listed in
      let y = alike (way F) (way-good F L) s.at s.value s.end s.read (subst (λ j. Agree m x j (end_of (way F m j))) q a) in
      rw (listed-so lent (omega (arith, b)), q, ← (way-stored x x s.at), y, s.kth)

  -- the fetch through the list that collecting filled
  listed-gives : Agree m x (feature_bytes F m t k).from (feature_bytes F m t k).to → (lent : List ℕ) → fetch_listed l starts letters (front starts-at lent) (length t.points) (length t.ways) k x ≡ gives (collected.fetch (stored_tile t e) k)
  listed-gives a lent = points (ltb k (length t.points)) refl
    where
      bytes : Bool → Bytes
      bytes b = cond b (passed_bytes F.point m (get_or starts-at k 0)) (passed_bytes (way F) m (get_or starts-at k 0))

      agreed : (b : Bool) → ltb k (length t.points) ≡ b → Agree m x (bytes b).from (bytes b).to
      agreed b h = subst (λ b. Agree m x (bytes b).from (bytes b).to) h a

      read : Bool → Bool → Res (Fetched Feature)
      read b d =
          answered (and_then (cond d (answer (cond b (place.Point (get_or (front starts-at lent) k 0)) (place.Way (get_or (front starts-at lent) k 0)))) (no 17 [])) (λ p _. read_at l starts letters p x))

      inside : k < length t.points + length t.ways → (ltb k (length t.points + length t.ways) && ltb k (length (front starts-at lent))) ≡ true
      inside h =
          let n : length (front starts-at lent) ≡ length starts-at + length (drop (length starts-at) lent) = length-append starts-at (drop (length starts-at) lent) in
          rw (lt-ltb k (length t.points + length t.ways) h, lt-ltb k (length (front starts-at lent)) (omega (arith, n, both-places))) refl

      ways : (b : Bool) → ltb (k - length t.points) (length t.ways) ≡ b → ltb k (length t.points) ≡ false
          → read false (ltb k (length t.points + length t.ways) && ltb k (length (front starts-at lent))) ≡ gives (collected.way_or (nth t.ways (k - length t.points)))
      ways true h o =
          let d = ltb-true (k - length t.points) (length t.ways) h in
          let u = ltb-false k (length t.points) o in
          ap (read false) (inside (omega arith)) ∙ a-way lent u d (agreed false o)
      ways false h o =
          let d = ltb-false (k - length t.points) (length t.ways) h in
          let u = ltb-false k (length t.points) o in
          rw (le-ltb k (length t.points + length t.ways) (omega arith), nth_past t.ways (k - length t.points) d) refl

      points : (b : Bool) → ltb k (length t.points) ≡ b
          → read b (ltb k (length t.points + length t.ways) && ltb k (length (front starts-at lent)))
          ≡ gives (cond b (collected.point_or (nth t.points k)) (collected.way_or (nth t.ways (k - length t.points))))
      points true h = let d = ltb-true k (length t.points) h in ap (read true) (inside (omega arith)) ∙ a_point lent d (agreed true h)
      points false h = ways (ltb (k - length t.points) (length t.ways)) refl h

-- the same where the kinds of the listed letters are known otherwise
module _ (l : TileLayout) (starts letters : List ℕ) (H : Parser TileHead) (m : List ℕ) (i : ℕ) (e : TileHead → TileEnd) (k : ℕ) (x lent : List ℕ) where
  Gives : List Kind → List Kind → Type 0
  Gives p w = (t : StoredTile (tile_format l.debug p w)) (z : ℕ) → collect H (tile_format l.debug p w) m i ≡ ok t z
      → Agree m x (feature_bytes (tile_format l.debug p w) m t k).from (feature_bytes (tile_format l.debug p w) m t k).to
      → fetch_listed l starts letters (front (feature_places (tile_format l.debug p w) m t) lent) (length t.points) (length t.ways) k x
      ≡ given_by l.debug p w (started_name starts l.poi_tags x) (started_name starts l.way_tags x) (collected.fetch (stored_tile t e) k)

  pub gives-by : (p w : List Kind) → kinds_by letters l.poi_tags ≡ p → kinds_by letters l.way_tags ≡ w
      → (t : StoredTile (tile_format l.debug p w)) (z : ℕ) → collect H (tile_format l.debug p w) m i ≡ ok t z
      → Agree m x (feature_bytes (tile_format l.debug p w) m t k).from (feature_bytes (tile_format l.debug p w) m t k).to
      → fetch_listed l starts letters (front (feature_places (tile_format l.debug p w) m t) lent) (length t.points) (length t.ways) k x
      ≡ given_by l.debug p w (started_name starts l.poi_tags x) (started_name starts l.way_tags x) (collected.fetch (stored_tile t e) k)
  unfolding Gives
  gives-by p w a b =
      subst (λ p. Gives p w) a (subst (λ w. Gives (kinds_by letters l.poi_tags) w) b
      (λ t z c d. listed-gives l starts letters H m i t z c e k x d lent))

-- where the list leads
module _ (places : List ℕ) (points ways k : ℕ) where
  pub past-list : length places ≤ k → refused InvalidFeature ≡ listed_place places points ways k
  past-list h = rw (le-ltb k (length places) h) (go (ltb k (points + ways)))
    where
      go : (b : Bool) → refused {A = FeaturePlace} InvalidFeature ≡ cond (b && false) (answer (cond (ltb k points) (place.Point (get_or places k 0)) (place.Way (get_or places k 0)))) (no 17 [])
      go true = refl
      go false = refl

  pub past-count : points ≤ k → ways ≤ k - points → refused InvalidFeature ≡ listed_place places points ways k
  past-count h b = rw (le-ltb k (points + ways) (omega arith)) refl

  module _ (n : ℕ) (q : n ≡ get_or places k 0) (b : k < length places) where
    pub point-listed : k < points → answer (place.Point n) ≡ listed_place places points ways k
    point-listed h = rw (lt-ltb k (points + ways) (omega arith), lt-ltb k (length places) b, lt-ltb k points h, q) refl

    pub way-listed : points ≤ k → k - points < ways → answer (place.Way n) ≡ listed_place places points ways k
    way-listed h d = rw (lt-ltb k (points + ways) (omega arith), lt-ltb k (length places) b, le-ltb k points h, q) refl

-- fetching is reading from there
module _ (l : TileLayout) (starts letters places : List ℕ) (points ways k : ℕ) (m : List ℕ) (c : List ℕ) (la lo il io : List Float) (b : List ℕ) where
  abbrev listed : Res (Fetched Feature)
  listed = fetch_listed l starts letters places points ways k m

  abbrev full_lists : FetchLists
  full_lists = lent c la lo il io b

  pub nowhere : (x : Refusal) → refused x ≡ listed_place places points ways k → FeatureIs listed full_lists (Err (Refused x)) full_lists
  nowhere x q = subst (λ (p : Res FeaturePlace). FeatureIs (answered (and_then p (λ q _. read_at l starts letters q m))) full_lists (Err (Refused x)) full_lists) q refl

  -- the place that was listed
  module _ (p : FeaturePlace) (q : answer p ≡ listed_place places points ways k) (at : ℕ) where
    there : (v : FeaturePlace) → p ≡ v → (r : Result Feature LentRefusal) (left : FetchLists) → FeatureIs (answered (read_at l starts letters v m)) full_lists r left → FeatureIs listed full_lists r left
    there v h r left i = subst (λ (x : Res FeaturePlace). FeatureIs (answered (and_then x (λ y _. read_at l starts letters y m))) full_lists r left) (ap answer (sym h) ∙ q) i

    pub point-fetched : p ≡ place.Point at → (r : Result (FetchedPoi × ℕ) LentRefusal) (left : List ℕ) → PoiFetchIs (poi_stored l.debug starts letters l.poi_tags m at) b r left
        → FeatureIs listed full_lists (shown_as feature.Point r) (lent c la lo il io left)
    point-fetched h r left i =
        there (place.Point at) h (shown_as feature.Point r) (lent c la lo il io left)
        (feature-is feature.Point (poi_stored l.debug starts letters l.poi_tags m at) full_lists (lent c la lo il io left) r
        (poi-wide l.debug starts letters l.poi_tags m at c la lo il io b left r i))

    pub way-fetched : p ≡ place.Way at → (r : Result (FetchedWay × ℕ) LentRefusal) (left : FetchLists) → WayFetchIs (way_stored l.debug starts letters l.way_tags m at) full_lists r left
        → FeatureIs listed full_lists (shown_as feature.Way r) left
    way-fetched h r left i = there (place.Way at) h (shown_as feature.Way r) left (feature-is feature.Way (way_stored l.debug starts letters l.way_tags m at) full_lists left r i)

-- With the list and the counts that collecting gave, the fetch is the full one (specs/Direct.antt).
pub direct : (l : TileLayout) (starts letters : List ℕ) (i : Maybe Interval) (grid : Grid) (number : ℕ) (m lent : List ℕ) (t : Tile) (left : List ℕ) → TileIs (collect_tile (kinds_of l letters) i grid number m) (tile_places (kinds_of l letters) i grid number m) lent (Ok t) left
    → Direct l starts letters i grid number m t.points t.ways left
unfolding collect_tile tile_places fetch_tile
direct l starts letters i grid number m lent t left h =
    let k = is-collected _ _ lent t left h in
    record { same = λ n. rw k.list (located n (locate l.debug i grid number m) t k.tile) }
  where
    collects : (n : ℕ) (a : Located) (x : Res (StoredTile (format_of (kinds_of l letters)))) → collect (located_head l.debug a) (format_of (kinds_of l letters)) m (tile_at a) ≡ x → (t : Tile) → answered (map_res shown_tile x) ≡ answer t
        → fetch_listed l starts letters (front (list_of (map_res (feature_places (format_of (kinds_of l letters)) m) x)) lent) t.points t.ways n m ≡ and_then x (λ t _. given l starts letters m (collected.fetch (stored_tile t (tile_end 0 a.entry.water)) n))
    collects n a (ok y z) c t d =
        let e : shown_tile y ≡ t = ok-val d in
        rw (← e) (listed-gives l starts letters (located_head l.debug a) m (tile_at a) y z c (tile_end 0 a.entry.water) n m (record { long = refl; same = λ j u v. refl }) lent)
    collects n a (no x y) c t d = no_ok d

    located : (n : ℕ) (x : Res Located) (t : Tile) → and_then x (λ a _. answered (map_res shown_tile (collect (located_head l.debug a) (format_of (kinds_of l letters)) m (tile_at a)))) ≡ answer t
        → fetch_listed l starts letters (front (list_of (and_then x (λ a _. map_res (feature_places (format_of (kinds_of l letters)) m) (collect (located_head l.debug a) (format_of (kinds_of l letters)) m (tile_at a))))) lent) t.points t.ways n m
        ≡ and_then x (λ a _. fetch_at l starts letters n a m)
    located n (ok a z) t d = collects n a (collect (located_head l.debug a) (format_of (kinds_of l letters)) m (tile_at a)) refl t d
    located n (no x y) t d = no_ok d
