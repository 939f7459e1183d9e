-- Fetching: document 01, "The stream and the collected tile": "Feature k of a collected tile can then be fetched, points from 0, ways
-- behind them". Which feature that is says `fetch` of crate agreement; what is given of it, crate fetched.
use Rattle.std.specs.Prelude.{ℕ, ◌+◌, Bool, ◌&&◌, cond, ◌≡◌, List, [], ltb, length, get_or, Result}
use Rattle.parsing.specs.Parse.{Res, no, and_then, map_res, Maybe}
use Rattle.error.specs.declared.LentRefusal.{LentRefusal}
use Rattle.format.specs.Header.{Interval}
use Rattle.format.specs.Index.{answer, answered, Grid, Located, locate, tile_at}
use Rattle.format.specs.Rows.{located_head}
use Rattle.index.specs.Answers.{lent_answer}
use Rattle.tag_table.specs.Tables.{kinds_by}
use Rattle.tag.specs.declared.Kind.{Kind}
use Rattle.agreement.specs.TileFormat.{tile_end, tile_format}
use Rattle.agreement.specs.Collected as collected
use Rattle.agreement.specs.Collected.{stored_collection, stored_tile, collect}
use Rattle.tile_layout.specs.TileLayout.{kinds_of, format_of}
use Rattle.tile_layout.specs.declared.TileLayout.{TileLayout}
use Rattle.fetched.specs.Fetched.{started_name, FetchLists, Fetched, fetched_point, fetched_way, FetchReply, deliver_all}
use Rattle.fetched.specs.declared.Feature.{Feature}
use Rattle.fetched.specs.declared.Feature.TheVariants as feature
use Rattle.fetch_poi.specs.FetchPoi.{poi_stored}
use Rattle.measured_way.specs.MeasuredWay.{way_stored}
use Rattle.fetch.specs.declared.FeaturePlace.{FeaturePlace}
use Rattle.fetch.specs.declared.FeaturePlace.TheVariants as place

abbrev pub fetched_as : {A : Type 0} → (A → Feature) → Fetched A → Fetched Feature
fetched_as f x = record { value = f x.value; values = x.values }

-- a stored feature as it is given, by the names of the tags; 17 for a number at or above the count
abbrev pub given_by : (debug : Bool) (poi_kinds way_kinds : List Kind) → (poi_name way_name : ℕ → List ℕ) → collected.Feature (stored_collection (tile_format debug poi_kinds way_kinds)) → Res (Fetched Feature)
given_by debug poi_kinds way_kinds poi_name way_name (collected.a_point p) = answer (fetched_as feature.Point (fetched_point poi_name p))
given_by debug poi_kinds way_kinds poi_name way_name (collected.a_way w) = answer (fetched_as feature.Way (fetched_way way_name w.head w.body))
given_by debug poi_kinds way_kinds poi_name way_name collected.missing = no 17 []

abbrev pub given : (l : TileLayout) (starts letters : List ℕ) (m : List ℕ) → collected.Feature (stored_collection (format_of (kinds_of l letters))) → Res (Fetched Feature)
given l starts letters m f =
    given_by l.debug (kinds_by letters l.poi_tags) (kinds_by letters l.way_tags) (started_name starts l.poi_tags m)
    (started_name starts l.way_tags m) f

-- feature k of the tile at a place (what the end of its stream says plays no part in it)
abbrev pub fetch_at : TileLayout → (starts letters : List ℕ) → (k : ℕ) → Located → List ℕ → Res (Fetched Feature)
fetch_at l starts letters k a m =
    and_then (collect (located_head l.debug a) (format_of (kinds_of l letters)) m (tile_at a)) (λ t _.
    given l starts letters m (collected.fetch (stored_tile t (tile_end 0 a.entry.water)) k))

-- refused as collecting is (sub file, grid, tile, its entry and the next one, interval, the tile's bytes), then 17
unfoldable pub fetch_tile : TileLayout → (starts letters : List ℕ) → Maybe Interval → Grid → (number k : ℕ) → List ℕ → Res (Fetched Feature)
fetch_tile l starts letters i g n k m = and_then (locate l.debug i g n m) (λ a _. fetch_at l starts letters k a m)

-- Request 8 (document 02): the same through the list that collecting filled, which reads only the one feature. Where it starts:
-- points from 0, ways behind them; 17 for a number at or above the count or the list's length
abbrev pub listed_place : (places : List ℕ) → (points ways k : ℕ) → Res FeaturePlace
listed_place places points ways k =
    cond (ltb k (points + ways) && ltb k (length places)) (answer (cond (ltb k points) (place.Point (get_or places k 0)) (place.Way (get_or places k 0)))) (no 17 [])

-- the feature that is read from there
abbrev pub read_at : TileLayout → (starts letters : List ℕ) → FeaturePlace → List ℕ → Res (Fetched Feature)
read_at l starts letters (place.Point i) m = map_res (fetched_as feature.Point) (poi_stored l.debug starts letters l.poi_tags m i)
read_at l starts letters (place.Way i) m = map_res (fetched_as feature.Way) (way_stored l.debug starts letters l.way_tags m i)

-- by any list and counts
abbrev pub fetch_listed : TileLayout → (starts letters places : List ℕ) → (points ways k : ℕ) → List ℕ → Res (Fetched Feature)
fetch_listed l starts letters places points ways k m = answered (and_then (listed_place places points ways k) (λ p _. read_at l starts letters p m))

-- the answer to a call, where the definition says `stored`, and the lists after it: 15, if a list or the buffer is too short, comes last
abbrev pub FeatureIs : (stored : Res (Fetched Feature)) → (lent : FetchLists) → Result Feature LentRefusal → (left : FetchLists) → Type 0
FeatureIs stored lent r left = ◌≡◌ {A = FetchReply Feature} (record { answer = lent_answer r; lists = left }) (deliver_all stored lent)
