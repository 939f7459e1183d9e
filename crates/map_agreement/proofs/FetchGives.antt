-- What the fetches give is what the book is fed: the tag names at their listed starts are those of the header's value.
use Prim.Native.Nat.{ℕ, zero, suc, ◌-◌}
use mathlib.Core.Path.{◌≡◌, refl, sym, ap, ◌∙◌}
use mathlib.Core.Bool.{Bool, true, false, cond}
use mathlib.Core.List.{List, [], ◌∷◌, ◌++◌, map}
use lib.Dec.{ltb}
use lib.ListN.{length, length-map}
use Rattle.parsing.specs.Parse.{Res, Part, Maybe, none, some, nth}
use Rattle.text.specs.Utf8.{replaced}
use Rattle.format.specs.Header.{Tags}
use Rattle.format.specs.Index.{answer}
use Rattle.format.specs.TagTable.{named}
use Rattle.format.specs.TagLists.{listed_text}
use Rattle.types.specs.declared.TagRange.{TagRange}
use Rattle.format.specs.Tile.{TileHead, Point, Head, Body}
use Rattle.tag.specs.declared.Kind.{Kind}
use Rattle.agreement.specs.Collected as collected
use Rattle.agreement.specs.Collected.{Way, StoredTile, stored_collection, stored_tile, fetch}
use Rattle.agreement.specs.View.{View, collected_tile}
use Rattle.agreement.specs.TileFormat.{TileEnd, tile_format}
use Rattle.fetched.specs.Fetched.{part_bytes, found_bytes, listed_name, started_name, id_texts, present, tag_string, filled_texts, Fetched, fetched_point, poi_record, poi_lists, fetched_way, way_record, way_lists}
use Rattle.fetched.specs.declared.TagText.{TagText}
use Rattle.fetched.specs.declared.FetchedPoi.{FetchedPoi}
use Rattle.fetched.specs.declared.FetchedWay.{FetchedWay}
use Rattle.fetched.specs.declared.Feature.{Feature}
use Rattle.fetched.specs.declared.Feature.TheVariants as feature
use Rattle.fetch.specs.Fetch.{fetched_as, given_by}
use Rattle.map_agreement.specs.TileView.{tile_view, fetch_gives}

-- the names
pub name-is : (starts m : List ℕ) (r : TagRange) (t : Tags) → ((k : ℕ) → listed_text starts r.first r.count k m ≡ named k (nth t.texts k)) → (i : ℕ) → started_name starts r m i ≡ listed_name t.texts i
name-is starts m r t q i = ap found_bytes (q i) ∙ go (nth t.texts i)
  where
    go : (r : Maybe Part) → found_bytes (named i r) ≡ part_bytes r
    go none = refl
    go (some p) = refl

-- in what is given of a feature
module _ (f g : ℕ → List ℕ) (q : (i : ℕ) → f i ≡ g i) where
  ids-same : (ids : List ℕ) → id_texts f ids ≡ id_texts g ids
  ids-same [] = refl
  ids-same (i ∷ ids) = ap (λ x. replaced x ++ id_texts f ids) (q i) ∙ ap (λ x. replaced (g i) ++ x) (ids-same ids)

  strings-same : (ids : List ℕ) → map (λ i. tag_string (f i)) ids ≡ map (λ i. tag_string (g i)) ids
  strings-same [] = refl
  strings-same (i ∷ ids) = ap (λ x. tag_string x ∷ map (λ i. tag_string (f i)) ids) (q i) ∙ ap (λ x. tag_string (g i) ∷ x) (strings-same ids)

  abbrev point_of : Point → List TagText → List ℕ → Fetched FetchedPoi
  point_of p l b =
      let r = poi_record f p in
      record {
        value = record {
          signature = r.signature;
          position = r.position;
          layer = r.layer;
          tag_ids = r.tag_ids;
          texts = record { tags = filled_texts l; name = r.texts.name; house_number = r.texts.house_number; reference = r.texts.reference };
          elevation = r.elevation;
          plain = r.plain;
        };
        values = record {
          lists = (poi_lists f p).lists;
          initial_latitudes = [];
          initial_longitudes = [];
          buffer = b ++ present p.name ++ present p.house_number ++ present none;
        };
      }

  point-same : (p : Point) → fetched_point f p ≡ fetched_point g p
  point-same p = ap (λ l. point_of p l (id_texts f p.tagged.ids)) (strings-same p.tagged.ids) ∙ ap (point_of p (map (λ i. tag_string (g i)) p.tagged.ids)) (ids-same p.tagged.ids)

  abbrev way_of : Head → Body → List TagText → List ℕ → Fetched FetchedWay
  way_of h b l u =
      let r = way_record f h b in
      let v = way_lists f h b in
      record {
        value = record {
          signature = r.signature;
          bitmap = r.bitmap;
          layer = r.layer;
          tag_ids = r.tag_ids;
          texts = record { tags = filled_texts l; name = r.texts.name; house_number = r.texts.house_number; reference = r.texts.reference };
          label_position = r.label_position;
          double_delta = r.double_delta;
          blocks = r.blocks;
          nodes = r.nodes;
          plain = r.plain;
          head_plain = r.head_plain;
        };
        values = record {
          lists = v.lists;
          initial_latitudes = v.initial_latitudes;
          initial_longitudes = v.initial_longitudes;
          buffer = u ++ present b.fields.name ++ present b.fields.house_number ++ present b.fields.reference;
        };
      }

  way_same : (h : Head) (b : Body) → fetched_way f h b ≡ fetched_way g h b
  way_same h b = ap (λ l. way_of h b l (id_texts f h.tagged.ids)) (strings-same h.tagged.ids) ∙ ap (way_of h b (map (λ i. tag_string (g i)) h.tagged.ids)) (ids-same h.tagged.ids)

-- feature k of the tile that the book is fed
module _ (debug : Bool) (p w : List Kind) (poi_names way_names : List Part) (poi_name way_name : ℕ → List ℕ)
    (a : (i : ℕ) → poi_name i ≡ listed_name poi_names i) (b : (i : ℕ) → way_name i ≡ listed_name way_names i) where
  abbrev S : View (tile_format debug p w)
  S = tile_view debug p w poi_names way_names

  abbrev gives : collected.Feature (stored_collection (tile_format debug p w)) → Res (Fetched Feature)
  gives x = given_by debug p w poi_name way_name x

  a_point : (l : List Point) (k : ℕ) → gives (collected.point_or (nth l k)) ≡ fetch_gives (collected.point_or (nth (map S.collected_point l) k))
  a_point [] k = refl
  a_point (x ∷ l) zero = ap (λ y. answer (fetched_as feature.Point y)) (point-same poi_name (listed_name poi_names) a x)
  a_point (x ∷ l) (suc k) = a_point l k

  a-way : (l : List (Way (tile_format debug p w))) (k : ℕ) → gives (collected.way_or (nth l k)) ≡ fetch_gives (collected.way_or (nth (map S.collected_way l) k))
  a-way [] k = refl
  a-way (x ∷ l) zero = ap (λ y. answer (fetched_as feature.Way y)) (way_same way_name (listed_name way_names) b x.head x.body)
  a-way (x ∷ l) (suc k) = a-way l k

  pub fetch-gives : (t : StoredTile (tile_format debug p w)) (z : TileHead → TileEnd) (k : ℕ) → gives (fetch (stored_tile t z) k) ≡ fetch_gives (fetch (collected_tile S t z) k)
  fetch-gives t z k = go (ltb k (length t.points)) ∙ ap tested (sym (length-map t.points S.collected_point))
    where
      ways : List S.collection.Way
      ways = map S.collected_way t.ways

      tested : ℕ → Res (Fetched Feature)
      tested n = fetch_gives (cond (ltb k n) (collected.point_or (nth (map S.collected_point t.points) k)) (collected.way_or (nth ways (k - n))))

      go : (c : Bool) → gives (cond c (collected.point_or (nth t.points k)) (collected.way_or (nth t.ways (k - length t.points))))
          ≡ fetch_gives (cond c (collected.point_or (nth (map S.collected_point t.points) k)) (collected.way_or (nth ways (k - length t.points))))
      go true = a_point t.points k
      go false = a-way t.ways (k - length t.points)
