-- A point as it is fetched from its place (crate fetched), with the buffer that its texts go to.
use Rattle.std.specs.Prelude.{ℕ, Bool, ◌≡◌, List, [], None, Result}
use Rattle.parsing.specs.Parse.{Res, ok, map_res}
use Rattle.error.specs.declared.LentRefusal.{LentRefusal}
use Rattle.format.specs.Tile.{Point, point}
use Rattle.types.specs.declared.TagRange.{TagRange}
use Rattle.tag_table.specs.Tables.{kinds_by}
use Rattle.poi.specs.Poi.{poi_of}
use Rattle.poi.specs.declared.Poi.{Poi}
use Rattle.fetched.specs.Fetched.{started_name, Fetched, fetched_point, FetchLists, fetch_reply, deliver_all}
use Rattle.fetched.specs.declared.FeatureTexts.{FeatureTexts}
use Rattle.fetched.specs.declared.FetchedPoi.{FetchedPoi}
use Rattle.feature_texts.specs.declared.TextParts.{TextParts}
use Rattle.feature_texts.specs.Known.{PointTexts}

-- the point at a place
abbrev pub poi_stored : Bool → (starts letters : List ℕ) → TagRange → List ℕ → ℕ → Res (Fetched FetchedPoi)
poi_stored debug starts letters t m at = map_res (fetched_point (started_name starts t m)) (point debug (kinds_by letters t) m at)

-- a buffer, and no lists
abbrev pub buffer_only : List ℕ → FetchLists
buffer_only b = record {
  lists = record { counts = []; latitudes = []; longitudes = [] };
  initial_latitudes = [];
  initial_longitudes = [];
  buffer = b;
}

-- a point with its texts
abbrev pub poi_with : Poi → FeatureTexts → FetchedPoi
poi_with p t = record {
  signature = p.signature;
  position = p.position;
  layer = p.layer;
  tag_ids = p.tag_ids;
  texts = t;
  elevation = p.elevation;
  plain = p.plain;
}

-- the answer to a call with a buffer, where the definition says `stored`
abbrev pub PoiFetchIs : Res (Fetched FetchedPoi) → (buffer : List ℕ) → Result (FetchedPoi × ℕ) LentRefusal → (left : List ℕ) → Type 0
PoiFetchIs stored buffer r left = fetch_reply r (buffer_only left) ≡ deliver_all stored (buffer_only buffer)

-- What private functions make, which need not be believed: what the texts of a point are made of
abbrev pub poi_parts : Poi → TagRange → TextParts
poi_parts p t = record { tags = t; name = p.name; house_number = p.house_number; reference = None }

-- a point that was read, has these ids and ends at `next`, with its texts written
pub record PoiWritten (starts : List ℕ) (t : TagRange) (p : Poi) (ids : List ℕ) (next : ℕ) (m buffer : List ℕ) (r : Result (FetchedPoi × ℕ) LentRefusal) (left : List ℕ) : Type 0 where
  pub each : (s : Point) → p ≡ poi_of s → ids ≡ s.tagged.ids → PointTexts m s → PoiFetchIs (ok (fetched_point (started_name starts t m) s) next) buffer r left
