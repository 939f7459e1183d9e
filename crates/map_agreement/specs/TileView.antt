-- What the book of demand 3 is fed of a Mapsforge tile: each feature as it is fetched, together with its texts as stored; and what the
-- book says of it, which are the fetched fields but for those that a streamed feature lacks (document 01, "The book of demand 3").
use Rattle.std.specs.Prelude.{None}
use Rattle.std.specs.Prelude.{Bool, List, []}
use Rattle.parsing.specs.Parse.{Res, no, Part, Maybe}
use Rattle.format.specs.Index.{answer}
use Rattle.fetched.specs.Fetched.{listed_name, Fetched, fetched_point, fetched_way}
use Rattle.fetched.specs.declared.FetchedPoi.{FetchedPoi}
use Rattle.fetched.specs.declared.FetchedWay.{FetchedWay}
use Rattle.fetched.specs.declared.Feature as fetched
use Rattle.fetched.specs.declared.Feature.TheVariants as feature
use Rattle.fetch.specs.Fetch.{fetched_as}
use Rattle.format.specs.Streamed.{streamed_maybe}
use Rattle.types.specs.Types.{optional_span}
use Rattle.tag.specs.declared.Kind.{Kind}
use Rattle.poi.specs.declared.Poi.{Poi}
use Rattle.visit.specs.Visit.{shown_point, shown_head, shown_body}
use Rattle.visit.specs.declared.StreamedHead.{StreamedHead}
use Rattle.visit.specs.declared.StreamedBody.{StreamedBody}
use Rattle.agreement.specs.Collected.{Collection, Feature, a_point, a_way, missing}
use Rattle.agreement.specs.View.{View}
use Rattle.agreement.specs.TileFormat.{TileEnd, note_plain, tile_format}

pub record CollectedPoint : Type 0 where
  pub fetched : Fetched FetchedPoi
  pub name : Maybe Part
  pub house_number : Maybe Part

pub record CollectedWay : Type 0 where
  pub fetched : Fetched FetchedWay
  pub name : Maybe Part
  pub house_number : Maybe Part
  pub reference : Maybe Part

-- a text is its stored bytes, or empty if they are not valid UTF-8
abbrev pub book_point : CollectedPoint → Poi
book_point p = record {
  signature = None;
  position = p.fetched.value.position;
  layer = p.fetched.value.layer;
  tag_ids = p.fetched.value.tag_ids;
  name = optional_span (streamed_maybe p.name);
  house_number = optional_span (streamed_maybe p.house_number);
  elevation = p.fetched.value.elevation;
  plain = p.fetched.value.plain;
}

abbrev pub book_head : CollectedWay → StreamedHead
book_head w = record {
  bitmap = w.fetched.value.bitmap;
  layer = w.fetched.value.layer;
  tag_ids = w.fetched.value.tag_ids;
  plain = w.fetched.value.head_plain;
}

abbrev pub book_body : CollectedWay → StreamedBody
book_body w = record {
  name = optional_span (streamed_maybe w.name);
  house_number = optional_span (streamed_maybe w.house_number);
  reference = optional_span (streamed_maybe w.reference);
  label_position = w.fetched.value.label_position;
  blocks = w.fetched.value.blocks;
  nodes = w.fetched.value.nodes;
  plain = w.fetched.value.plain;
}

abbrev pub tile_collection : Collection
tile_collection = record {
  Point = CollectedPoint;
  Way = CollectedWay;
  PointAnswer = Poi;
  HeadAnswer = StreamedHead;
  BodyAnswer = StreamedBody;
  EndAnswer = TileEnd;
  point = book_point;
  head = book_head;
  body = book_body;
  lists = λ w. w.fetched.values.lists;
  note_point = λ p z. note_plain p.plain z;
  note_head = λ h z. note_plain h.plain z;
  note_body = λ b z. note_plain b.plain z;
}

-- `poi_names` and `way_names` are the header's tag names; what the stream shows is what the contracts of crate visit say
abbrev pub tile_view : (debug : Bool) (poi_kinds way_kinds : List Kind) → (poi_names way_names : List Part) → View (tile_format debug poi_kinds way_kinds)
tile_view debug poi_kinds way_kinds poi_names way_names = record {
  collection = tile_collection;
  collected_point = λ p. record { fetched = fetched_point (listed_name poi_names) p; name = p.name; house_number = p.house_number };
  collected_way = λ w. record {
    fetched = fetched_way (listed_name way_names) w.head w.body;
    name = w.body.fields.name;
    house_number = w.body.fields.house_number;
    reference = w.body.fields.reference;
  };
  streamed_point = shown_point;
  streamed_head = shown_head;
  streamed_body = shown_body;
  streamed_end = λ z. z;
}

-- what a fetch gives of a feature of the collected tile
abbrev pub fetch_gives : Feature tile_collection → Res (Fetched fetched.Feature)
fetch_gives (a_point p) = answer (fetched_as feature.Point p.fetched)
fetch_gives (a_way w) = answer (fetched_as feature.Way w.fetched)
fetch_gives missing = no 17 []
