-- A point as it is handed out (document 01, poi.rs), from what is stored.
use Rattle.std.specs.Prelude.{ℕ, List, ℤ, Option, Some, None}
use Rattle.parsing.specs.Parse.{Maybe, none, some}
use Rattle.format.specs.Elevation.{low32}
use Rattle.utils.specs.Vbe.{Noted, noted}
use Rattle.format.specs.Tile.{PointFields, Point, maybe_value, maybe_plain}
use Rattle.types.specs.Types.{optional_span, node_position}
use Rattle.tagged.specs.TagIds.{tag_ids}
use Rattle.fields.specs.Fields.{streamed_span}
use Rattle.poi.specs.declared.Poi.{Poi}
use Rattle.poi.specs.declared.PoiFields.{PoiFields}

abbrev pub optional_elevation : Maybe ℤ → Option ℤ
optional_elevation none = None
optional_elevation (some z) = Some (low32 z)

abbrev pub poi_of : Point → Poi
poi_of p = record {
  signature = optional_span p.signature;
  position = node_position p.position;
  layer = p.tagged.layer;
  tag_ids = tag_ids p.tagged.ids;
  name = optional_span p.name;
  house_number = optional_span p.house_number;
  elevation = optional_elevation p.elevation;
  plain = p.plain;
}

-- as the stream shows it: no signature, and each text that is not valid UTF-8 is empty
abbrev pub streamed_poi : List ℕ → Poi → Poi
streamed_poi m p = record {
  signature = None;
  position = p.position;
  layer = p.layer;
  tag_ids = p.tag_ids;
  name = streamed_span m p.name;
  house_number = streamed_span m p.house_number;
  elevation = p.elevation;
  plain = p.plain;
}

-- the answers on the way
abbrev pub noted_elevation : Maybe (Noted ℤ) → Noted (Option ℤ)
noted_elevation x = noted (optional_elevation (maybe_value x)) (maybe_plain x)

abbrev pub poi_fields_of : PointFields → PoiFields
poi_fields_of f = record {
  name = optional_span f.name;
  house_number = optional_span f.house_number;
  elevation = optional_elevation f.elevation;
  plain = f.plain;
}
