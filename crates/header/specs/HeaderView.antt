-- The stored header as the record that is handed out (document 01, header.rs and types.rs): positions in degrees, texts as parts of
-- the map, tag names by where they stand.
use Rattle.std.specs.Prelude.{ℕ, List, length}
use Rattle.parsing.specs.Parse.{Res, map_res, many}
use Rattle.format.specs.Header.{Box, Header, interval}
use Rattle.format.specs.IntervalTable.{start_before}
use Rattle.types.specs.Types.{node_position, optional_position, span_of, optional_span, optional_byte}
use Rattle.types.specs.declared.BoundingBox.{BoundingBox}
use Rattle.types.specs.declared.HeaderFields.{HeaderFields}
use Rattle.types.specs.declared.MapHeader.{MapHeader}
use Rattle.types.specs.declared.ZoomInterval.{ZoomInterval}
use Rattle.tag_table.specs.Tables.{tag_table}
use Rattle.zoom_intervals.specs.Intervals.{filled}

abbrev pub bounding_box : Box → BoundingBox
bounding_box b = record { min = node_position b.min; max = node_position b.max }

-- but for the intervals themselves
abbrev pub header_fields : Header → HeaderFields
header_fields h = record {
  magic = record { start = 0; size = 20 };
  header_size = h.front.preamble.size;
  file_version = h.front.preamble.version;
  file_size = h.front.preamble.file_size;
  creation_date = h.front.preamble.date;
  bounding_box = bounding_box h.front.box;
  tile_size = h.front.tile_size;
  projection = span_of h.front.projection;
  flags = h.front.flags;
  map_start_position = optional_position h.options.start_position;
  start_zoom_level = optional_byte h.options.start_zoom;
  language_preference = optional_span h.options.language;
  comment = optional_span h.options.comment;
  created_by = optional_span h.options.created_by;
  poi_tags = tag_table h.poi_tags;
  way_tags = tag_table h.way_tags;
  num_zoom_intervals = length h.intervals;
}

-- with the array of its intervals
abbrev pub with_intervals : HeaderFields → List ZoomInterval → MapHeader
with_intervals f l = record {
  magic = f.magic;
  header_size = f.header_size;
  file_version = f.file_version;
  file_size = f.file_size;
  creation_date = f.creation_date;
  bounding_box = f.bounding_box;
  tile_size = f.tile_size;
  projection = f.projection;
  flags = f.flags;
  map_start_position = f.map_start_position;
  start_zoom_level = f.start_zoom_level;
  language_preference = f.language_preference;
  comment = f.comment;
  created_by = f.created_by;
  poi_tags = f.poi_tags;
  way_tags = f.way_tags;
  num_zoom_intervals = f.num_zoom_intervals;
  zoom_interval_configuration = l;
}

abbrev pub map_header : Header → MapHeader
map_header h = with_intervals (header_fields h) (filled h.intervals)

-- fields with the intervals that the map has in front of the place behind the header
abbrev pub whole : List ℕ → HeaderFields → ℕ → Res MapHeader
whole m f e =
    map_res (λ l. with_intervals f (filled l)) (many interval f.num_zoom_intervals m (start_before e f.num_zoom_intervals))
