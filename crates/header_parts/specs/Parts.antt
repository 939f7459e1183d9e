-- The header's parts as the code holds them, as what is stored (document 01, header.rs). A text of the map m is a part of it.
use Rattle.std.specs.Prelude.{ℕ, List, Option, Some, None}
use Rattle.parsing.specs.Parse.{Maybe, none, some}
use Rattle.byte_source.specs.Answers.{part_in}
use Rattle.format.specs.Header as format
use Rattle.format.specs.WayData.{Node}
use Rattle.types.specs.Types.{maybe_part}
use Rattle.header_fields.specs.Fields.{place_of, box_of, preamble_of}
use Rattle.header_fields.specs.declared.StoredPosition.{StoredPosition}
use Rattle.header_parts.specs.declared.Front.{Front}
use Rattle.header_parts.specs.declared.Options.{Options}

abbrev pub front_of : List ℕ → Front → format.Front
front_of m f = record {
  preamble = preamble_of f.preamble;
  box = box_of f.bounding_box;
  tile_size = f.tile_size;
  projection = part_in m f.projection;
  flags = f.flags;
}

abbrev pub maybe_place : Option StoredPosition → Maybe Node
maybe_place None = none
maybe_place (Some p) = some (place_of p)

abbrev pub maybe_byte : Option ℕ → Maybe ℕ
maybe_byte None = none
maybe_byte (Some b) = some b

abbrev pub options_of : List ℕ → Options → format.Options
options_of m o = record {
  start_position = maybe_place o.start_position;
  start_zoom = maybe_byte o.start_zoom_level;
  language = maybe_part m o.language_preference;
  comment = maybe_part m o.comment;
  created_by = maybe_part m o.created_by;
}
