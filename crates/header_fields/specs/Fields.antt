-- The header's first fields as the code holds them, as what is stored (document 01, header.rs).
use Rattle.format.specs.Header as format
use Rattle.format.specs.Header.{Box}
use Rattle.format.specs.WayData.{Node}
use Rattle.header_fields.specs.declared.StoredPosition.{StoredPosition}
use Rattle.header_fields.specs.declared.StoredBox.{StoredBox}
use Rattle.header_fields.specs.declared.Preamble.{Preamble}

abbrev pub place_of : StoredPosition → Node
place_of p = record { latitude = p.latitude.0; longitude = p.longitude.0 }

abbrev pub box_of : StoredBox → Box
box_of b = record { min = place_of b.min; max = place_of b.max }

abbrev pub preamble_of : Preamble → format.Preamble
preamble_of p = record { size = p.header_size; version = p.file_version; file_size = p.file_size; date = p.creation_date }
