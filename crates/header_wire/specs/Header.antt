-- The header but for its zoom intervals, the place behind it, and what tiles and sub files need of it, as words.
use Rattle.std.specs.Prelude.{ℕ, ◌%◌, cond, List, [], ◌∷◌, Float, get_or, Option, Some, None, Result, Ok, Err}
use Rattle.byte_source.specs.declared.Span.{Span}
use Rattle.error.specs.declared.LentRefusal.{LentRefusal}
use Rattle.format.specs.Header.{bit}
use Rattle.types.specs.declared.HeaderFields.{HeaderFields}
use Rattle.types.specs.declared.IntervalTable.{IntervalTable}
use Rattle.zoom_intervals.specs.Rows.{table_before}
use Rattle.tile_layout.specs.declared.TileLayout.{TileLayout}
use Rattle.wire.specs.Wire.{Wire, put, put_degrees, numbered, put_lent_refusal, truth}
use Rattle.wire.specs.Verdicts.{span_words, place_words}
use Rattle.header_wire.specs.declared.ByteWords.{ByteWords}

-- a byte that may be absent
abbrev pub byte_words : Option ℕ → ByteWords
byte_words None = record { present = 0; value = 0 }
byte_words (Some b) = record { present = 1; value = b }

-- words from 6 on, from 17 on and from 29 on
abbrev pub field_words : HeaderFields → (end : ℕ) → List ℕ
field_words h e =
    e ∷ h.header_size ∷ h.file_version ∷ h.file_size ∷ h.creation_date ∷ h.tile_size ∷ h.flags ∷
    h.magic.start ∷ h.magic.size ∷ h.projection.start ∷ h.projection.size ∷ []

abbrev pub span_list : Option Span → List ℕ → List ℕ
span_list s l = (span_words s).present ∷ (span_words s).start ∷ (span_words s).size ∷ l

abbrev pub option_words : HeaderFields → List ℕ
option_words h =
    (place_words h.map_start_position).present ∷ (byte_words h.start_zoom_level).present ∷ (byte_words h.start_zoom_level).value ∷
    span_list h.language_preference (span_list h.comment (span_list h.created_by []))

abbrev pub table_words : HeaderFields → List ℕ
table_words h = h.poi_tags.start ∷ h.poi_tags.count ∷ h.way_tags.start ∷ h.way_tags.count ∷ h.num_zoom_intervals ∷ []

-- south, west, north and east; the start position
abbrev pub degrees_of : HeaderFields → List Float
degrees_of h =
    h.bounding_box.min.latitude ∷ h.bounding_box.min.longitude ∷ h.bounding_box.max.latitude ∷ h.bounding_box.max.longitude ∷
    (place_words h.map_start_position).latitude ∷ (place_words h.map_start_position).longitude ∷ []

-- the layout: the debug flag, where the tags stand, and where the intervals stand, which are the last thing in a header that ends here
abbrev pub layout_words : HeaderFields → (end : ℕ) → List ℕ
layout_words h e =
    cond (bit 7 h.flags) 1 0 ∷ h.poi_tags.start ∷ h.poi_tags.count ∷ h.way_tags.start ∷ h.way_tags.count ∷
    (table_before e h.num_zoom_intervals).start ∷ (table_before e h.num_zoom_intervals).count ∷ []

-- what a tile needs of it: the debug flag, and how many tags are listed, those of points first
abbrev pub layout_in : List ℕ → TileLayout
layout_in w = record {
  debug = truth (get_or w 0 0);
  poi_tags = record { first = 0; count = get_or w 2 0 };
  way_tags = record { first = get_or w 2 0; count = get_or w 4 0 };
}

abbrev pub intervals_in : List ℕ → IntervalTable
intervals_in w = record { start = get_or w 5 0; count = get_or w 6 0 % 256 }

abbrev pub header_wire : (before : Wire) → Result (HeaderFields × ℕ) LentRefusal → Wire
header_wire w (Ok (h, e)) =
    numbered 0 (put 0 17 (option_words h) (put 0 29 (table_words h) (put 0 6 (field_words h e) (put 1 0 (layout_words h e) (put_degrees 0 (degrees_of h) w)))))
header_wire w (Err r) = put_lent_refusal r w
