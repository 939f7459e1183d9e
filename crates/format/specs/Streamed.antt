-- Document 01, "The stream and the collected tile": a streamed text is a part of the lent map, empty if it is not valid UTF-8. A streamed
-- feature has the collected one's fields but for its signature (and what is not stored with it).
use Rattle.std.specs.Prelude.{cond}
use Rattle.parsing.specs.Parse.{Part, Maybe, none, some}
use Rattle.text.specs.Utf8.{valid, streamed_text}
use Rattle.format.specs.Tile.{Point}

abbrev pub streamed_part : Part → Part
streamed_part p = record { start = p.start; size = cond (valid p.bytes) p.size 0; bytes = streamed_text p.bytes }

abbrev pub streamed_maybe : Maybe Part → Maybe Part
streamed_maybe none = none
streamed_maybe (some p) = some (streamed_part p)

abbrev pub streamed_point : Point → Point
streamed_point p = record {
  signature = none;
  position = p.position;
  tagged = p.tagged;
  name = streamed_maybe p.name;
  house_number = streamed_maybe p.house_number;
  elevation = p.elevation;
  plain = p.plain;
}
