-- A way's head as it is handed out (document 01, way.rs), from what is stored. The place behind it is the one behind the tag values.
use Rattle.format.specs.Tile.{Head}
use Rattle.types.specs.Types.{optional_span}
use Rattle.tagged.specs.TagIds.{tag_ids}
use Rattle.way_head.specs.declared.WayHead.{WayHead}

abbrev pub head_of : Head → WayHead
head_of h = record {
  signature = optional_span h.signature;
  size = h.size;
  start = h.start;
  bitmap = h.bitmap;
  layer = h.tagged.layer;
  tag_ids = tag_ids h.tagged.ids;
  plain = h.plain;
}
