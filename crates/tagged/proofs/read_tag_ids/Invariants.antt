use mathlib.Core.Path.{◌≡◌}
use Rattle.parsing.specs.Parse.{ok, many, map_res}
use Rattle.format.specs.Tile.{tag_id}
use Rattle.utils.specs.Vbe.{noted}
use Rattle.tagged.specs.TagIds.{noted_ids}
use Rattle.tagged.proofs.read_tag_ids.Given as goal

abbrev pub invariant-loop-i : goal.invariant-loop-i
invariant-loop-i l =
    map_res noted_ids (many (tag_id l.tags) l.i l.map l.at) ≡ ok (noted l.ids l.plain) l.next
