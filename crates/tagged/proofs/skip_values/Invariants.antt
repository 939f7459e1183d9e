use mathlib.Core.Path.{◌≡◌}
use lib.ListN.{drop}
use Rattle.format.specs.Tile.{values}
use Rattle.parsing.specs.Parse.{map_res}
use Rattle.tag_table.specs.Tables.{kinds_by}
use Rattle.tagged.specs.TagIds.{noted_values}
use Rattle.tagged.proofs.TaggedLaws.{noted_rest}
use Rattle.tagged.proofs.skip_values.Given as goal

abbrev pub invariant-loop-id : goal.invariant-loop-id
invariant-loop-id l =
    map_res (noted_rest l.plain) (values (kinds_by l.letters l.tags) (drop l.id-index l.ids) l.map l.next) ≡ map_res noted_values (values (kinds_by l.letters l.tags) l.ids l.map l.at)
