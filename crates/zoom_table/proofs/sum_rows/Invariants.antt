use Rattle.std.proofs.Common.{◌≡◌}
use Rattle.parsing.specs.Parse.{ok, many, map_res}
use Rattle.utils.specs.Vbe.{noted}
use Rattle.format.specs.Tile.{row}
use Rattle.zoom_table.specs.Blocks.{sum_of}
use Rattle.zoom_table.proofs.sum_rows.Given as goal

abbrev pub invariant-loop : goal.invariant-loop
invariant-loop l =
    map_res sum_of (many row l.counter l.map l.at) ≡ ok (noted (record { points = l.points; ways = l.ways }) l.plain) l.next
