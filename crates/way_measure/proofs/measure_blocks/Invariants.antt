use mathlib.Core.Path.{◌≡◌}
use Rattle.parsing.specs.Parse.{ok, map_res, many}
use Rattle.format.specs.WayData.{block}
use Rattle.way_measure.specs.Answers.{blocks_sizes}
use Rattle.way_measure.proofs.measure_blocks.Given as goal

abbrev pub invariant-loop : goal.invariant-loop
invariant-loop l =
    map_res (blocks_sizes l.fn.plain) (many block l.counter l.map l.at) ≡ ok (record { blocks = l.counter; nodes = l.nodes; plain = l.plain }) l.next
