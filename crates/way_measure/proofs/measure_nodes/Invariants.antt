use mathlib.Core.Path.{◌≡◌}
use Rattle.parsing.specs.Parse.{ok, map_res, many}
use Rattle.utils.specs.Vbe.{noted}
use Rattle.format.specs.WayData.{node}
use Rattle.way_measure.specs.Answers.{nodes_count}
use Rattle.way_measure.proofs.measure_nodes.Given as goal

abbrev pub invariant-loop : goal.invariant-loop
invariant-loop l =
    map_res (nodes_count l.fn.plain) (many node l.counter l.map l.at) ≡ ok (noted l.counter l.plain) l.next
