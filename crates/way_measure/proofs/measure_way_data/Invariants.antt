use mathlib.Core.Path.{◌≡◌}
use Rattle.parsing.specs.Parse.{ok, map_res, many}
use Rattle.format.specs.WayData.{data_block}
use Rattle.way_measure.specs.Answers.{way_sizes}
use Rattle.way_measure.proofs.measure_way_data.Given as goal

abbrev pub invariant-loop : goal.invariant-loop
invariant-loop l =
    map_res way_sizes (many data_block l.counter l.map l.at) ≡ ok (record { blocks = l.blocks; nodes = l.nodes; plain = l.plain }) l.next
