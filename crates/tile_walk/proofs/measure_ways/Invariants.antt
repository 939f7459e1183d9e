use mathlib.Core.Path.{◌≡◌}
use Rattle.parsing.specs.Parse.{ok}
use Rattle.tile_layout.specs.TileLayout.{tile_kinds}
use Rattle.tile_walk.specs.TileWalk.{said_ways}
use Rattle.tile_walk.proofs.measure_ways.Given as goal

abbrev pub invariant-loop : goal.invariant-loop
invariant-loop l =
    ok (record { exact = l.exact; plain = l.plain }) l.next ≡ said_ways (tile_kinds l.format) l.map l.counter l.at
