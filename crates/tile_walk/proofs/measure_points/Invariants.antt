use mathlib.Core.Path.{◌≡◌}
use Rattle.parsing.specs.Parse.{ok}
use Rattle.tile_layout.specs.TileLayout.{tile_kinds}
use Rattle.tile_walk.specs.TileWalk.{plain_of}
use Rattle.tile_walk.proofs.measure_points.Given as goal

abbrev pub invariant-loop : goal.invariant-loop
invariant-loop l =
    ok l.all l.next ≡ plain_of (tile_kinds l.format) l.map l.counter l.at
