use Prim.Native.Nat.{◌≤◌}
use mathlib.Core.Path.{◌≡◌}
use Rattle.parsing.specs.Parse.{map_res}
use Rattle.tile_layout.specs.TileLayout.{tile_kinds, format_of}
use Rattle.wanted.specs.Taken.{taken_ways}
use Rattle.wanted.specs.Wanted.{all_ways}
use Rattle.wanted.proofs.FigureLaws.{rest}
use Rattle.wanted.proofs.measure_ways.Given as goal

abbrev pub invariant-loop-i : goal.invariant-loop-i
invariant-loop-i l =
    (l.all.ways ≤ l.i) × (rest (tile_kinds l.format) l.map l.decisions l.all l.i l.n l.next ≡ map_res (all_ways (tile_kinds l.format)) (taken_ways (format_of (tile_kinds l.format)) l.decisions 0 l.n l.map l.at))
