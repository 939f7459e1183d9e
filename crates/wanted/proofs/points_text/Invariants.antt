use mathlib.Core.Path.{◌≡◌}
use Rattle.parsing.specs.Parse.{ok, map_res, many}
use Rattle.tile_layout.specs.TileLayout.{tile_kinds, format_of}
use Rattle.wanted.specs.Wanted.{greatest, point_text}
use Rattle.wanted.proofs.points_text.Given as goal

abbrev pub invariant-loop : goal.invariant-loop
invariant-loop l =
    ok l.longest l.next ≡ map_res (greatest point_text) (many (format_of (tile_kinds l.format)).point l.counter l.map l.at)
