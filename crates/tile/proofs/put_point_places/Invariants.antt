use Rattle.tile_layout.specs.TileLayout.{tile_kinds, format_of}
use Rattle.tile.proofs.PlaceLaws.{Reached}
use Rattle.tile.proofs.put_point_places.Given as goal

abbrev pub invariant-loop-i : goal.invariant-loop-i
invariant-loop-i l =
    Reached (format_of (tile_kinds l.format)).point l.map l.i l.at l.next 0 l.initial.places l.places
