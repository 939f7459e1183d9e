use Rattle.agreement.specs.Collected.{way}
use Rattle.tile_layout.specs.TileLayout.{tile_kinds, format_of}
use Rattle.tile.proofs.PlaceLaws.{Reached}
use Rattle.tile.proofs.put_measured_places.Given as goal

abbrev pub invariant-loop-i : goal.invariant-loop-i
invariant-loop-i l =
    Reached (way (format_of (tile_kinds l.format))) l.map l.i l.at l.next l.first l.initial.places l.places
