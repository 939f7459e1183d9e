use Rattle.tile.proofs.PlaceLaws.{ExactReached}
use Rattle.tile.proofs.put_exact_places.Given as goal

abbrev pub invariant-loop-i : goal.invariant-loop-i
invariant-loop-i l =
    ExactReached l.debug l.n l.map l.i l.at l.next l.first l.initial.places l.places
