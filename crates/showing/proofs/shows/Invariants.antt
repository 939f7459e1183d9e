use Rattle.std.proofs.Common.{◌≡◌, drop}
use Rattle.showing.specs.Showing.{shown}
use Rattle.showing.proofs.shows.Given as goal

abbrev pub invariant-loop-id : goal.invariant-loop-id
invariant-loop-id l =
    shown l.classes l.zoom (drop l.id-index l.ids) ≡ shown l.classes l.zoom l.ids
