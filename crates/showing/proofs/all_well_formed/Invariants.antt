use Rattle.std.proofs.Common.{◌≡◌, true}
use Rattle.showing.specs.Showing.{first_formed}
use Rattle.showing.proofs.all_well_formed.Given as goal

abbrev pub invariant-loop-k : goal.invariant-loop-k
invariant-loop-k l = true ≡ first_formed l.tags l.rules l.k
