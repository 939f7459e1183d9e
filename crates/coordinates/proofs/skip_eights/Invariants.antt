use Prim.Native.Nat.{◌+◌, ◌-◌, ◌≤◌}
use lib.ListN.{length}
use Rattle.coordinates.specs.Skip.{start_of, PassedTo}
use Rattle.coordinates.proofs.skip_eights.Given as goal

abbrev pub invariant-loop-left : goal.invariant-loop-left
invariant-loop-left l =
    (l.back + 2 ≤ length l.map) × PassedTo l.map l.at l.n (start_of l.map l.back) l.left

abbrev pub decreases-loop-left : goal.decreases-loop-left
decreases-loop-left l =
    length l.map - l.back
