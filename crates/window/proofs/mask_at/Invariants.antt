use Rattle.std.proofs.Common.{◌≡◌}
use Rattle.window.specs.Biased.{biased_mask}
use Rattle.window.proofs.mask_at.Given as goal

abbrev pub invariant-loop-k : goal.invariant-loop-k
invariant-loop-k l = l.mask ≡ biased_mask l.across.low l.across.high l.down.low l.down.high l.x l.y l.k
