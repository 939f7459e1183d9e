use Rattle.std.proofs.Common.{◌≡◌, ◌*◌, ◌%◌, ◌^◌, ◌<◌}
use Rattle.arithmetic.proofs.wrapping_pow_u64.Given as goal

abbrev pub invariant-loop-e : goal.invariant-loop-e
invariant-loop-e l =
    (l.r < 2 ^ 64) × (l.r * l.b ^ l.e % 2 ^ 64 ≡ l.base ^ l.exp % 2 ^ 64)

abbrev pub decreases-loop-e : goal.decreases-loop-e
decreases-loop-e l =
    l.e
