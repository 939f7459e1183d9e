use Rattle.std.proofs.Common.{◌*◌, ◌≡◌, ◌+◌, min, arith}
use Rattle.showing.specs.Showing.{overlaps, gaps}
use Rattle.showing.proofs.ShowingLaws.{first-zero, joined-more}
use Rattle.showing.proofs.all_faults.Goals as goal

pub loop-stretch-init : goal.loop-stretch-init
loop-stretch-init c = let z : min 0 c.args.cells ≡ 0 = omega arith in rw z (first-zero _, first-zero _)

pub loop-stretch-preserved : goal.loop-stretch-preserved
loop-stretch-preserved c =
    let a : min (8192 * c.loop-stretch.stretch) c.args.cells ≡ 8192 * c.loop-stretch.stretch = omega arith in
    let b : min (8192 * (c.loop-stretch.stretch + 1)) c.args.cells ≡ min (8192 * c.loop-stretch.stretch) c.args.cells + c.min.result = omega arith in
    rw b (
      joined-more (overlaps c.args.rules.now) _ _ _ _ _ _ a c.loop-stretch.invariant.0 c.stretch_faults-faults.ensures.overlap_value (rw (← a) at c.join-overlap.ensures),
      joined-more (gaps c.args.rules.now) _ _ _ _ _ _ a c.loop-stretch.invariant.1 c.stretch_faults-faults.ensures.gap_value (rw (← a) at c.join-gap.ensures),
    )
