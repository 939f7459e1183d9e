use Rattle.std.proofs.Common.{arith, rules, refl}
use Rattle.showing.specs.Steps.{one_more}
use Rattle.showing.proofs.ShowingLaws.{range_none, range-more, range-done}
use Rattle.showing.proofs.count_cells.Goals as goal

pub loop-i-init : goal.loop-i-init
loop-i-init c = (refl, omega arith, range_none one_more c.args.counts.now c.args.start)

pub loop-i-preserved : goal.loop-i-preserved
loop-i-preserved c =
    (search rules, omega arith, range-more one_more c.args.counts.now c.args.start c.loop-i.counts c.loop-i.i c.one_more.result (omega arith) (omega arith) c.one_more.ensures c.loop-i.invariant.2)

pub returns-clause-by_index : goal.returns-clause-by_index
returns-clause-by_index c =
    range-done one_more c.args.counts.now c.args.start c.loop-i.counts c.loop-i.i c.args.end (omega arith) (omega arith) c.loop-i.invariant.2
