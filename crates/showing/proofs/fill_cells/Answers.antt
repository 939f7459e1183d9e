use Rattle.std.proofs.Common.{arith, rules, refl}
use Rattle.showing.specs.Steps.{always}
use Rattle.showing.proofs.ShowingLaws.{range_none, range-more, range-done}
use Rattle.showing.proofs.fill_cells.Goals as goal

pub loop-i-init : goal.loop-i-init
loop-i-init c = (refl, omega arith, range_none (always c.args.class) c.args.classes.now c.args.start)

pub loop-i-preserved : goal.loop-i-preserved
loop-i-preserved c =
    (search rules, omega arith, range-more (always c.args.class) c.args.classes.now c.args.start c.loop-i.classes c.loop-i.i c.args.class (omega arith) (omega arith) refl c.loop-i.invariant.2)

pub returns-clause-by_index : goal.returns-clause-by_index
returns-clause-by_index c =
    range-done (always c.args.class) c.args.classes.now c.args.start c.loop-i.classes c.loop-i.i c.args.end (omega arith) (omega arith) c.loop-i.invariant.2
