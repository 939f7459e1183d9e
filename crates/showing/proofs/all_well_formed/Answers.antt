use Rattle.std.proofs.Common.{arith, rules}
use borrow.Author.Tests.{not-true, not-false}
use Rattle.showing.proofs.ShowingLaws.{none-formed, one-bad, more-formed, all-formed, showing}
use Rattle.showing.proofs.all_well_formed.Goals as goal

pub returns-then-rules-ne0 : goal.returns-then-rules-ne0
returns-then-rules-ne0 c = search showing

pub loop-k-init : goal.loop-k-init
loop-k-init c = none-formed _ _

pub returns-then-not-well_formed : goal.returns-then-not-well_formed
returns-then-not-well_formed c =
    one-bad _ _ _ _ (omega arith) c.rule_at.ensures.value (search (rules, not-true))

pub loop-k-preserved : goal.loop-k-preserved
loop-k-preserved c =
    more-formed _ _ _ _ c.loop-k.invariant c.rule_at.ensures.value (search (rules, not-false))

pub returns : goal.returns
returns c = all-formed _ _ _ (omega arith) (omega arith) c.loop-k.invariant
