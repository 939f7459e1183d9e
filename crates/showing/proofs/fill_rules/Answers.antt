use Rattle.showing.proofs.ShowingLaws.{filled_none, filled_more}
use Rattle.showing.proofs.fill_rules.Goals as goal

pub loop-k-init : goal.loop-k-init
loop-k-init c = filled_none c.args.rules.now c.args.classes.now

pub loop-k-preserved : goal.loop-k-preserved
loop-k-preserved c = filled_more c.rule_at.ensures.value c.fill_rule.ensures c.loop-k.invariant
