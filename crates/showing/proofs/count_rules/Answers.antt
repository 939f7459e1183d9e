use Rattle.std.proofs.Common.{◌*◌}
use Rattle.showing.proofs.ShowingLaws.{counted_none, counted-more}
use Rattle.showing.proofs.count_rules.Goals as goal

pub loop-k-init : goal.loop-k-init
loop-k-init c = counted_none c.args.rules.now (8192 * c.args.stretch) c.args.counts.now c.requires

pub loop-k-preserved : goal.loop-k-preserved
loop-k-preserved c =
    counted-more c.rule_at.ensures.value c.count_rule.ensures c.loop-k.invariant
