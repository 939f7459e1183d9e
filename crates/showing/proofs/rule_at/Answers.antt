use Rattle.std.proofs.Common.{refl, rules}
use Rattle.showing.proofs.ShowingLaws.{rule-bytes}
use Rattle.showing.proofs.rule_at.Goals as goal

pub returns-clause-value : goal.returns-clause-value
returns-clause-value c =
    rule-bytes _ _ _ _ _ _ _ refl refl refl refl refl (search rules) (search rules)
