use Prim.Native.Nat.{◌*◌}
use native.Mathlib.Omega.{arith}
use mathlib.Core.Path.{◌∙◌}
use Rattle.showing.specs.Steps.{one_more}
use Rattle.showing.proofs.ShowingLaws.{by-rule, elsewhere}
use Rattle.showing.proofs.count_rule.Goals as goal

pub returns-then-rule-stretch : goal.returns-then-rule-stretch
returns-then-rule-stretch c = elsewhere one_more _ _ _ c.if-rule-stretch.true (omega arith)

pub returns : goal.returns
returns c =
    record { long = c.count_cells.ensures.counts_len_unchanged; at = λ j h. c.count_cells.ensures.by_index j ∙ by-rule one_more c.args.rule (8192 * c.args.stretch) c.args.counts.now _ _ j c.requires (omega arith) (omega arith) h }
