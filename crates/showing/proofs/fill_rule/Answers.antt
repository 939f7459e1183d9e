use native.Mathlib.Omega.{arith}
use mathlib.Core.Path.{◌∙◌}
use Rattle.showing.specs.Steps.{always}
use Rattle.showing.proofs.ShowingLaws.{by-rule}
use Rattle.showing.proofs.fill_rule.Goals as goal

pub returns : goal.returns
returns c =
    record { long = c.fill_cells.ensures.classes_len_unchanged; at = λ j h. c.fill_cells.ensures.by_index j ∙ by-rule (always c.args.rule.class) _ _ _ _ _ j c.requires (omega arith) (omega arith) h }
