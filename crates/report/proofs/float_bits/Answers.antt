use Rattle.std.proofs.Common.{sym, ◌∙◌}
use Rattle.report.proofs.WordLaws.{differs}
use Rattle.report.proofs.float_bits.Goals as goal

pub returns-then-is_nan : goal.returns-then-is_nan
returns-then-is_nan c = rw (differs c.args.x ∙ sym c.is_nan.ensures.value ∙ c.if-is_nan.true)

pub returns : goal.returns
returns c = rw (differs c.args.x ∙ sym c.is_nan.ensures.value ∙ c.if-is_nan.false)
