use mathlib.Core.Path.{refl}
use borrow.Author.Rules.{rules}
use Rattle.quick_next.proofs.StepLaws.{way-is}
use Rattle.quick_next.proofs.way_step.Goals as goal

pub returns : goal.returns
returns c =
    way-is _ _ _ _ _ c.in-Idle.rest c.in_ok-got.got _ _ c.in-Idle.is c.if-layout.false c.if-rest-gt0.false c.if-rest-lt1.false refl c.in_ok-got.ensures (search rules)
