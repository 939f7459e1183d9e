use mathlib.Core.Path.{refl}
use Rattle.quick_next.proofs.StepLaws.{point-is}
use Rattle.quick_next.proofs.point_step.Goals as goal

pub returns : goal.returns
returns c =
    point-is _ _ _ _ _ c.in-Idle.rest c.in_ok-got.got _ _ _ c.in-Idle.is c.if-layout.false c.if-rest-lt1.false refl c.in_ok-got.ensures c.given_point.ensures
