use mathlib.Core.Path.{refl}
use Rattle.quick_point.proofs.PointLaws.{fields-is}
use Rattle.quick_point.proofs.quick_fields.Goals as goal

pub returns : goal.returns
returns c =
    fields-is _ _ _ _ _ _ _ _ _ c.if-map-at.false refl c.in_ok-name.ensures c.in_ok-house.ensures c.in_ok-elevation.ensures
