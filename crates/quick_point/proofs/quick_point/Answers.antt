use Rattle.quick_point.proofs.PointLaws.{point-is}
use Rattle.quick_point.proofs.quick_point.Goals as goal

pub returns : goal.returns
returns c = point-is _ _ _ _ _ _ _ _ c.in_ok-node.ensures c.in_ok-tags.ensures c.in_ok-fields.ensures
