use Rattle.quick_head.proofs.QuickLaws.{sized-is}
use Rattle.quick_head.proofs.quick_sized.Goals as goal

pub returns : goal.returns
returns c = sized-is _ _ _ _ c.in_ok-size.ensures c.if-map-start.false
