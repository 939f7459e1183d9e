use Rattle.quick_head.proofs.QuickLaws.{quicks, front-is}
use Rattle.quick_head.proofs.quick_front.Goals as goal

pub returns : goal.returns
returns c =
    front-is _ _ _ _ _ _ c.in_ok-size.ensures c.if-map-start-lt2.false c.from.ensures (search quicks) c.from-2.ensures (search quicks)
