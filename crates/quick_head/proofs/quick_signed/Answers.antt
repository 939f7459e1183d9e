use Rattle.quick_head.proofs.NodeLaws.{signed-one, signed-two}
use Rattle.quick_head.proofs.quick_signed.Goals as goal

pub returns-then-a-lt128 : goal.returns-then-a-lt128
returns-then-a-lt128 c =
    signed-one _ _ c.quick_one.result _ c.from-a.ensures c.if-len-at.false c.if-a-lt128.true c.quick_one.ensures

pub returns-then-b-lt128 : goal.returns-then-b-lt128
returns-then-b-lt128 c =
    signed-two _ _ c.quick_last.result _ _ c.from-a.ensures c.if-len-at.false c.if-a-lt128.false c.if-len-at-lt2.false c.from-b.ensures c.if-b-lt128.true c.quick_last.ensures
