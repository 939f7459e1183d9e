use Rattle.quick_head.proofs.NodeLaws.{one_byte, two_bytes, three-bytes, four_bytes}
use Rattle.quick_head.proofs.quick_coordinate.Goals as goal

pub returns-then-a-lt128 : goal.returns-then-a-lt128
returns-then-a-lt128 c =
    one_byte _ _ c.quick_one.result c.requires _ c.from-a.ensures c.if-a-lt128.true c.quick_one.ensures

pub returns-then-b-lt128 : goal.returns-then-b-lt128
returns-then-b-lt128 c =
    two_bytes _ _ c.quick_last.result c.requires _ c.from-a.ensures c.if-a-lt128.false _ c.from-b.ensures c.if-b-lt128.true c.quick_last.ensures

pub returns-then-c-lt128 : goal.returns-then-c-lt128
returns-then-c-lt128 c =
    three-bytes _ _ c.quick_last-then-c-lt128.result c.requires _ c.from-a.ensures c.if-a-lt128.false _ c.from-b.ensures c.if-b-lt128.false _ c.from-c.ensures c.if-c-lt128.true c.quick_last-then-c-lt128.ensures

pub returns-then-d-lt128 : goal.returns-then-d-lt128
returns-then-d-lt128 c =
    four_bytes _ _ c.quick_last-then-d-lt128.result c.requires _ c.from-a.ensures c.if-a-lt128.false _ c.from-b.ensures c.if-b-lt128.false _ c.from-c.ensures _ c.if-c-lt128.false c.from-d.ensures c.if-d-lt128.true c.quick_last-then-d-lt128.ensures
