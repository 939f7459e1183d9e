use Rattle.byte_source.proofs.ReadLaws.{handed-up}
use Rattle.tile_head.proofs.HeadLaws.{head-ordered, offset-refused, offset-on}
use Rattle.tile_head.proofs.read_tile_head.Goals as goal

pub returns-in_err-offset : goal.returns-in_err-offset
returns-in_err-offset c =
    handed-up (λ a. a) _ _ _ c.from_residual-in_err-offset.ensures
    (head-ordered _ _ _ _ _ _ _ _ c.if-max-min.false c.if-empty.false
    (offset-refused _ _ _ _ _ _ _ _ _ _ c.if-max-min.false c.in_ok-signature.ensures c.in_ok-table.ensures _ c.in_err-offset.ensures))

pub returns : goal.returns
returns c =
    head-ordered _ _ _ _ _ _ _ _ c.if-max-min.false c.if-empty.false
    (offset-on _ _ _ _ _ _ _ _ _ _ c.if-max-min.false c.in_ok-signature.ensures c.in_ok-table.ensures _ _ c.in_ok-offset.ensures)
