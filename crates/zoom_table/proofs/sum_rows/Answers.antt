use Rattle.std.proofs.Common.{refl}
use Rattle.utils.specs.Answers.{noted_held, noted_by}
use Rattle.byte_source.proofs.ReadLaws.{handed-up}
use Rattle.zoom_table.specs.Blocks.{stored_row}
use Rattle.zoom_table.proofs.SumLaws.{sums-more, sums-no, short-more}
use Rattle.zoom_table.proofs.sum_rows.Goals as goal

pub loop-preserved-then-is_short : goal.loop-preserved-then-is_short
loop-preserved-then-is_short c =
    short-more _ _ _ c.is_short.ensures c.if-is_short.true c.loop.counter _ _ _ _ _ _ c.loop.invariant c.saturating_add_usize-points.ensures c.saturating_add_usize-ways.ensures

pub returns-in_err-one : goal.returns-in_err-one
returns-in_err-one c =
    handed-up noted_held _ _ _ c.from_residual.ensures (sums-no _ _ _ _ _ _ _ c.loop.invariant _ _ c.in_err-one.ensures c.loop-test.true)

pub loop-preserved : goal.loop-preserved
loop-preserved c =
    sums-more _ _ _ _ _ _ _ c.loop.invariant (noted_by stored_row c.in_ok-one.one) _ _ _ _ c.in_ok-one.ensures c.saturating_add_usize-points-in-loop.ensures c.saturating_add_usize-ways-in-loop.ensures refl
