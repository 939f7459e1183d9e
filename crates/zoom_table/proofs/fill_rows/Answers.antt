use Rattle.std.proofs.Common.{arith}
use Rattle.byte_source.proofs.ReadLaws.{handed-up}
use Rattle.zoom_table.proofs.BlockLaws.{rows_none, rows_more, rows-no, rows-done}
use Rattle.zoom_table.proofs.fill_rows.Goals as goal

pub loop-i-init : goal.loop-i-init
loop-i-init c = rows_none c.args.at

pub returns-in_err-one : goal.returns-in_err-one
returns-in_err-one c =
    handed-up (λ a. a) _ _ _ c.from_residual.ensures (rows-no _ _ _ _ _ c.loop-i.invariant _ _ c.in_err-one.ensures c.loop-i-test.true)

pub loop-i-preserved : goal.loop-i-preserved
loop-i-preserved c = rows_more _ _ _ _ _ c.loop-i.invariant _ _ c.in_ok-one.ensures (omega arith)

pub returns : goal.returns
returns c = rows-done _ _ _ _ _ c.loop-i.invariant _ c.loop-i.auto.i-end c.loop-i-test.false
