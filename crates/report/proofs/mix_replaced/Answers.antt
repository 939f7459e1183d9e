use Rattle.std.proofs.Common.{arith}
use Rattle.report.proofs.TextLaws.{text-short, text-mixed, text-never}
use Rattle.report.proofs.mix_replaced.Goals as goal

pub returns-in_default : goal.returns-in_default
returns-in_default c = text-short _ _ _ _ _ c.write_replaced.ensures _ c.in_default.is

pub returns-then-buffer-n : goal.returns-then-buffer-n
returns-then-buffer-n c = text-never _ _ _ _ _ c.write_replaced.ensures _ c.in-Ok.is (omega arith)

pub returns : goal.returns
returns c = text-mixed _ _ _ _ _ c.write_replaced.ensures _ _ c.in-Ok.is c.mix_bytes.ensures
