use Rattle.std.proofs.Common.{arith, rules}
use Rattle.text.proofs.Utf8Laws.{sequence-ascii}
use Rattle.text.proofs.sequence_at.Goals as goal

pub returns-then-b-lt128 : goal.returns-then-b-lt128
returns-then-b-lt128 c = sequence-ascii _ _ _ (search rules) (omega arith)
