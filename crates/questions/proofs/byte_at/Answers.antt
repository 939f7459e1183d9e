use Rattle.std.proofs.Common.{rules}
use Rattle.questions.specs.Numbers.{byte_at}
use Rattle.questions.proofs.QuestionLaws.{found}
use Rattle.questions.proofs.byte_at.Goals as goal

pub returns : goal.returns
unfolding byte_at
returns c = found c.read_u8.result 0 _ _ c.read_u8.ensures (search (rules, c.map_or.ensures))
