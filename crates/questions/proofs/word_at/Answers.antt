use Rattle.std.proofs.Common.{rules}
use Rattle.questions.specs.Numbers.{number_at}
use Rattle.questions.proofs.QuestionLaws.{found}
use Rattle.questions.proofs.word_at.Goals as goal

pub returns : goal.returns
unfolding number_at
returns c = found c.read_u32_be.result 0 _ _ c.read_u32_be.ensures (search (rules, c.map_or.ensures))
