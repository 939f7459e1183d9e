use Rattle.std.proofs.Common.{rules, w32, to_z-of_z, pos}
use Rattle.questions.specs.Numbers.{int_at}
use Rattle.questions.proofs.QuestionLaws.{found}
use Rattle.questions.proofs.int_at.Goals as goal

pub returns : goal.returns
unfolding int_at
returns c = rw (to_z-of_z {w = w32} {z = c.map_or.result} (search rules)) (found c.read_i32_be.result (pos 0) _ _ c.read_i32_be.ensures (search (rules, c.map_or.ensures)))
