use Rattle.report.proofs.WordLaws.{chains}
use Rattle.questions.proofs.RefusalLaws.{lent-refused, lent-short}
use Rattle.questions.proofs.lent_refusal_words.Goals as goal

pub returns-in-Refused : goal.returns-in-Refused
returns-in-Refused c = search (chains, lent-refused)

pub returns-in-Short : goal.returns-in-Short
returns-in-Short c = search (chains, lent-short)
