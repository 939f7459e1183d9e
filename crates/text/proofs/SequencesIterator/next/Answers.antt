use Rattle.text.proofs.Utf8Laws.{texts}
use Rattle.text.proofs.SequencesIterator.next.Goals as goal

pub overflow_add-self : goal.overflow_add-self
overflow_add-self c = search texts

pub returns-clause-goes : goal.returns-clause-goes
returns-clause-goes c = search texts
