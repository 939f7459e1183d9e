use Rattle.fetched.specs.Fetched.{started_name}
use Rattle.feature_texts.proofs.PutLaws.{IdsLeft}
use Rattle.feature_texts.proofs.put_ids.Given as goal

abbrev pub invariant-loop-id : goal.invariant-loop-id
invariant-loop-id l =
    IdsLeft (started_name l.starts l.tags l.map) l.ids l.initial.buffer l.buffer l.at l.id-index
