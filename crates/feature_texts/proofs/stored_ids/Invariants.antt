use Rattle.fetched.specs.Fetched.{started_name}
use Rattle.feature_texts.proofs.RoomLaws.{StoredLeft}
use Rattle.feature_texts.proofs.stored_ids.Given as goal

abbrev pub invariant-loop-id : goal.invariant-loop-id
invariant-loop-id l =
    StoredLeft (started_name l.starts l.tags l.map) l.ids l.len l.id-index
