use Rattle.feature_texts.proofs.RoomLaws.{stored_more}
use Rattle.feature_texts.proofs.stored_ids.Goals as goal

pub loop-id-preserved : goal.loop-id-preserved
loop-id-preserved c = stored_more _ _ _ _ c.loop-id.invariant _ _ _ c.loop-id-test.true c.tag_name-name.ensures c.saturating_add_usize-len.ensures
