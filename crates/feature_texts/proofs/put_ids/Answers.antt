use Rattle.feature_texts.proofs.PutLaws.{ids_more}
use Rattle.feature_texts.proofs.put_ids.Goals as goal

pub loop-id-preserved : goal.loop-id-preserved
loop-id-preserved c = ids_more _ _ _ _ _ _ c.loop-id.invariant _ _ _ _ c.loop-id-test.true c.tag_name.ensures c.put-at.ensures.0 c.put-at.ensures.1
