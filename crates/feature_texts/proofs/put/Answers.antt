use Rattle.feature_texts.proofs.PutLaws.{put-there}
use Rattle.feature_texts.proofs.put.Goals as goal

pub returns : goal.returns
returns c = put-there _ _ _ _ _ _ c.write_replaced.ensures c.requires c.unwrap_or.ensures
