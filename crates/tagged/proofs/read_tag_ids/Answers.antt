use Rattle.tagged.proofs.TaggedLaws.{ids}
use Rattle.tagged.proofs.read_tag_ids.Goals as goal

pub loop-i-init : goal.loop-i-init
loop-i-init c = search ids

pub returns-in_err-id : goal.returns-in_err-id
returns-in_err-id c = search ids

pub loop-i-preserved : goal.loop-i-preserved
loop-i-preserved c = search ids
