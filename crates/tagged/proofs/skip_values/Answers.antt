use Rattle.tagged.proofs.TaggedLaws.{skips}
use Rattle.tagged.proofs.skip_values.Goals as goal

pub returns-in_err-value : goal.returns-in_err-value
returns-in_err-value c = search skips

pub loop-id-preserved : goal.loop-id-preserved
loop-id-preserved c = search skips

pub returns : goal.returns
returns c = search skips
