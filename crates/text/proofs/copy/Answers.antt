use Rattle.text.proofs.WriteLaws.{writes}
use Rattle.text.proofs.copy.Goals as goal

pub loop-i-preserved : goal.loop-i-preserved
loop-i-preserved c = search writes
