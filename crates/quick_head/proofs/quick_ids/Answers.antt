use Rattle.quick_head.proofs.QuickLaws.{quicks}
use Rattle.quick_head.proofs.quick_ids.Goals as goal

pub loop-i-init : goal.loop-i-init
loop-i-init c = search quicks

pub loop-i-preserved : goal.loop-i-preserved
loop-i-preserved c = search quicks
