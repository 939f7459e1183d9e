use Rattle.quick_head.proofs.QuickLaws.{quicks}
use Rattle.quick_head.proofs.quick_values.Goals as goal

pub loop-i-preserved : goal.loop-i-preserved
loop-i-preserved c = search (quicks, c.in_ok-next.ensures)

pub returns : goal.returns
returns c = search quicks
