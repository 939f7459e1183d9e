use Rattle.quick_head.proofs.QuickLaws.{quicks}
use Rattle.quick_head.proofs.quick_head.Goals as goal

pub returns : goal.returns
returns c = search (quicks, c.in_ok-front.ensures, c.in_ok-got.ensures)
