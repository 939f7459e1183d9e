use Rattle.quick_head.proofs.QuickLaws.{quicks}
use Rattle.quick_head.proofs.quick_tags.Goals as goal

pub returns : goal.returns
returns c = search (quicks, c.in_ok-behind.ensures, c.in_ok-next.ensures)
