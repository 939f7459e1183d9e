use Rattle.quick_point.proofs.PointLaws.{texts}
use Rattle.quick_point.proofs.quick_text.Goals as goal

pub returns-then-not-flag : goal.returns-then-not-flag
returns-then-not-flag c = search texts

pub returns : goal.returns
returns c = search (texts, c.in_ok-size.ensures)
