use Rattle.report.proofs.TextLaws.{texts}
use Rattle.report.proofs.mix_text.Goals as goal

pub returns-then-text-lt300 : goal.returns-then-text-lt300
returns-then-text-lt300 c = search texts
