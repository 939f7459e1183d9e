use Rattle.report.proofs.LineLaws.{line-whole}
use Rattle.report.proofs.print_line.Goals as goal

pub returns : goal.returns
returns g c = line-whole _ _ _ _ _ _ _ _ c.min-count.ensures c.in_ok-write_all.ensures.bytes c.in_ok-print_words.ensures c.write_all-2.ensures.bytes
