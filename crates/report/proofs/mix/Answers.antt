use Rattle.std.proofs.Common.{rules}
use Rattle.report.specs.Words.{mixed}
use Rattle.report.proofs.mix.Goals as goal

pub returns : goal.returns
unfolding mixed
returns c = search rules
