use Rattle.std.proofs.Common.{refl}
use Rattle.report.specs.Texts.{zeros}
use Rattle.report.proofs.large.Goals as goal

pub returns : goal.returns
unfolding zeros
returns c = refl
