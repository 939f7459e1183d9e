use Rattle.std.proofs.Common.{refl}
use Rattle.report.specs.Words.{no_words}
use Rattle.report.proofs.no_words.Goals as goal

pub returns : goal.returns
unfolding no_words
returns c = refl
