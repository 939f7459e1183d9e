use Rattle.report.proofs.WordLaws.{words}
use Rattle.report.proofs.push.Goals as goal

pub returns-then-at-ge40 : goal.returns-then-at-ge40
returns-then-at-ge40 c = search words

pub returns : goal.returns
returns c = search words
