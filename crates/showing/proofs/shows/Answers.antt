use Rattle.showing.proofs.ShowingLaws.{showing}
use Rattle.showing.proofs.shows.Goals as goal

pub returns-then-class_in-ne0 : goal.returns-then-class_in-ne0
returns-then-class_in-ne0 c = search showing

pub loop-id-preserved : goal.loop-id-preserved
loop-id-preserved c = search showing

pub returns : goal.returns
returns c = search showing
