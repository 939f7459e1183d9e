use Rattle.tag.proofs.TagLaws.{tags}
use Rattle.tag.proofs.letter_after.Goals as goal

pub returns-then-n-lt3 : goal.returns-then-n-lt3
returns-then-n-lt3 c = search tags

pub returns-then-is_mark : goal.returns-then-is_mark
returns-then-is_mark c = search tags

pub loop-at-preserved : goal.loop-at-preserved
loop-at-preserved c = search tags

pub returns : goal.returns
returns c = search tags
