use Rattle.opening.proofs.ListingLaws.{tags, tags-more}
use native.Mathlib.Omega.{arith}
use Rattle.opening.proofs.list_tags.Goals as goal

pub loop-i-init : goal.loop-i-init
loop-i-init c = search tags

pub loop-i-preserved : goal.loop-i-preserved
loop-i-preserved c =
    tags-more _ _ _ _ _ _ _ _ _ c.loop-i.invariant _ _ _ (omega arith) c.in-Ok.ensures c.text_letter.ensures

pub returns : goal.returns
returns c = search tags
