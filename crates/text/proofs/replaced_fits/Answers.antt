use Rattle.text.proofs.WalkLaws.{turn, walked}
use Rattle.text.proofs.WriteLaws.{writes}
use Rattle.text.proofs.replaced_fits.Goals as goal

pub returns-then-text-room : goal.returns-then-text-room
returns-then-text-room c = search writes

pub returns-then-room-n : goal.returns-then-room-n
returns-then-room-n c = let g = turn c.loop-next.invariant.0 c.in-Some.ensures.steps in search writes

pub loop-next-preserved : goal.loop-next-preserved
loop-next-preserved c = let g = turn c.loop-next.invariant.0 c.in-Some.ensures.steps in rw g.next (search writes)

pub returns : goal.returns
returns c = let e = walked c.args.text.now c.loop-next.next-iterator c.loop-next.invariant.0 c.in-None.ensures.steps in search writes
