use Rattle.text.proofs.WalkLaws.{turn, walked}
use Rattle.text.proofs.HashLaws.{hashes}
use Rattle.text.proofs.hash_tag_parameter.Goals as goal

pub loop-next-preserved : goal.loop-next-preserved
loop-next-preserved c = let g = turn c.loop-next.invariant.0 c.in-Some.ensures.steps in rw g.next (search hashes)

pub returns : goal.returns
returns c = let e = walked c.args.text.now c.loop-next.next-iterator c.loop-next.invariant.0 c.in-None.ensures.steps in search hashes
