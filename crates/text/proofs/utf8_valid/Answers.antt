use Rattle.text.proofs.WalkLaws.{turn, walked}
use Rattle.text.proofs.Utf8Laws.{texts}
use Rattle.text.proofs.utf8_valid.Goals as goal

pub returns-in-Ill : goal.returns-in-Ill
returns-in-Ill c = let g = turn c.loop-next.invariant.0 c.in-Some.ensures.steps in search texts

pub loop-next-preserved : goal.loop-next-preserved
loop-next-preserved c = let g = turn c.loop-next.invariant.0 c.in-Some.ensures.steps in rw g.next (search texts)

pub returns : goal.returns
returns c = let e = walked c.args.text.now c.loop-next.next-iterator c.loop-next.invariant.0 c.in-None.ensures.steps in search texts
