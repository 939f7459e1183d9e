use Rattle.std.proofs.Common.{arith, refl}
use Rattle.text.proofs.WalkLaws.{turn, walked}
use Rattle.text.proofs.WriteLaws.{writes, count-bound, count-more}
use Rattle.text.proofs.char_count.Goals as goal

pub overflow_add-n : goal.overflow_add-n
overflow_add-n c = let g = turn c.loop.invariant.0 c.in-Some.ensures.steps in omega (arith, g.inside, c.loop.invariant.1)

pub loop-preserved : goal.loop-preserved
loop-preserved c =
    let g = turn c.loop.invariant.0 c.in-Some.ensures.steps in
    rw g.next (
      g.text,
      count-bound _ _ _ _ g.is refl g.inside _ c.loop.invariant.1,
      count-more _ _ _ _ g.is refl g.inside _ _ c.loop.invariant.2,
    )

pub returns : goal.returns
returns c = let e = walked c.args.text.now c.loop.iterator' c.loop.invariant.0 c.in-None.ensures.steps in search writes
