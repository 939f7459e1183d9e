use Rattle.tile_walk.proofs.WalkLaws.{ways-more, ways-no}
use Rattle.tile_walk.proofs.measure_ways.Goals as goal

pub returns-in_err-one : goal.returns-in_err-one
returns-in_err-one c =
    ways-no _ _ _ _ _ _ _ _ _ c.loop.invariant _ _ _ c.in_err-one.ensures c.from_residual.ensures c.loop-test.true

pub loop-preserved : goal.loop-preserved
loop-preserved c = ways-more _ _ _ _ _ c.args.at _ _ _ c.loop.invariant _ _ c.in_ok-one.ensures
