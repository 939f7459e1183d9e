use Rattle.tile_layout.specs.TileLayout.{tile_kinds}
use Rattle.tile_walk.proofs.WalkLaws.{points-more, points-no}
use Rattle.tile_walk.proofs.measure_points.Goals as goal

pub returns-in_err-poi : goal.returns-in_err-poi
returns-in_err-poi c =
    let w = (tile_kinds c.args.format).ways in
    points-no _ _ _ w _ _ _ _ c.loop.invariant _ _ _ c.in_err-poi.ensures c.from_residual.ensures c.loop-test.true

pub loop-preserved : goal.loop-preserved
loop-preserved c =
    let w = (tile_kinds c.args.format).ways in
    points-more _ _ _ w _ c.args.at _ _ c.loop.invariant _ _ c.in_ok-poi.ensures
