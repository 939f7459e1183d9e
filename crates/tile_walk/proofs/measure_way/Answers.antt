use Rattle.tile_layout.specs.TileLayout.{tile_kinds}
use Rattle.byte_source.proofs.ReadLaws.{handed-up}
use Rattle.tile_walk.proofs.WalkLaws.{way-stops, body-stops, length-fits, way-ends}
use Rattle.tile_walk.proofs.measure_way.Goals as goal

pub returns-in_err-head : goal.returns-in_err-head
returns-in_err-head c =
    let points = (tile_kinds c.args.format).points in
    handed-up _ _ _ _ c.from_residual.ensures (way-stops _ _ _ _ points _ c.in_err-head.ensures)

pub returns-in_err-body : goal.returns-in_err-body
returns-in_err-body c =
    let points = (tile_kinds c.args.format).points in
    handed-up _ _ _ _ c.from_residual-in_err-body.ensures
    (body-stops _ _ _ _ _ _ c.in_ok-head.ensures points _ c.in_err-body.ensures)

pub overflow_sub-said : goal.overflow_sub-said
overflow_sub-said c = length-fits _ _ _ _ _ _ c.in_ok-head.ensures _ _ c.in_ok-body.ensures

pub returns : goal.returns
returns c =
    let points = (tile_kinds c.args.format).points in
    way-ends _ _ _ _ _ _ c.in_ok-head.ensures _ _ c.in_ok-body.ensures points
