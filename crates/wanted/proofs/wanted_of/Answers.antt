use Prim.Native.Nat.{max}
use Rattle.std.proofs.Common.{◌≡◌, arith}
use Rattle.std.proofs.lemmas.Grind.{common_steps}
use Rattle.tile_layout.specs.TileLayout.{tile_kinds}
use Rattle.wanted.proofs.TileLaws.{points-stop, ways-stop, tile-ends}
use Rattle.wanted.proofs.wanted_of.Goals as goal

pub returns-in_err-text : goal.returns-in_err-text
returns-in_err-text c =
    points-stop (tile_kinds c.args.format) c.args.decisions.now c.args.map.now c.args.rest.points c.args.rest.ways c.args.rest.at c.args.rest.way _ _ c.from_residual.ensures c.in_err-text.ensures

pub returns-in_err-all : goal.returns-in_err-all
returns-in_err-all c =
    ways-stop (tile_kinds c.args.format) c.args.decisions.now c.args.map.now c.args.rest.points c.args.rest.ways c.args.rest.at c.args.rest.way _ _ c.in_ok-text.ensures _ _ c.from_residual-in_err-all.ensures c.in_err-all.ensures

pub returns : goal.returns
returns c =
    let w : c.max.result ≡ max c.in_ok-text.text c.in_ok-all.all.text = grind (arith, common_steps, c.max.ensures) in
    tile-ends (tile_kinds c.args.format) c.args.decisions.now c.args.map.now c.args.rest.points c.args.rest.ways c.args.rest.at c.args.rest.way _ _ c.in_ok-text.ensures _ _ _ c.in_ok-all.ensures w
