use mathlib.Core.Path.{ap}
use native.Mathlib.Omega.{arith}
use Rattle.byte_source.proofs.ReadLaws.{handed-up}
use Rattle.tile_layout.specs.TileLayout.{tile_kinds}
use Rattle.wanted.specs.declared.WayFigures.{WayFigures}
use Rattle.wanted.proofs.FigureLaws.{ways-more, ways-no, at_most_one}
use Rattle.wanted.proofs.measure_ways.Goals as goal

pub returns-in_err-one : goal.returns-in_err-one
returns-in_err-one c =
    handed-up _ _ _ _ c.from_residual.ensures (ways-no (tile_kinds c.args.format) c.args.map.now c.args.decisions.now _ _ _ _ _ c.loop-i.invariant.1 c.loop-i-test.true _ c.is_accepted-accepted.ensures _ c.in_err-one.ensures)

pub loop-i-preserved : goal.loop-i-preserved
loop-i-preserved c =
    let k = tile_kinds c.args.format in
    let o = at_most_one k c.args.map.now c.args.decisions.now _ _ _ _ _ c.loop-i.invariant.1 c.loop-i-test.true _ c.is_accepted-accepted.ensures _ _ c.in_ok-one.ensures in
    (omega (arith, c.loop-i.invariant.0, ap (λ (f : WayFigures). f.ways) c.both_figures-all.ensures), ways-more k c.args.map.now c.args.decisions.now _ _ _ _ _ c.loop-i.invariant.1 c.loop-i-test.true _ c.is_accepted-accepted.ensures _ _ c.in_ok-one.ensures _ c.both_figures-all.ensures)
