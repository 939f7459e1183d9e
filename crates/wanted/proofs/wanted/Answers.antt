use Rattle.wanted.proofs.TileLaws.{place-stops, place-goes-on}
use Rattle.wanted.proofs.wanted.Goals as goal

pub returns-in_err-place : goal.returns-in_err-place
returns-in_err-place c =
    place-stops c.args.format.layout c.args.format.letters.now _ _ _ c.args.zoom c.args.decisions.now c.args.map.now c.well_formed.0.0 _ _ c.from_residual.ensures c.in_err-place.ensures

pub returns : goal.returns
returns c =
    place-goes-on c.args.format.layout c.args.format.letters.now _ _ _ c.args.zoom c.args.decisions.now c.args.map.now c.well_formed.0.0 _ _ c.in_ok-place.ensures c.wanted_at.ensures
