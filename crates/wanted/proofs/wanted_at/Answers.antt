use Rattle.wanted.proofs.TileLaws.{head-stops, head-goes-on}
use Rattle.wanted.proofs.wanted_at.Goals as goal

pub returns-in_err-head : goal.returns-in_err-head
returns-in_err-head c =
    head-stops c.args.format.layout c.args.format.letters.now c.args.decisions.now c.args.map.now c.args.zoom c.args.place _ _ c.from_residual.ensures c.in_err-head.ensures

pub returns : goal.returns
returns c =
    head-goes-on c.args.format.layout c.args.format.letters.now c.args.decisions.now c.args.map.now c.args.zoom c.args.place _ _ _ _ c.in_ok-head.ensures c.saturating_add_usize-way.ensures c.wanted_of.ensures
