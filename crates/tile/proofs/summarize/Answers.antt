use Rattle.tile.proofs.TileLaws.{no-head, no_walk, summarized}
use Rattle.tile.proofs.summarize.Goals as goal

pub returns-in_err-head : goal.returns-in_err-head
returns-in_err-head c = no-head _ _ _ _ _ _ c.requires c.well_formed.0.0 _ _ c.from_residual.ensures c.in_err-head.ensures

pub returns-in_err-said : goal.returns-in_err-said
returns-in_err-said c =
    no_walk _ _ _ _ _ _ c.requires c.well_formed.0.0 _ _ c.in_ok-head.ensures _ _ c.from_residual-in_err-said.ensures c.in_err-said.ensures

pub returns : goal.returns
returns c =
    summarized _ _ _ _ _ _ c.requires c.well_formed.0.0 _ _ c.in_ok-head.ensures _ _ c.in_ok-said.ensures
