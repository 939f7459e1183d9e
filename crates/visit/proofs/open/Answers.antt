use Rattle.visit.proofs.OpenLaws.{open_no, open-found}
use Rattle.visit.proofs.open.Goals as goal

pub returns-in_err-place : goal.returns-in_err-place
returns-in_err-place c = open_no _ _ _ _ _ c.well_formed.0.0 _ _ _ _ c.from_residual.ensures c.in_err-place.ensures

pub returns : goal.returns
returns c = open-found _ _ _ _ _ c.well_formed.0.0 _ _ _ _ c.in_ok-place.ensures c.open_at.ensures
