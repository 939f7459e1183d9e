use Rattle.agreement_guard.proofs.GuardLaws.{opened-refused, opened-well}
use Rattle.agreement_guard.proofs.open_with_lists.Goals as goal

pub returns-in_err-header : goal.returns-in_err-header
returns-in_err-header c = opened-refused _ _ _ _ _ _ _ c.open_map.ensures c.in_err-header.was c.from_residual.ensures

pub returns : goal.returns
returns c = opened-well _ _ _ _ _ _ _ _ c.open_map.ensures c.in_ok-header.was c.layout_of.ensures c.interval_of.ensures
