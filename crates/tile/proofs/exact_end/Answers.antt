use Rattle.tile.proofs.PlaceLaws.{ends_nowhere, ends-unsized, ends_at}
use Rattle.tile.proofs.exact_end.Goals as goal

pub returns-in_err-at : goal.returns-in_err-at
returns-in_err-at c = ends_nowhere _ _ _ _ _ c.in_err-at.ensures

pub returns-in_err-size : goal.returns-in_err-size
returns-in_err-size c = ends-unsized _ _ _ _ _ c.in_ok-at.ensures _ _ c.in_err-size.ensures

pub returns : goal.returns
returns c = ends_at _ _ _ _ _ c.in_ok-at.ensures _ _ _ c.in_ok-size.ensures c.saturating_add_usize.ensures
