use Rattle.visit.proofs.AcceptLaws.{accept-ok}
use Rattle.visit.proofs.accept_way.Goals as goal

pub returns : goal.returns
returns c = accept-ok _ _ _ _ _ _ _ _ _ _ _ _ _ c.in_ok-stored.ensures c.streamed_body-body.ensures c.noted_end-end.ensures
