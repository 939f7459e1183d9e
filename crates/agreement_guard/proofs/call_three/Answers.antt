use Rattle.agreement_guard.proofs.GuardLaws.{called-three}
use Rattle.agreement_guard.proofs.call_three.Goals as goal

pub returns : goal.returns
returns c =
    called-three _ _ _ c.next-first.result c.accept-second.result c.decline-third.result _ _ _ _ _ _ c.next-first.ensures c.accept-second.ensures c.decline-third.ensures
