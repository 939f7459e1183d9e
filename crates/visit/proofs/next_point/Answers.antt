use Rattle.visit.proofs.NextLaws.{a_point}
use Rattle.visit.proofs.next_point.Goals as goal

pub returns : goal.returns
returns c = a_point _ _ _ _ _ _ _ _ _ _ c.in_ok-poi.ensures c.streamed_poi-point.ensures c.noted_end-end.ensures c.requires
