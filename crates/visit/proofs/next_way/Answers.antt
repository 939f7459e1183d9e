use mathlib.Core.Path.{refl}
use Rattle.visit.proofs.NextLaws.{a-way}
use Rattle.visit.proofs.next_way.Goals as goal

pub returns : goal.returns
returns c = a-way _ _ _ _ _ _ _ _ _ _ _ _ refl c.in_ok-head.ensures c.saturating_add_usize-past.ensures c.streamed_head.ensures c.noted_end-end.ensures c.requires.0 c.requires.1
