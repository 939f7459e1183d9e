use Rattle.window.proofs.AxisLaws.{count-reversed, count_none, count-some}
use Rattle.window.proofs.count_of.Goals as goal

pub returns-then-ends : goal.returns-then-ends
returns-then-ends c = count-reversed _ _ _ _ c.if-ends.true

pub returns-then-last-first : goal.returns-then-last-first
returns-then-last-first c = count_none _ _ _ _ _ _ c.if-ends.false c.first_of-first.ensures c.last_of-last.ensures c.if-last-first.true

pub returns : goal.returns
returns c = count-some _ _ _ _ _ _ c.if-ends.false c.first_of-first.ensures c.last_of-last.ensures c.if-last-first.false
