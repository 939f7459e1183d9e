use Rattle.text.proofs.Utf8Laws.{follows}
use Rattle.text.proofs.+follow_at.Goals as goal

pub returns-then-more-eq0 : goal.returns-then-more-eq0
returns-then-more-eq0 t c = search follows

pub returns-then-text-at : goal.returns-then-text-at
returns-then-text-at t c = search follows

pub returns-then-b-low : goal.returns-then-b-low
returns-then-b-low t c = search follows

pub returns-then-high-b : goal.returns-then-high-b
returns-then-high-b t c = search follows

pub overflow_mul-c : goal.overflow_mul-c
overflow_mul-c t c = search follows

pub overflow_add-c : goal.overflow_add-c
overflow_add-c t c = search follows

pub returns : goal.returns
returns t c = search follows
