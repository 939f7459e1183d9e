use Rattle.std.proofs.Common.{Bool, not, T, sym, subst}
use lib.Ieee.{div, of_bits}
use Rattle.report.proofs.WordLaws.{pattern-nan, pattern_number}
use Rattle.report.proofs.float_of.Goals as goal

pub returns-then-bits-gt9218868437227405312 : goal.returns-then-bits-gt9218868437227405312
unfolding div of_bits
returns-then-bits-gt9218868437227405312 c = rw (pattern-nan _ c.if-bits-gt9218868437227405312.true)

pub float_from_bits-result : goal.float_from_bits-result
float_from_bits-result c = subst (λ (b : Bool). T (not b)) (sym (pattern_number _ c.if-bits-gt9218868437227405312.false)) tt

pub returns : goal.returns
returns c = rw (pattern_number _ c.if-bits-gt9218868437227405312.false)
