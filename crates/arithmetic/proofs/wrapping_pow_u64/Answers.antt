use Rattle.arithmetic.proofs.ArithmeticLaws.{powers}
use Rattle.arithmetic.proofs.wrapping_pow_u64.Goals as goal

pub loop-e-preserved : goal.loop-e-preserved
loop-e-preserved c = search powers
