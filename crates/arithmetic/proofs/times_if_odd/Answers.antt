use Rattle.arithmetic.proofs.ArithmeticLaws.{powers}
use Rattle.arithmetic.proofs.times_if_odd.Goals as goal

pub returns : goal.returns
returns c = search powers
