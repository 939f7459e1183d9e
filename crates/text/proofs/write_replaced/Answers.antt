use Rattle.text.proofs.WriteLaws.{writes}
use Rattle.text.proofs.write_replaced.Goals as goal

pub returns-then-replaced_fits : goal.returns-then-replaced_fits
returns-then-replaced_fits c = search writes

pub returns : goal.returns
returns c = search writes
