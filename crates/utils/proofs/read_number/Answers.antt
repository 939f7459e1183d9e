use Rattle.utils.specs.Vbe.{unsigned}
use Rattle.byte_source.proofs.ReadLaws.{reads}
use Rattle.utils.proofs.read_number.Goals as goal

pub returns-in_err-number : goal.returns-in_err-number
unfolding unsigned
returns-in_err-number c = search reads

pub returns : goal.returns
unfolding unsigned
returns c = search reads
