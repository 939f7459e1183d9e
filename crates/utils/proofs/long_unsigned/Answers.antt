use Rattle.utils.specs.Vbe.{noted_unsigned}
use Rattle.byte_source.proofs.ReadLaws.{reads}
use Rattle.utils.proofs.long_unsigned.Goals as goal

pub returns-in_err-groups : goal.returns-in_err-groups
unfolding noted_unsigned
returns-in_err-groups c = search reads

pub returns : goal.returns
unfolding noted_unsigned
returns c = search reads
