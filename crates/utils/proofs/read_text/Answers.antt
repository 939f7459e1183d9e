use Rattle.utils.specs.Vbe.{noted_text}
use Rattle.byte_source.proofs.ReadLaws.{reads}
use Rattle.utils.proofs.read_text.Goals as goal

pub returns-in_err-n : goal.returns-in_err-n
unfolding noted_text
returns-in_err-n c = search reads

pub returns-then-n-gt1048576 : goal.returns-then-n-gt1048576
unfolding noted_text
returns-then-n-gt1048576 c = search reads

pub returns : goal.returns
unfolding noted_text
returns c = search reads
