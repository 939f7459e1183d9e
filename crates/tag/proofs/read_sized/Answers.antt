use Rattle.byte_source.proofs.ReadLaws.{reads}
use Rattle.tag.specs.Value.{sized}
use Rattle.tag.proofs.read_sized.Goals as goal

pub returns-in_err-n : goal.returns-in_err-n
unfolding sized
returns-in_err-n c = search reads

pub returns : goal.returns
unfolding sized
returns c = search reads
