use Rattle.byte_source.proofs.ReadLaws.{reads}
use Rattle.utils.proofs.VbeLaws.{text-is}
use Rattle.utils.proofs.read_vbe_u.Goals as goal

pub returns-in_err-n : goal.returns-in_err-n
returns-in_err-n c = rw text-is (search reads)

pub returns-then-n-gt1048576 : goal.returns-then-n-gt1048576
returns-then-n-gt1048576 c = rw text-is (search reads)

pub returns : goal.returns
returns c = rw text-is (search reads)
