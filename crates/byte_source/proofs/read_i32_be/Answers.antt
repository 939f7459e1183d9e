use Rattle.byte_source.specs.BigEndian.{int32}
use Rattle.byte_source.proofs.ByteLaws.{parts}
use Rattle.byte_source.proofs.read_i32_be.Goals as goal

pub returns-in_err-bits : goal.returns-in_err-bits
unfolding int32
returns-in_err-bits c = search parts

pub returns : goal.returns
unfolding int32
returns c = search parts
