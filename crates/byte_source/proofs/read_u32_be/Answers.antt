use Rattle.byte_source.proofs.ByteLaws.{parts}
use Rattle.byte_source.proofs.read_u32_be.Goals as goal

pub returns-in_err-next : goal.returns-in_err-next
returns-in_err-next c = search parts

pub returns : goal.returns
returns c = search parts
