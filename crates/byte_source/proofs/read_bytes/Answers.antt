use Rattle.byte_source.proofs.ByteLaws.{parts}
use Rattle.byte_source.proofs.read_bytes.Goals as goal

pub returns-then-size-lt1 : goal.returns-then-size-lt1
returns-then-size-lt1 c = search parts

pub returns-in_err-next : goal.returns-in_err-next
returns-in_err-next c = search parts

pub returns : goal.returns
returns c = search parts
