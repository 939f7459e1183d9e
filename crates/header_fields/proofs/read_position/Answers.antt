use Rattle.format.specs.Header.{place}
use Rattle.header_fields.proofs.FieldLaws.{reads}
use Rattle.header_fields.proofs.read_position.Goals as goal

pub returns-in_err-y : goal.returns-in_err-y
unfolding place
returns-in_err-y c = search reads

pub returns-in_err-x : goal.returns-in_err-x
unfolding place
returns-in_err-x c = search reads

pub returns : goal.returns
unfolding place
returns c = search reads
