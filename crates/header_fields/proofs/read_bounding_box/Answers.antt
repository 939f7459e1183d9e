use Rattle.format.specs.Header.{box}
use Rattle.header_fields.proofs.FieldLaws.{reads}
use Rattle.header_fields.proofs.read_bounding_box.Goals as goal

pub returns-in_err-min : goal.returns-in_err-min
unfolding box
returns-in_err-min c = search reads

pub returns-in_err-max : goal.returns-in_err-max
unfolding box
returns-in_err-max c = search reads

pub returns-then-valid_box : goal.returns-then-valid_box
unfolding box
returns-then-valid_box c = search reads

pub returns : goal.returns
unfolding box
returns c = search reads
