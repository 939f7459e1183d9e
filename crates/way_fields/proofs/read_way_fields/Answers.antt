use Rattle.way_fields.specs.WayFields.{body_head}
use Rattle.way_fields.proofs.WayFieldLaws.{bodies}
use Rattle.way_fields.proofs.read_way_fields.Goals as goal

pub returns-in_err-fields : goal.returns-in_err-fields
unfolding body_head
returns-in_err-fields c = search bodies

pub returns-in_err-count : goal.returns-in_err-count
unfolding body_head
returns-in_err-count c = search bodies

pub returns : goal.returns
unfolding body_head
returns c = search bodies
