use Rattle.format.specs.WayData.{node}
use Rattle.fields.proofs.FieldLaws.{flagged}
use Rattle.fields.proofs.read_position.Goals as goal

pub returns-in_err-latitude : goal.returns-in_err-latitude
unfolding node
returns-in_err-latitude c = search flagged

pub returns-in_err-longitude : goal.returns-in_err-longitude
unfolding node
returns-in_err-longitude c = search flagged

pub returns : goal.returns
unfolding node
returns c = search flagged
