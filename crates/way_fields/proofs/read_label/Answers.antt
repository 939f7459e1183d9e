use Rattle.way_fields.proofs.WayFieldLaws.{labels}
use Rattle.way_fields.proofs.read_label.Goals as goal

pub returns-then-not-flag : goal.returns-then-not-flag
returns-then-not-flag c = search labels

pub returns-in_err-position : goal.returns-in_err-position
returns-in_err-position c = search labels

pub returns : goal.returns
returns c = search labels
