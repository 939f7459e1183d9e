use Rattle.fields.proofs.FieldLaws.{flagged}
use Rattle.fields.proofs.read_noted_text.Goals as goal

pub returns-then-not-flag : goal.returns-then-not-flag
returns-then-not-flag c = search flagged

pub returns-in_err-text : goal.returns-in_err-text
returns-in_err-text c = search flagged

pub returns : goal.returns
returns c = search flagged
