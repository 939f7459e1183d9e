use Rattle.utils.specs.Vbe.{text}
use Rattle.fields.proofs.FieldLaws.{flagged}
use Rattle.fields.proofs.read_optional_text.Goals as goal

pub returns-then-not-flag : goal.returns-then-not-flag
unfolding text
returns-then-not-flag c = search flagged

pub returns-in_err-text : goal.returns-in_err-text
unfolding text
returns-in_err-text c = search flagged

pub returns : goal.returns
unfolding text
returns c = search flagged
