use Rattle.fields.proofs.FieldLaws.{flagged}
use Rattle.header_parts.proofs.read_optional_byte.Goals as goal

pub returns-then-not-flag : goal.returns-then-not-flag
returns-then-not-flag c = search flagged

pub returns-in_err-value : goal.returns-in_err-value
returns-in_err-value c = search flagged

pub returns : goal.returns
returns c = search flagged
