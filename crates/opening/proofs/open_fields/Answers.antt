use Rattle.opening.proofs.OpeningLaws.{opens}
use Rattle.opening.proofs.open_fields.Goals as goal

pub returns-in_err-fields : goal.returns-in_err-fields
returns-in_err-fields c = search opens

pub returns-then-fields-ne1 : goal.returns-then-fields-ne1
returns-then-fields-ne1 c = search opens

pub returns-in_err-check_signatures : goal.returns-in_err-check_signatures
returns-in_err-check_signatures c = search opens

pub returns : goal.returns
returns c = search opens
