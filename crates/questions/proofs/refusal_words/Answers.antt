use Rattle.questions.proofs.RefusalLaws.{refusals}
use Rattle.questions.proofs.refusal_words.Goals as goal

pub returns-in-UnsupportedVersion : goal.returns-in-UnsupportedVersion
returns-in-UnsupportedVersion c = search refusals

pub returns-in-InvalidTagId : goal.returns-in-InvalidTagId
returns-in-InvalidTagId c = search refusals

pub returns-in_default : goal.returns-in_default
returns-in_default c = search refusals
