use Rattle.tag.proofs.TagLaws.{tags}
use Rattle.tag.proofs.inline_value_kind.Goals as goal

pub returns : goal.returns
returns c = search tags
