use mathlib.Core.Path.{◌∙◌}
use Rattle.tag_table.proofs.KindLaws.{kind-listed, kind-none}
use Rattle.tag_table.proofs.listed_kind.Goals as goal

pub returns-in-Some : goal.returns-in-Some
returns-in-Some c = c.kind_of.ensures ∙ kind-listed _ _ _ _ _ c.in-Some.ensures

pub returns-in-None : goal.returns-in-None
returns-in-None c = kind-none _ _ _ _ c.in-None.ensures
