use mathlib.Core.Path.{◌∙◌}
use Rattle.tag_table.proofs.KindLaws.{text-listed, text-none}
use Rattle.tag_table.proofs.listed_text.Goals as goal

pub returns-in-Some : goal.returns-in-Some
returns-in-Some c = c.read_vbe_u.ensures ∙ text-listed _ _ _ _ _ _ c.in-Some.ensures

pub returns-in-None : goal.returns-in-None
returns-in-None c = text-none _ _ _ _ _ c.in-None.ensures
