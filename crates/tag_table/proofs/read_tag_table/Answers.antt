use Rattle.format.specs.Header.{tags}
use Rattle.tag_table.proofs.TableLaws.{walks, table-whole}
use Rattle.tag_table.proofs.read_tag_table.Goals as goal

pub returns-in_err-n : goal.returns-in_err-n
unfolding tags
returns-in_err-n c = search walks

pub returns-in_err-next : goal.returns-in_err-next
unfolding tags
returns-in_err-next c = search walks

pub returns : goal.returns
returns c = table-whole _ _ _ _ _ c.in_ok-n.ensures c.in_ok-next.ensures
