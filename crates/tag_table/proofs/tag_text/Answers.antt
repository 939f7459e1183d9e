use Rattle.format.specs.TagTable.{tag_text}
use Rattle.tag_table.proofs.TableLaws.{walks}
use Rattle.tag_table.proofs.tag_text.Goals as goal

pub returns-then-table-k : goal.returns-then-table-k
unfolding tag_text
returns-then-table-k c = search walks

pub returns-in_err-at : goal.returns-in_err-at
unfolding tag_text
returns-in_err-at c = search walks

pub returns : goal.returns
unfolding tag_text
returns c = search walks
