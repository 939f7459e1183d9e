use Rattle.tag_table.proofs.TableLaws.{walks}
use Rattle.tag_table.proofs.skip_texts.Goals as goal

pub returns-in_err-after : goal.returns-in_err-after
returns-in_err-after c = search walks

pub loop-preserved : goal.loop-preserved
loop-preserved c = search walks
