use Rattle.way_data.proofs.BlockLaws.{data-no, data-fit, data-done}
use Rattle.way_data.proofs.write_data_block.Goals as goal

pub returns-in_default : goal.returns-in_default
returns-in_default c = data-no _ _ _ _ _ c.requires c.in_default.field-0 _ _ _ _ _ c.in_default.ensures

pub write_blocks-requires : goal.write_blocks-requires
write_blocks-requires c = data-fit _ _ _ _ _ c.requires c.in-Ok.n c.in-Ok.next c.in-Ok.ensures

pub returns : goal.returns
returns c = data-done _ _ _ _ _ c.requires c.in-Ok.n c.in-Ok.next c.in-Ok.ensures _ _ _ _ _ c.write_blocks.ensures
