use Rattle.way_data.proofs.BlockLaws.{block_no, block-slot, block_fit, block-fits, block-done}
use Rattle.way_data.proofs.write_block.Goals as goal

pub returns-in_default : goal.returns-in_default
returns-in_default c = block_no _ _ _ _ _ c.requires c.in_default.field-0 _ _ _ _ _ c.in_default.ensures

pub bounds-counts-block : goal.bounds-counts-block
bounds-counts-block c = block-slot _ _ _ _ _ c.requires c.in-Ok.n c.in-Ok.start c.in-Ok.ensures

pub write_nodes-next-requires : goal.write_nodes-next-requires
write_nodes-next-requires c = block_fit _ _ _ _ _ c.requires c.in-Ok.n c.in-Ok.start c.in-Ok.ensures

pub overflow_add-result-2 : goal.overflow_add-result-2
overflow_add-result-2 c =
    block-fits _ _ _ _ _ c.requires c.in-Ok.n c.in-Ok.start c.in-Ok.ensures c.well_formed.1.1.1.1.0.0

pub returns : goal.returns
returns c = block-done _ _ _ _ _ c.requires c.in-Ok.n c.in-Ok.start c.in-Ok.ensures _ _ _ _ c.write_nodes-next.ensures
