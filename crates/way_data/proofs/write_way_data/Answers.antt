use native.Mathlib.Omega.{arith}
use Rattle.way_data.specs.Writes.{data_block_alone}
use Rattle.way_data.proofs.BlockLaws.{left-fit, left-more, left-done}
use Rattle.way_data.proofs.write_way_data.Goals as goal

pub write_data_block-place-requires : goal.write_data_block-place-requires
write_data_block-place-requires c = left-fit data_block_alone _ _ _ _ _ _ _ _ _ _ _ _ c.loop.invariant (omega arith)

pub loop-preserved : goal.loop-preserved
loop-preserved c = left-more data_block_alone _ _ _ _ _ _ _ _ _ _ _ _ c.loop.invariant _ _ _ _ _ (omega arith) c.write_data_block-place.ensures

pub returns : goal.returns
returns c = left-done data_block_alone _ _ _ _ _ _ _ _ _ _ _ _ c.loop.invariant (omega arith)
