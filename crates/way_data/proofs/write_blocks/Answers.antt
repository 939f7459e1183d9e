use native.Mathlib.Omega.{arith}
use Rattle.way_data.specs.Writes.{one_block}
use Rattle.way_data.proofs.BlockLaws.{left-fit, left-more, left-done}
use Rattle.way_data.proofs.write_blocks.Goals as goal

pub write_block-place-requires : goal.write_block-place-requires
write_block-place-requires c = left-fit one_block _ _ _ _ _ _ _ _ _ _ _ _ c.loop.invariant (omega arith)

pub loop-preserved : goal.loop-preserved
loop-preserved c = left-more one_block _ _ _ _ _ _ _ _ _ _ _ _ c.loop.invariant _ _ _ _ _ (omega arith) c.write_block-place.ensures

pub returns : goal.returns
returns c = left-done one_block _ _ _ _ _ _ _ _ _ _ _ _ c.loop.invariant (omega arith)
