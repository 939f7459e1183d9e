use Rattle.std.proofs.Common.{arith}
use Rattle.window.proofs.MaskLaws.{mask_start, mask-small, mask_next}
use Rattle.window.proofs.mask_at.Goals as goal

pub loop-k-init : goal.loop-k-init
loop-k-init c = mask_start _ _ _ _ _ _

pub overflow_mul-mask : goal.overflow_mul-mask
overflow_mul-mask c = omega (arith, mask-small _ _ _ _ _ _ _ _ c.loop-k.auto.k-end c.loop-k.invariant)

pub overflow_add-mask : goal.overflow_add-mask
overflow_add-mask c = omega (arith, c.cell_bit.ensures.1, mask-small _ _ _ _ _ _ _ _ c.loop-k.auto.k-end c.loop-k.invariant)

pub loop-k-preserved : goal.loop-k-preserved
loop-k-preserved c = mask_next _ _ _ _ _ _ _ _ _ c.loop-k.invariant c.cell_bit.ensures.0

pub overflow_cast-result : goal.overflow_cast-result
overflow_cast-result c = record { fits = mask-small _ _ _ _ _ _ _ _ c.loop-k.auto.k-end c.loop-k.invariant }
