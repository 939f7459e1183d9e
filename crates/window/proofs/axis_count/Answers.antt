use Rattle.window.proofs.SignedLaws.{axis-is}
use Rattle.window.proofs.axis_count.Goals as goal

pub returns : goal.returns
returns c =
    axis-is _ _ _ _ c.ranges.grid_low c.ranges.grid_high c.ranges.low c.ranges.high _ _ _ _ _
    c.tile_bias.ensures c.tile_bias-2.ensures c.ends_of.ensures.0 c.ends_of.ensures.1 c.count_of.ensures
