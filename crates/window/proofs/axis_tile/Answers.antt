use Rattle.window.proofs.SignedLaws.{axis-tile-is}
use Rattle.window.proofs.axis_tile.Goals as goal

pub returns : goal.returns
returns c =
    axis-tile-is _ _ _ _ _ c.ranges.grid_low c.ranges.grid_high c.ranges.low c.ranges.high c.requires _ _ _ c.tile_bias.ensures c.bias.ensures c.first_of-first.ensures _ c.unbias.ensures
