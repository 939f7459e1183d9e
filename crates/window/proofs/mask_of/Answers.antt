use Rattle.std.proofs.Common.{rules}
use Rattle.window.specs.Answers.{rectangle_of}
use Rattle.window.proofs.MaskLaws.{mask_is}
use Rattle.window.proofs.mask_of.Goals as goal

pub returns : goal.returns
returns c =
    mask_is (rectangle_of c.args.window) _ _ (record { sfits = (search rules) }) (record { sfits = (search rules) }) (record { sfits = (search rules) }) (record { sfits = (search rules) }) c.ranges.x c.ranges.y _ _ _ _ _ _ _
    c.ends_of-across.ensures.0 c.ends_of-across.ensures.1 c.ends_of-down.ensures.0 c.ends_of-down.ensures.1
    c.tile_bias.ensures c.tile_bias-2.ensures c.mask_at.ensures
