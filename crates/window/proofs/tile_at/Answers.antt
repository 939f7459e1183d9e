use borrow.Author.Rules.{rules}
use Rattle.window.proofs.TileLaws.{tile-inside, tile-is}
use Rattle.window.proofs.tile_at.Goals as goal

pub row_major-number-requires : goal.row_major-number-requires
row_major-number-requires c =
    tile-inside c.args.grid c.args.window _ _ c.requires (search rules) (search rules) (search rules) (search rules) (search rules) (search rules) (search rules) (search rules) _ _ c.axis_tile-x.ensures c.axis_tile-y.ensures

pub returns : goal.returns
returns c =
    tile-is c.args.grid c.args.window _ _ c.requires (search rules) (search rules) (search rules) (search rules) (search rules) (search rules) (search rules) (search rules) _ _ c.axis_tile-x.ensures c.axis_tile-y.ensures _ _ c.row_major-number.ensures c.mask_of-mask.ensures
