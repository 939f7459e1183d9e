use Rattle.std.proofs.Common.{rules}
use Rattle.index.proofs.GridLaws.{reversed-x, reversed-y, too_many, counted}
use Rattle.index.proofs.grid_tiles.Goals as goal

pub returns-then-columns-lt1 : goal.returns-then-columns-lt1
returns-then-columns-lt1 c =
    reversed-x c.args.grid _ _ c.width_of-columns.ensures c.width_of-rows.ensures (search rules) (search rules) (search rules) (search rules) c.if-columns-lt1.true

pub returns-then-rows-lt1 : goal.returns-then-rows-lt1
returns-then-rows-lt1 c =
    reversed-y c.args.grid _ _ c.width_of-columns.ensures c.width_of-rows.ensures (search rules) (search rules) (search rules) (search rules) c.if-rows-lt1.true

pub returns-then-columns-rows : goal.returns-then-columns-rows
returns-then-columns-rows c =
    too_many c.args.grid _ _ c.width_of-columns.ensures c.width_of-rows.ensures (search rules) (search rules) (search rules) (search rules) c.if-columns-lt1.false c.if-columns-rows.true

pub returns : goal.returns
returns c =
    counted c.args.grid _ _ c.width_of-columns.ensures c.width_of-rows.ensures (search rules) (search rules) (search rules) (search rules) c.if-columns-lt1.false c.if-rows-lt1.false c.if-columns-rows.false
