use Rattle.std.proofs.Common.{rules}
use Rattle.index.proofs.GridLaws.{row_fits, number_fits}
use Rattle.index.proofs.row_major.Goals as goal

pub overflow_mul-result : goal.overflow_mul-result
overflow_mul-result c =
    row_fits c.args.grid c.args.x c.args.y c.requires (search rules) (search rules) (search rules) (search rules) c.ranges.x.sfits c.ranges.y.sfits _ _ _ c.abs_diff-row.ensures c.abs_diff-column.ensures c.width_of.ensures

pub overflow_add-result : goal.overflow_add-result
overflow_add-result c =
    number_fits c.args.grid c.args.x c.args.y c.requires (search rules) (search rules) (search rules) (search rules) c.ranges.x.sfits c.ranges.y.sfits _ _ _ c.abs_diff-row.ensures c.abs_diff-column.ensures c.width_of.ensures
