use Rattle.std.proofs.Common.{rules}
use Rattle.index.proofs.GridLaws.{number_is}
use Rattle.window.proofs.TileLaws.{columns-ordered, columns-here}
use Rattle.window.proofs.row_major.Goals as goal

pub returns : goal.returns
returns c =
    number_is c.args.grid c.args.x c.args.y c.requires (search rules) (search rules) (search rules) (search rules) c.ranges.x.sfits c.ranges.y.sfits _ _ _ c.abs_diff-row.ensures c.abs_diff-column.ensures (columns-here _ _ _ (columns-ordered c.args.grid c.args.x c.args.y c.requires (search rules) (search rules)) c.abs_diff-last.ensures)
