use Rattle.std.proofs.Common.{rules}
use Rattle.window.proofs.SignedLaws.{ends-are}
use Rattle.window.proofs.rows_of.Goals as goal

pub returns : goal.returns
returns c =
    ends-are c.args.grid.y_min c.args.grid.y_max c.args.window.top c.args.window.bottom (search rules) (search rules) (search rules) (search rules) _ c.axis_count.ensures
