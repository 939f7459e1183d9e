use Rattle.std.proofs.Common.{rules}
use Rattle.window.proofs.SignedLaws.{ends-are}
use Rattle.window.proofs.columns_of.Goals as goal

pub returns : goal.returns
returns c =
    ends-are c.args.grid.x_min c.args.grid.x_max c.args.window.left c.args.window.right (search rules) (search rules) (search rules) (search rules) _ c.axis_count.ensures
