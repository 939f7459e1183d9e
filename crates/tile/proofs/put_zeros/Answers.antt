use Rattle.std.proofs.Common.{replicate, arith, ap, ◌∙◌}
use Rattle.tile.proofs.RowLaws.{zeros-there}
use Rattle.tile.proofs.put_zeros.Goals as goal

pub returns : goal.returns
returns c =
    zeros-there c.args.count c.args.points.now c.args.ways.now _ _ (omega arith) (omega arith)
    (c.fill.ensures.after (λ y e. e) ∙ ap (λ n. replicate n 0) (omega arith))
    (c.fill-2.ensures.after (λ y e. e) ∙ ap (λ n. replicate n 0) (omega arith))
