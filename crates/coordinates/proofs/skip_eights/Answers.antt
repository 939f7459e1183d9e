use native.Mathlib.Omega.{arith}
use mathlib.Core.Path.{sym, ◌∙◌}
use Rattle.coordinates.proofs.SkipLaws.{pass-eight, start-near}
use Rattle.coordinates.proofs.skip_eights.Goals as goal

pub loop-left-preserved : goal.loop-left-preserved
loop-left-preserved c =
    (omega (arith, start-near c.args.map.now c.loop-left.back, c.loop-left.invariant.1.0.1), rw c.open_in.ensures (pass-eight c.args.map.now c.args.at c.args.n c.type_inv.map c.loop-left.back c.loop-left.left (omega arith) (sym c.any_off.ensures ∙ c.if-any_off.false) c.loop-left.invariant.1))
