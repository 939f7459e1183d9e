use Prim.Native.Nat.{◌+◌, ◌-◌}
use mathlib.Core.Path.{◌≡◌}
use native.Mathlib.Omega.{arith}
use Rattle.coordinates.proofs.SkipLaws.{skip-near, skip-more, skip_stop, skip-done}
use Rattle.coordinates.proofs.skip_coordinates.Goals as goal

pub loop-init : goal.loop-init
loop-init c =
    let z : c.args.n - c.skip_eights-rest.result.left + 0 ≡ c.args.n - c.skip_eights-rest.result.left = omega arith in
    ((c.skip_eights-rest.ensures.0.0, omega arith), rw z c.skip_eights-rest.ensures.1)

pub returns-in_err-p : goal.returns-in_err-p
returns-in_err-p c =
    rw c.from_residual.ensures (skip_stop c.args.map.now c.args.at c.args.n _ c.loop.next _ c.loop.invariant.1 c.in_err-p.ensures (omega arith))

pub loop-preserved : goal.loop-preserved
loop-preserved c =
    let near = skip-near c.args.map.now c.loop.next _ _ c.in_ok-p.ensures in
    let z : c.args.n - c.skip_eights-rest.result.left + c.loop.counter + 1 ≡ c.args.n - c.skip_eights-rest.result.left + (c.loop.counter + 1) = omega arith in
    ((c.loop.invariant.0.0, omega arith), rw z at (skip-more c.args.map.now c.loop.next _ _ c.in_ok-p.ensures _ c.args.at _ c.loop.invariant.1))

pub returns : goal.returns
returns c = skip-done c.args.map.now c.args.at c.args.n _ c.loop.next _ (omega arith) c.loop.invariant.1 (omega arith) (omega arith)
