use Rattle.std.proofs.Common.{◌≡◌, ◌+◌, ◌-◌, ◌<◌, refl, sym, arith}
use Rattle.utils.proofs.VbeLaws.{groups-past, room-first, above-none, fits-group, fits_sum, fits-weight, room_next, loop-none, loop-past, loop-last, loop-more}
use Rattle.utils.proofs.read_groups.Goals as goal

pub returns-then-map-at : goal.returns-then-map-at
returns-then-map-at c = sym (groups-past c.args.last 9 c.args.map.now c.args.at (omega arith) (omega arith))

pub loop-i-init : goal.loop-i-init
loop-i-init c =
    let e : c.args.at + 0 ≡ c.args.at = omega arith in
    rw e (room-first, above-none _)

pub returns-then-map-at-2 : goal.returns-then-map-at-2
returns-then-map-at-2 c = loop-past _ _ _ _ _ _ _ c.loop-i.invariant.1 (omega arith) (omega arith)

pub overflow_mul-groups : goal.overflow_mul-groups
overflow_mul-groups c =
    let h : 0 < 9 - c.loop-i.i = omega arith in
    fits-group _ _ _ _ _ c.loop-i.invariant.0 h c.requires.0 c.requires.1

pub overflow_add-groups : goal.overflow_add-groups
overflow_add-groups c =
    let h : 0 < 9 - c.loop-i.i = omega arith in
    fits_sum _ _ _ _ _ c.loop-i.invariant.0 h c.requires.0 c.requires.1

pub returns-then-b-lt128 : goal.returns-then-b-lt128
returns-then-b-lt128 c = loop-last _ _ _ _ _ _ _ c.loop-i.invariant.1 _ (omega arith) (omega arith) refl c.if-b-lt128.true

pub overflow_mul-v : goal.overflow_mul-v
overflow_mul-v c =
    let h : 0 < 9 - c.loop-i.i = omega arith in
    fits-group _ _ _ 128 _ c.loop-i.invariant.0 h (omega arith) (omega arith)

pub overflow_add-v : goal.overflow_add-v
overflow_add-v c =
    let h : 0 < 9 - c.loop-i.i = omega arith in
    fits_sum _ _ _ 128 _ c.loop-i.invariant.0 h (omega arith) (omega arith)

pub overflow_mul-w : goal.overflow_mul-w
overflow_mul-w c = fits-weight _ _ _ c.loop-i.invariant.0 (omega arith)

pub loop-i-preserved : goal.loop-i-preserved
loop-i-preserved c =
    let e : 9 - (c.loop-i.i + 1) ≡ 9 - c.loop-i.i - 1 = omega arith in
    let f : c.args.at + (c.loop-i.i + 1) ≡ c.args.at + c.loop-i.i + 1 = omega arith in
    rw (e, f) (
      room_next _ _ _ _ c.loop-i.invariant.0 (omega arith),
      loop-more _ _ _ _ _ _ _ c.loop-i.invariant.1 _ (omega arith) (omega arith) refl (omega arith),
    )

pub returns : goal.returns
returns c = loop-none _ _ _ _ _ _ _ c.loop-i.invariant.1 (omega arith)
