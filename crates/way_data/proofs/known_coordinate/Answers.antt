use native.Mathlib.Omega.{arith}
use mathlib.Core.Path.{refl}
use Rattle.way_data.proofs.CoordinateLaws.{coordinates, first-there, second-there, third-there, three-bytes}
use Rattle.way_data.proofs.known_coordinate.Goals as goal

pub bounds-map-at : goal.bounds-map-at
bounds-map-at c = omega (arith, first-there)

pub overflow_add-result : goal.overflow_add-result
overflow_add-result c = omega (arith, first-there)

pub returns-then-a-lt128 : goal.returns-then-a-lt128
returns-then-a-lt128 c = search coordinates

pub bounds-map-at-2 : goal.bounds-map-at-2
bounds-map-at-2 c = second-there _ _ c.requires _ refl c.if-a-lt128.false

pub returns-then-b-lt128 : goal.returns-then-b-lt128
returns-then-b-lt128 c = search coordinates

pub bounds-map-at-3 : goal.bounds-map-at-3
bounds-map-at-3 c = third-there _ _ c.requires _ refl c.if-a-lt128.false _ refl c.if-b-lt128.false

pub returns-then-c-lt128 : goal.returns-then-c-lt128
returns-then-c-lt128 c =
    three-bytes _ _ c.requires _ refl c.if-a-lt128.false _ refl c.if-b-lt128.false _ _ refl c.if-c-lt128.true c.signed_of-then-c-lt128.ensures
