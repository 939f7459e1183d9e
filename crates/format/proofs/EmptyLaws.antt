-- The rows of a tile that its index marks empty count nothing.
use Prim.Native.Nat.{ℕ, zero, suc}
use native.Mathlib.Omega.{arith}
use mathlib.Core.Path.{◌≡◌, refl}
use lib.ListN.{take, replicate}
use Rattle.parsing.specs.Good.{total}
use Rattle.format.specs.Rows.{points_of, ways_of, empty_head}

nothing : {A : Type 0} (f : A → ℕ) (a : A) (n : ℕ) → f a ≡ 0 → total f (replicate n a) ≡ 0
nothing f a zero h = refl
nothing f a (suc n) h = omega (arith, nothing f a n h)

front-nothing : {A : Type 0} (f : A → ℕ) (a : A) (k n : ℕ) → f a ≡ 0 → total f (take k (replicate n a)) ≡ 0
front-nothing f a zero n h = refl
front-nothing f a (suc k) zero h = refl
front-nothing f a (suc k) (suc n) h = omega (arith, front-nothing f a k n h)

module _ (n : ℕ) where
  pub no-points : points_of (empty_head n).table ≡ 0
  no-points = nothing (λ r. r.points) _ n refl

  pub no-ways : ways_of (empty_head n).table ≡ 0
  no-ways = nothing (λ r. r.ways) _ n refl

  pub no-points-of : (rows : ℕ) → points_of (take rows (empty_head n).table) ≡ 0
  no-points-of rows = front-nothing (λ r. r.points) _ rows n refl

  pub no-ways-of : (rows : ℕ) → ways_of (take rows (empty_head n).table) ≡ 0
  no-ways-of rows = front-nothing (λ r. r.ways) _ rows n refl
