-- One call of next, by the tests on the counts that code makes.
use mathlib.Core.Path.{◌≡◌, refl}
use mathlib.Core.List.{List}
use Prim.Native.Nat.{ℕ, zero, suc, ◌-◌, ◌<◌, ◌≤◌}
use native.Mathlib.Nat.{not-suc-le-zero}
use native.Mathlib.Numerals.{sub-one}
use Rattle.agreement.specs.Calls.{next, plain, ended}
use Rattle.agreement.specs.Format.{Format}
use Rattle.agreement.specs.Stream.{idle, stream, on_point, on_head}

module _ (F : Format) (m : List ℕ) (n w i v : ℕ) (z : F.End) where
  pub next-point : 0 < n → stream F m (idle n w i v z) next ≡ on_point F (n - 1) w i v z (F.point m i)
  next-point h = go n h
    where
      go : (n : ℕ) → 0 < n → stream F m (idle n w i v z) next ≡ on_point F (n - 1) w i v z (F.point m i)
      go zero h = absurd (not-suc-le-zero h)
      go (suc n) h = rw sub-one

  pub next-head : n ≤ 0 → 0 < w → stream F m (idle n w i v z) next ≡ on_head F (w - 1) i v z (F.head m v)
  next-head g h = go n w g h
    where
      go : (n w : ℕ) → n ≤ 0 → 0 < w → stream F m (idle n w i v z) next ≡ on_head F (w - 1) i v z (F.head m v)
      go (suc n) w g h = absurd (not-suc-le-zero g)
      go zero zero g h = absurd (not-suc-le-zero h)
      go zero (suc w) g h = rw sub-one

  pub next-end : n ≤ 0 → w ≤ 0 → stream F m (idle n w i v z) next ≡ plain (ended z) (idle 0 0 i v z)
  next-end g h = go n w g h
    where
      go : (n w : ℕ) → n ≤ 0 → w ≤ 0 → stream F m (idle n w i v z) next ≡ plain (ended z) (idle 0 0 i v z)
      go (suc n) w g h = absurd (not-suc-le-zero g)
      go zero (suc w) g h = absurd (not-suc-le-zero h)
      go zero zero g h = refl
