-- What a bitmap and a mask have both is 0 exactly if no bit is 1 in both.
use Prim.Native.Nat.{ℕ, zero, suc, ◌+◌, ◌*◌, ◌/◌, ◌%◌, ◌^◌, ◌<◌, min}
use native.Mathlib.Nat.{pow-suc, zero-min, min-zero, add-zero}
use native.Mathlib.Omega.{arith}
use mathlib.Core.Path.{◌≡◌, refl, sym, ap, ◌∙◌}
use mathlib.Core.Bool.{Bool, true, false, not, ◌&&◌, ◌||◌}
use lib.Bits.{bit_and, and_step, and_zero_l}
use lib.Dec.{eqb}
use borrow.Author.Tests.{eqb-true, eqb-false, ne_eqb}
use Rattle.window.specs.Window.{meets}

-- an even number is 0 exactly if its half is, and an odd one is not
eqb-even : (q : ℕ) → eqb (q * 2) 0 ≡ eqb q 0
eqb-even zero = refl
eqb-even (suc q) = ne_eqb (suc q * 2) 0 (omega arith) ∙ sym (ne_eqb (suc q) 0 (omega arith))

eqb-odd : (q : ℕ) → eqb (q * 2 + 1) 0 ≡ false
eqb-odd q = ne_eqb (q * 2 + 1) 0 (omega arith)

-- by the lowest bits of both, and what the halves have both
step : (q x y : ℕ) (m : Bool) → x < 2 → y < 2 → not (eqb q 0) ≡ m → not (eqb (q * 2 + min x y) 0) ≡ (eqb x 1 && eqb y 1) || m
step q x y m f g h = go (eqb x 1) (eqb y 1) refl refl
  where
    even : min x y ≡ 0 → not (eqb (q * 2 + min x y) 0) ≡ m
    even e = ap (λ k. not (eqb (q * 2 + k) 0)) e ∙ ap (λ k. not (eqb k 0)) (add-zero (q * 2)) ∙ ap not (eqb-even q) ∙ h

    go : (s t : Bool) → eqb x 1 ≡ s → eqb y 1 ≡ t → not (eqb (q * 2 + min x y) 0) ≡ (s && t) || m
    go true true a b =
        let e : min x y ≡ 1 = rw (eqb-true x 1 a, eqb-true y 1 b) refl in
        ap (λ k. not (eqb (q * 2 + k) 0)) e ∙ ap not (eqb-odd q)
    go true false a b =
        let z : y ≡ 0 = omega (arith, eqb-false y 1 b) in
        even (ap (min x) z ∙ min-zero x)
    go false t a b =
        let z : x ≡ 0 = omega (arith, eqb-false x 1 a) in
        even (ap (λ k. min k y) z ∙ zero-min y)

pub and-meets : (n a b : ℕ) → a < 2 ^ n → not (eqb (bit_and a b) 0) ≡ meets n a b
and-meets zero a b h =
    let z : a ≡ 0 = omega arith in
    ap (λ k. not (eqb (bit_and k b) 0)) z ∙ ap (λ k. not (eqb k 0)) (and_zero_l b)
and-meets (suc n) a b h =
    ap (λ k. not (eqb k 0)) (and_step a b)
    ∙ step (bit_and (a / 2) (b / 2)) (a % 2) (b % 2) (meets n (a / 2) (b / 2)) (omega arith) (omega arith)
    (and-meets n (a / 2) (b / 2) (omega (arith, pow-suc 2 n)))
