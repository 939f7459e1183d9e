-- Numbers of magnitude at most 2 ^ 53 as floats.
use Rattle.std.proofs.Common.{◌≡◌, ℕ, suc, ◌^◌, ◌≤◌, Bool, true, false, cond, T, leb, ℤ, pos, negsuc, nat_abs, refl, ap, arith, le→leb, lt→ltb, w64, SFits, ltb-false, ltb-true, le-leb, leb-true}
use lib.Signed.{lt_z}
use borrow.Author.Tests.{lt-leb}
use lib.Ieee.{binary64, in_float, of_bits, of_int}

pub in-float : (z : ℤ) → nat_abs z ≤ 2 ^ 53 → T (in_float binary64 z)
unfolding in_float
in-float (pos n) h = le→leb n (2 ^ 53) h
in-float (negsuc n) h = lt→ltb n (2 ^ 53) h

pub million : of_bits binary64 4696837146684686336 ≡ of_int binary64 (pos 1000000)
unfolding of_bits of_int
million = refl

false-not-true : false ≡ true → ◌≡◌ {A = ℕ} 0 1
false-not-true e = ap (λ (b : Bool). cond b 1 0) e

pub abs-sfits : (z : ℤ) → nat_abs z ≤ 2 ^ 53 → SFits w64 z
abs-sfits (pos n) h = record { sfits = omega arith }
abs-sfits (negsuc n) h = record { sfits = omega arith }

pub too-low : (z : ℤ) → lt_z z (negsuc 9007199254740991) ≡ true → leb (nat_abs z) (2 ^ 53) ≡ false
too-low (pos n) h = absurd (omega (arith, false-not-true h))
too-low (negsuc n) h = lt-leb (suc n) (2 ^ 53) (omega (arith, ltb-true 9007199254740991 n h))

pub too-high : (z : ℤ) → lt_z (pos 9007199254740992) z ≡ true → leb (nat_abs z) (2 ^ 53) ≡ false
too-high (pos n) h = lt-leb n (2 ^ 53) (omega (arith, ltb-true 9007199254740992 n h))
too-high (negsuc n) h = absurd (omega (arith, false-not-true h))

pub within : (z : ℤ) → lt_z z (negsuc 9007199254740991) ≡ false → lt_z (pos 9007199254740992) z ≡ false → leb (nat_abs z) (2 ^ 53) ≡ true
within (pos n) h k = le-leb n (2 ^ 53) (ltb-false 9007199254740992 n k)
within (negsuc n) h k = le-leb (suc n) (2 ^ 53) (omega (arith, ltb-false 9007199254740991 n h))

pub within-abs : (z : ℤ) → lt_z z (negsuc 9007199254740991) ≡ false → lt_z (pos 9007199254740992) z ≡ false → nat_abs z ≤ 2 ^ 53
within-abs z h k = leb-true (nat_abs z) (2 ^ 53) (within z h k)
