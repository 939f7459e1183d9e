-- Signed numbers of 32 bits as the code's locals hold them, and how far one is above another.
use Prim.Native.Nat.{ℕ, zero, suc, ◌+◌, ◌-◌, ◌^◌, ◌≤◌, ◌<◌}
use native.Mathlib.Omega.{arith}
use mathlib.Core.Path.{◌≡◌, refl, sym, ◌∙◌}
use mathlib.Core.Bool.{Bool, true, false, not, false≢true}
use lib.Dec.{T}
use lib.IntN.{ℤ, pos, negsuc, nat_abs, ◌-ℤ◌}
use lib.Signed.{mag, le_z, non_neg}
use mir.Syntax.{w32, w64}
use mir.Val.{Fits, SFits, to_z, of_z}
use mir.Facts.{to_z-of_z, sfits_widen}
use borrow.Author.Tests.{leb-true, le-ltb, not-true, not-false}
use Rattle.format.specs.Header.{between}
use Rattle.format.specs.Index.{width}
use Rattle.index.specs.Asked.{Ordered}

-- a number's place among those of 32 bits
abbrev shift : ℤ → ℕ
shift (pos n) = n + 2147483648
shift (negsuc n) = 2147483647 - n

-- from a low number up to a high one
record Gap (low high : ℤ) : Type 0 where
  size : ℕ
  is : high -ℤ low ≡ pos size
  sum : size + shift low ≡ shift high
  small : size < 2 ^ 32

gap : (low high : ℤ) → mag low < 2 ^ 31 → mag high < 2 ^ 31 → le_z low high ≡ true → Gap low high
gap (pos zero) (pos b) f g h = record { size = b + 0; is = refl; sum = omega arith; small = omega arith }
gap (pos (suc a)) (pos b) f g h =
    let l = leb-true (suc a) b h in
    record { size = b - suc a; is = rw (le-ltb b (suc a) l); sum = omega arith; small = omega arith }
gap (pos a) (negsuc b) f g h = absurd (false≢true h)
gap (negsuc a) (pos b) f g h = record { size = b + suc a; is = refl; sum = omega arith; small = omega arith }
gap (negsuc a) (negsuc b) f g h =
    let l = leb-true b a h in
    record { size = suc a - suc b; is = rw (le-ltb (suc a) (suc b) (omega arith)); sum = omega arith; small = omega arith }

-- a number between two ends is no farther from the low one than the high one is
pub steps-within : (low v high : ℤ) → mag low < 2 ^ 31 → mag v < 2 ^ 31 → mag high < 2 ^ 31 → le_z low v ≡ true → le_z v high ≡ true → le_z low high ≡ true → nat_abs (v -ℤ low) ≤ nat_abs (high -ℤ low)
steps-within low v high f g k a b c =
    let p = gap low v f g a in
    let q = gap v high g k b in
    let r = gap low high f k c in
    rw (p.is, r.is) (omega (arith, p.sum, q.sum, r.sum))

-- a number in a local of 32 bits, and in one of 64
abbrev pub back : ℤ → ℤ
back z = to_z w32 (of_z w32 z)

abbrev wide : ℤ → ℤ
wide z = to_z w64 (of_z w64 (back z))

pub back_is : (z : ℤ) → mag z < 2 ^ 31 → back z ≡ z
back_is z f = to_z-of_z {w = w32} {z = z} (record { sfits = f })

pub wide_fits : {z : ℤ} → SFits w32 z → SFits w64 (back z)
wide_fits f = rw (to_z-of_z {w = w32} f) (sfits_widen tt f)

wide_is : {z : ℤ} → SFits w32 z → wide z ≡ z
wide_is f = to_z-of_z {w = w64} (wide_fits f) ∙ to_z-of_z {w = w32} f

module _ {low high : ℤ} (f : SFits w32 low) (g : SFits w32 high) (h : Ordered low high) where
  between-them : Gap low high
  between-them = gap low high f.sfits g.sfits h.order

  wide-gap : wide high -ℤ wide low ≡ pos between-them.size
  wide-gap = rw (wide_is f, wide_is g) between-them.is

  pub gap-fits : SFits w64 (wide high -ℤ wide low)
  gap-fits = rw wide-gap (record { sfits = omega (arith, between-them.small) })

  gap_back : to_z w64 (of_z w64 (wide high -ℤ wide low)) ≡ pos between-them.size
  gap_back = to_z-of_z {w = w64} gap-fits ∙ wide-gap

  pub gap-cast : T (non_neg (to_z w64 (of_z w64 (wide high -ℤ wide low)))) × Fits w64 (nat_abs (to_z w64 (of_z w64 (wide high -ℤ wide low))))
  gap-cast = rw gap_back (tt, record { fits = omega (arith, between-them.small) })

  pub gap-value : (nat_abs (to_z w64 (of_z w64 (wide high -ℤ wide low))) ≡ nat_abs (high -ℤ low)) × (nat_abs (to_z w64 (of_z w64 (wide high -ℤ wide low))) < 2 ^ 32)
  gap-value = rw (gap_back, between-them.is) (refl, between-them.small)

-- a test that was passed, and one that was not
pub passed : (r t : Bool) → r ≡ t → not r ≡ false → t ≡ true
passed r t e h = sym e ∙ not-false r h

pub failed : (r t : Bool) → r ≡ t → not r ≡ true → t ≡ false
failed r t e h = sym e ∙ not-true r h

pub ordered : (low high : ℤ) (r : Bool) → r ≡ le_z low high → not r ≡ false → Ordered low high
ordered low high r e h = record { order = passed r _ e h }

-- what a test said of two locals, it says of the numbers
module _ (low high : ℤ) (f : mag low < 2 ^ 31) (g : mag high < 2 ^ 31) (t : Bool) (e : t ≡ le_z (back low) (back high)) where
  order_is : t ≡ le_z low high
  order_is = e ∙ rw (back_is low f, back_is high g)

  pub width-none : not t ≡ true → 0 ≡ width low high
  width-none h = rw (failed t _ order_is h)

  pub width_some : (r : ℕ) → not t ≡ false → r ≡ nat_abs (back high -ℤ back low) → r + 1 ≡ width low high
  width_some r h d = rw (passed t _ order_is h, d, back_is low f, back_is high g)

  pub range-below : (other : ℤ) → not t ≡ true → false ≡ between low other high
  range-below other h = rw (failed t _ order_is h)

  pub range-rest : (other : ℤ) (s : Bool) → mag other < 2 ^ 31 → not t ≡ false → s ≡ le_z (back high) (back other) → s ≡ between low other high
  range-rest other s k h d = rw (passed t _ order_is h, d, back_is high g, back_is other k)
