-- A layer has 8 bits.
use Prim.Native.Nat.{ℕ, suc, ◌-◌, ◌^◌, ◌<◌}
use native.Mathlib.Omega.{arith}
use mathlib.Core.Path.{◌≡◌, ap, ◌∙◌}
use mathlib.Core.Bool.{Bool, true, false, cond}
use lib.Dec.{ltb}
use lib.IntN.{ℤ, pos, negsuc, ◌-ℤ◌}
use lib.Signed.{mag}
use mir.Syntax.{w8}
use mir.Val.{SFits, to_z, of_z}
use mir.Facts.{to_z_pos, to_z-of_z}

small : (a : ℕ) (t : Bool) → a < 16 → mag (cond t (negsuc (5 - suc a)) (pos (a - 5))) < 128
small a true h = omega arith
small a false h = omega arith

plain : (a : ℕ) → a < 16 → to_z w8 a -ℤ pos 5 ≡ pos a -ℤ pos 5
plain a h = ap (λ (z : ℤ). z -ℤ pos 5) (to_z_pos w8 {n = a} (omega arith))

pub layer_fits : (a : ℕ) → a < 16 → SFits w8 (to_z w8 a -ℤ pos 5)
layer_fits a h = rw (plain a h) (record { sfits = small a (ltb a 5) h })

pub layer-is : (a : ℕ) → a < 16 → to_z w8 (of_z w8 (to_z w8 a -ℤ pos 5)) ≡ pos a -ℤ pos 5
layer-is a h = to_z-of_z {w = w8} (layer_fits a h) ∙ plain a h

-- a layer's bits, as a record holds them, are its value
pub layer-bits : (z : ℤ) → mag z < 2 ^ 7 → to_z w8 (of_z w8 z) ≡ z
layer-bits z m = to_z-of_z {w = w8} {z = z} (record { sfits = m })
