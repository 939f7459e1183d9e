-- A signed number cast to `i64` from a narrower type: it is read from its bits at the narrow width and written at 64, and both leave a
-- number that fits as it is.
use Prim.Native.Nat.{◌<◌, ◌^◌}
use mathlib.Core.Path.{◌≡◌, sym, ap, subst, ◌∙◌}
use lib.IntN.{ℤ}
use lib.Dec.{T, leb}
use lib.Signed.{mag}
use mir.Syntax.{Width, w64}
use mir.Val.{hbits, SFits, to_z, of_z}
use mir.Facts.{sfits_widen, to_z-of_z}

module _ {w : Width} {z : ℤ} (narrower : T (leb (hbits w) (hbits w64))) (fits : SFits w z) where
  pub widens : SFits w64 (to_z w (of_z w z))
  widens = subst (SFits w64) (sym (to_z-of_z fits)) (sfits_widen narrower fits)

  pub widened : to_z w64 (of_z w64 (to_z w (of_z w z))) ≡ z
  widened = ap (λ (y : ℤ). to_z w64 (of_z w64 y)) (to_z-of_z fits) ∙ to_z-of_z {w = w64} (sfits_widen narrower fits)

  pub wide : (to_z w64 (of_z w64 (to_z w (of_z w z))) ≡ z) × (mag (to_z w64 (of_z w64 (to_z w (of_z w z)))) < 2 ^ 63)
  wide = (widened, subst (λ (y : ℤ). mag y < 2 ^ 63) (sym widened) (sfits_widen {w = w} {w' = w64} narrower fits).sfits)
