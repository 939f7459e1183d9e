-- The touched cells of a tile.
use Prim.Native.Nat.{ℕ, zero, suc, ◌+◌, ◌*◌, ◌/◌, ◌%◌, ◌^◌, ◌≤◌, ◌<◌}
use native.Mathlib.Numerals.{add-one}
use native.Mathlib.Nat.{pow-le-pow_right, pow-suc}
use native.Mathlib.Omega.{arith}
use mathlib.Core.Path.{◌≡◌, refl, ◌∙◌}
use mathlib.Core.Bool.{Bool, true, false, cond}
use lib.Dec.{lit<}
use lib.IntN.{ℤ, pos, negsuc, ◌+ℤ◌}
use lib.Signed.{mag}
use mir.Syntax.{w32, w64}
use mir.Val.{SFits}
use Rattle.format.specs.Header.{between}
use Rattle.window.specs.Window.{Rectangle, four, bits, cell_touched, mask_of}
use Rattle.window.specs.Biased.{biased, biased_between, biased_cell, cell_bit, biased_mask}
use Rattle.window.proofs.SignedLaws.{back, order, sum-biased, sum-small, held, back_is, held-is}

bit_le : (t : Bool) → cond t 1 0 ≤ 1
bit_le true = omega arith
bit_le false = omega arith

bits-lt : (n : ℕ) (f : ℕ → Bool) → bits n f < 2 ^ n
bits-lt zero f = lit< tt
bits-lt (suc n) f = omega (arith, bits-lt n f, bit_le (f n), pow-suc 2 n)

pub bits_small : (n : ℕ) (f : ℕ → Bool) → n ≤ 16 → bits n f < 65536
bits_small n f h =
    let p : 2 ^ n ≤ 2 ^ 16 = pow-le-pow_right (lit< tt) h in
    omega (arith, bits-lt n f)

module _ (l r t b x y : ℕ) where
  pub mask_start : 0 ≡ biased_mask l r t b x y 0
  unfolding biased_mask
  mask_start = refl

  pub mask-small : (k m : ℕ) → k ≤ 16 → m ≡ biased_mask l r t b x y k → m < 65536
  unfolding biased_mask
  mask-small k m h e = rw e (bits_small k (biased_cell l r t b x y) h)

  pub mask_next : (k m d : ℕ) → m ≡ biased_mask l r t b x y k → d ≡ cell_bit l r t b x y k → 2 * m + d ≡ biased_mask l r t b x y (k + 1)
  unfolding biased_mask
  mask_next k m d e h = rw (add-one k, e, h)

-- a cell's sub tile
cell-biased : (x : ℤ) (d : ℕ) → mag x < 2 ^ 31 → d < 4 → (biased (2 ^ 63) (four x +ℤ pos d) ≡ 4 * biased (2 ^ 61) x + d) × (mag (four x +ℤ pos d) < 2 ^ 63)
cell-biased (pos n) d h k = (omega arith, omega arith)
cell-biased (negsuc n) d h k = (
  omega (arith, sum-biased (2 ^ 63) (negsuc (suc (suc (suc (n + n) + n) + n))) d (omega arith)),
  omega (arith, sum-small (negsuc (suc (suc (suc (n + n) + n) + n))) d),
)

between_is : (low high x : ℤ) (d : ℕ) → mag low < 2 ^ 63 → mag high < 2 ^ 63 → mag x < 2 ^ 31 → d < 4 → biased_between (biased (2 ^ 63) low) (biased (2 ^ 63) high) (biased (2 ^ 61) x) d ≡ between low high (four x +ℤ pos d)
between_is low high x d f g h k =
    let c = cell-biased x d h k in
    rw (← c.0, ← order (2 ^ 63) low (four x +ℤ pos d) f c.1, ← order (2 ^ 63) (four x +ℤ pos d) high c.1 g)

bits-same : (n : ℕ) (f g : ℕ → Bool) → ((k : ℕ) → k < n → f k ≡ g k) → bits n f ≡ bits n g
bits-same zero f g h = refl
bits-same (suc n) f g h = rw (bits-same n f g (λ k l. h k (omega arith)), h n (omega arith))

module _ (w : Rectangle) (x y : ℤ) (fl : SFits w64 w.left) (fr : SFits w64 w.right) (ft : SFits w64 w.top) (fb : SFits w64 w.bottom)
    (fx : SFits w32 x) (fy : SFits w32 y) where
  cell-is : (k : ℕ) → k < 16 → biased_cell (biased (2 ^ 63) w.left) (biased (2 ^ 63) w.right) (biased (2 ^ 63) w.top) (biased (2 ^ 63) w.bottom) (biased (2 ^ 61) x) (biased (2 ^ 61) y) k ≡ cell_touched w x y k
  cell-is k h =
      let a : k % 4 < 4 = omega arith in
      let b : k / 4 < 4 = omega arith in
      rw (between_is w.left w.right x (k % 4) fl.sfits fr.sfits fx.sfits a, between_is w.top w.bottom y (k / 4) ft.sfits fb.sfits fy.sfits b)

  mask-all : biased_mask (biased (2 ^ 63) w.left) (biased (2 ^ 63) w.right) (biased (2 ^ 63) w.top) (biased (2 ^ 63) w.bottom) (biased (2 ^ 61) x) (biased (2 ^ 61) y) 16 ≡ mask_of w x y
  unfolding biased_mask
  mask-all = bits-same 16 _ _ cell-is

  pub mask_is : (l r t b i j m : ℕ) → l ≡ biased (2 ^ 63) (held w.left) → r ≡ biased (2 ^ 63) (held w.right) → t ≡ biased (2 ^ 63) (held w.top) → b ≡ biased (2 ^ 63) (held w.bottom) → i ≡ biased (2 ^ 61) (back x) → j ≡ biased (2 ^ 61) (back y) → m ≡ biased_mask l r t b i j 16 → m ≡ mask_of w x y
  mask_is l r t b i j m p q s u v z e =
      e ∙ rw (p, q, s, u, v, z, held-is fl, held-is fr, held-is ft, held-is fb, back_is fx, back_is fy) mask-all
