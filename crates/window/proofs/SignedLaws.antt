-- What the unsigned numbers say, they say of the signed ones: order, quarter, ends, widths, sums.
use Prim.Native.Nat.{ℕ, zero, suc, ◌+◌, ◌-◌, ◌/◌, ◌%◌, ◌^◌, ◌≤◌, ◌<◌}
use native.Mathlib.Omega.{arith}
use mathlib.Core.Path.{◌≡◌, refl, sym, ◌∙◌}
use mathlib.Core.Bool.{Bool, true, false, cond, false≢true}
use lib.Dec.{leb, ltb}
use lib.IntN.{ℤ, pos, negsuc, nat_abs, ◌+ℤ◌, ◌-ℤ◌}
use lib.Signed.{mag, le_z}
use mir.Syntax.{w32, w64}
use mir.Val.{SFits, to_z, of_z}
use mir.Facts.{to_z-of_z}
use borrow.Author.Tests.{le-leb, lt-leb, leb-true, leb-false, le-ltb, lt-ltb, ltb-true, ltb-false}
use Rattle.byte_source.specs.BigEndian.{twos_complement}
use Rattle.window.proofs.AxisLaws.{count-within, tile-within}
use Rattle.format.specs.Header.{between}
use Rattle.format.specs.Index.{width}
use Rattle.window.specs.Window.{quarter, min_z, first_of, count_of}
use Rattle.window.specs.Biased.{biased, biased_first, biased_last, biased_width, biased_count}

-- a tile's number as the code's local holds it
abbrev pub back : ℤ → ℤ
back z = to_z w32 (of_z w32 z)

leb-same : (a b c d : ℕ) → (a ≤ b → c ≤ d) → (c ≤ d → a ≤ b) → leb a b ≡ leb c d
leb-same a b c d f g = go (leb a b) (leb c d) refl refl
  where
    go : (s t : Bool) → leb a b ≡ s → leb c d ≡ t → s ≡ t
    go true true h k = refl
    go false false h k = refl
    go true false h k = absurd (omega (arith, f (leb-true a b h), leb-false c d k))
    go false true h k = absurd (omega (arith, g (leb-true c d k), leb-false a b h))

pub order : (half : ℕ) (a b : ℤ) → mag a < half → mag b < half → le_z a b ≡ leb (biased half a) (biased half b)
order half (pos a) (pos b) f g = leb-same a b (half + a) (half + b) (λ h. omega arith) (λ h. omega arith)
order half (pos a) (negsuc b) f g = sym (lt-leb (half + a) (half - 1 - b) (omega arith))
order half (negsuc a) (pos b) f g = sym (le-leb (half - 1 - a) (half + b) (omega arith))
order half (negsuc a) (negsuc b) f g = leb-same b a (half - 1 - a) (half - 1 - b) (λ h. omega arith) (λ h. omega arith)

pub biased-small : (half : ℕ) (a : ℤ) → mag a < half → biased half a < half + half
biased-small half (pos a) f = omega arith
biased-small half (negsuc a) f = omega arith

pub quarter-biased : (z : ℤ) → mag z < 2 ^ 63 → biased (2 ^ 63) z / 4 ≡ biased (2 ^ 61) (quarter z)
quarter-biased (pos n) h = omega arith
quarter-biased (negsuc n) h = omega arith

pub quarter-small : (z : ℤ) → mag z < 2 ^ 63 → mag (quarter z) < 2 ^ 61
quarter-small (pos n) h = omega arith
quarter-small (negsuc n) h = omega arith

pub widen : (z : ℤ) → mag z < 2 ^ 31 → mag z < 2 ^ 61
widen z h = omega arith

cond-ap : {A B : Type 0} (f : A → B) (t : Bool) (a b : A) → cond t (f a) (f b) ≡ f (cond t a b)
cond-ap f true a b = refl
cond-ap f false a b = refl

cond-all : {A : Type 0} (P : A → Type 0) (t : Bool) (a b : A) → P a → P b → P (cond t a b)
cond-all P true a b h k = h
cond-all P false a b h k = k

-- how far one number is above another
pub gap : (half : ℕ) (a b : ℤ) → mag a < half → mag b < half → le_z a b ≡ true → biased half b - biased half a ≡ nat_abs (b -ℤ a)
gap half (pos zero) (pos b) f g h = omega arith
gap half (pos (suc a)) (pos b) f g h =
    let l = leb-true (suc a) b h in
    rw (le-ltb b (suc a) l) (omega arith)
gap half (pos a) (negsuc b) f g h = absurd (false≢true h)
gap half (negsuc a) (pos b) f g h = omega arith
gap half (negsuc a) (negsuc b) f g h =
    let l = leb-true b a h in
    rw (le-ltb (suc a) (suc b) (omega arith)) (omega arith)

width_is : (half : ℕ) (a b : ℤ) → mag a < half → mag b < half → biased_width (biased half a) (biased half b) ≡ width a b
width_is half a b f g = go (le_z a b) refl
  where
    go : (t : Bool) → le_z a b ≡ t → biased_width (biased half a) (biased half b) ≡ width a b
    go true h = rw (← order half a b f g, h, gap half a b f g h)
    go false h = rw (← order half a b f g, h)

-- the ends of an axis
module _ (g l : ℤ) (f : mag g < 2 ^ 31) (m : mag l < 2 ^ 63) where
  pub first-is : biased_first (biased (2 ^ 61) g) (biased (2 ^ 63) l) ≡ biased (2 ^ 61) (first_of g l)
  first-is =
      rw (quarter-biased l m, ← order (2 ^ 61) g (quarter l) (widen g f) (quarter-small l m))
      (cond-ap (biased (2 ^ 61)) (le_z g (quarter l)) (quarter l) g)

  pub first_small : mag (first_of g l) < 2 ^ 61
  first_small = cond-all (λ z. mag z < 2 ^ 61) (le_z g (quarter l)) (quarter l) g (quarter-small l m) (widen g f)

  last-is : biased_last (biased (2 ^ 61) g) (biased (2 ^ 63) l) ≡ biased (2 ^ 61) (min_z g (quarter l))
  last-is =
      rw (quarter-biased l m, ← order (2 ^ 61) g (quarter l) (widen g f) (quarter-small l m))
      (cond-ap (biased (2 ^ 61)) (le_z g (quarter l)) g (quarter l))

  last_fits : mag (min_z g (quarter l)) < 2 ^ 61
  last_fits = cond-all (λ z. mag z < 2 ^ 61) (le_z g (quarter l)) g (quarter l) (widen g f) (quarter-small l m)

module _ (gl gh l h : ℤ) (fl : mag gl < 2 ^ 31) (fh : mag gh < 2 ^ 31) (ml : mag l < 2 ^ 63) (mh : mag h < 2 ^ 63) where
  pub count-is : biased_count (biased (2 ^ 61) gl) (biased (2 ^ 61) gh) (biased (2 ^ 63) l) (biased (2 ^ 63) h) ≡ count_of gl gh l h
  unfolding biased_count
  count-is =
      rw (
        ← order (2 ^ 63) l h ml mh,
        first-is gl l fl ml,
        last-is gh h fh mh,
        width_is (2 ^ 61) (first_of gl l) (min_z gh (quarter h)) (first_small gl l fl ml) (last_fits gh h fh mh),
      )

  pub count-le : count_of gl gh l h ≤ width gl gh
  count-le =
      rw (← count-is, ← width_is (2 ^ 61) gl gh (widen gl fl) (widen gh fh))
      (count-within (biased (2 ^ 61) gl) (biased (2 ^ 61) gh) (biased (2 ^ 63) l) (biased (2 ^ 63) h))

-- numbers as the code's locals hold them
abbrev pub held : ℤ → ℤ
held z = to_z w64 (of_z w64 z)

pub back_is : {z : ℤ} → SFits w32 z → back z ≡ z
back_is f = to_z-of_z {w = w32} f

pub held-is : {z : ℤ} → SFits w64 z → held z ≡ z
held-is f = to_z-of_z {w = w64} f

module _ (gl gh l h : ℤ) (fl : SFits w32 gl) (fh : SFits w32 gh) (ml : SFits w64 l) (mh : SFits w64 h) where
  pub axis-is : (a b c d r : ℕ) → a ≡ biased (2 ^ 61) (back gl) → b ≡ biased (2 ^ 61) (back gh) → c ≡ biased (2 ^ 63) (held l) → d ≡ biased (2 ^ 63) (held h) → r ≡ biased_count a b c d → r ≡ count_of gl gh l h
  axis-is a b c d r p q s t e =
      e ∙ rw (p, q, s, t, back_is fl, back_is fh, held-is ml, held-is mh) (count-is gl gh l h fl.sfits fh.sfits ml.sfits mh.sfits)

  pub count-back : count_of (back gl) (back gh) (held l) (held h) ≡ count_of gl gh l h
  count-back = rw (back_is fl, back_is fh, held-is ml, held-is mh)

-- a number some steps on
pub sum-biased : (half : ℕ) (z : ℤ) (i : ℕ) → mag z < half → biased half (z +ℤ pos i) ≡ biased half z + i
sum-biased half (pos n) i h = omega arith
sum-biased half (negsuc n) i h = go (ltb i (suc n)) refl
  where
    go : (t : Bool) → ltb i (suc n) ≡ t → biased half (cond t (negsuc (suc n - suc i)) (pos (i - suc n))) ≡ half - 1 - n + i
    go true e = omega (arith, ltb-true i (suc n) e)
    go false e = omega (arith, ltb-false i (suc n) e)

pub sum-small : (z : ℤ) (i : ℕ) → mag (z +ℤ pos i) ≤ mag z + i
sum-small (pos n) i = omega arith
sum-small (negsuc n) i = go (ltb i (suc n))
  where
    go : (t : Bool) → mag (cond t (negsuc (suc n - suc i)) (pos (i - suc n))) ≤ n + i
    go true = omega arith
    go false = omega arith

grid-range : (z : ℤ) → mag z < 2 ^ 31 → (2 ^ 61 - 2 ^ 31 ≤ biased (2 ^ 61) z) × (biased (2 ^ 61) z < 2 ^ 61 + 2 ^ 31)
grid-range (pos n) h = (omega arith, omega arith)
grid-range (negsuc n) h = (omega arith, omega arith)

in-range : (z : ℤ) → 2 ^ 61 - 2 ^ 31 ≤ biased (2 ^ 61) z → biased (2 ^ 61) z < 2 ^ 61 + 2 ^ 31 → mag z < 2 ^ 31
in-range (pos n) h k = omega arith
in-range (negsuc n) h k = omega arith

twos : (z : ℤ) → mag z < 2 ^ 31 → twos_complement (biased (2 ^ 61) z % 2 ^ 32) ≡ z
twos (pos n) h =
    let e : (2 ^ 61 + n) % 2 ^ 32 ≡ n = omega arith in
    rw (e, lt-ltb n (2 ^ 31) h)
twos (negsuc n) h =
    let e : (2 ^ 61 - 1 - n) % 2 ^ 32 ≡ 2 ^ 32 - suc n = omega arith in
    let d : 2 ^ 32 - (2 ^ 32 - suc n) ≡ suc n = omega arith in
    rw (e, le-ltb (2 ^ 32 - suc n) (2 ^ 31) (omega arith), d)

-- tile i of an axis lies in the grid
module _ (gl gh l h : ℤ) (i : ℕ) (fl : mag gl < 2 ^ 31) (fh : mag gh < 2 ^ 31) (ml : mag l < 2 ^ 63) (mh : mag h < 2 ^ 63) (k : i < count_of gl gh l h) where
  tile-ends : (biased (2 ^ 61) gl ≤ biased (2 ^ 61) (first_of gl l +ℤ pos i)) × (biased (2 ^ 61) (first_of gl l +ℤ pos i) ≤ biased (2 ^ 61) gh)
  tile-ends =
      rw (sum-biased (2 ^ 61) (first_of gl l) i (first_small gl l fl ml), ← first-is gl l fl ml)
      (tile-within (biased (2 ^ 61) gl) (biased (2 ^ 61) gh) (biased (2 ^ 63) l) (biased (2 ^ 63) h) i (rw (count-is gl gh l h fl fh ml mh) k))

  pub tile-small : mag (first_of gl l +ℤ pos i) < 2 ^ 31
  tile-small = in-range (first_of gl l +ℤ pos i) (omega (arith, tile-ends.0, (grid-range gl fl).0)) (omega (arith, tile-ends.1, (grid-range gh fh).1))

  pub tile-between : between gl gh (first_of gl l +ℤ pos i) ≡ true
  tile-between =
      rw (
        order (2 ^ 61) gl (first_of gl l +ℤ pos i) (widen gl fl) (widen (first_of gl l +ℤ pos i) tile-small),
        order (2 ^ 61) (first_of gl l +ℤ pos i) gh (widen (first_of gl l +ℤ pos i) tile-small) (widen gh fh),
        le-leb _ _ tile-ends.0,
        le-leb _ _ tile-ends.1,
      )

module _ (gl gh l h : ℤ) (i : ℕ) (fl : SFits w32 gl) (fh : SFits w32 gh) (ml : SFits w64 l) (mh : SFits w64 h) (k : i < count_of gl gh l h) (a b first : ℕ)
    (p : a ≡ biased (2 ^ 61) (back gl)) (q : b ≡ biased (2 ^ 63) (held l)) (e : first ≡ biased_first a b) where
  first-here : first ≡ biased (2 ^ 61) (first_of gl l)
  first-here = e ∙ rw (p, q, back_is fl, held-is ml) (first-is gl l fl.sfits ml.sfits)

  sum-here : first + i ≡ biased (2 ^ 61) (first_of gl l +ℤ pos i)
  sum-here = rw first-here (sym (sum-biased (2 ^ 61) (first_of gl l) i (first_small gl l fl.sfits ml.sfits)))

  small-here : mag (first_of gl l +ℤ pos i) < 2 ^ 31
  small-here = tile-small gl gh l h i fl.sfits fh.sfits ml.sfits mh.sfits k

  pub axis-tile-is : (r : ℤ) → r ≡ twos_complement ((first + i) % 2 ^ 32) → back r ≡ first_of gl l +ℤ pos i
  axis-tile-is r d =
      let z : r ≡ first_of gl l +ℤ pos i = d ∙ rw sum-here (twos (first_of gl l +ℤ pos i) small-here) in
      rw z (back_is (record { sfits = small-here }))

-- the columns or rows of a grid and a rectangle, as the code's locals hold their ends
module _ (gl gh l h : ℤ) (fl : mag gl < 2 ^ 31) (fh : mag gh < 2 ^ 31) (ml : mag l < 2 ^ 63) (mh : mag h < 2 ^ 63) where
  ends-back : count_of (back gl) (back gh) (held l) (held h) ≡ count_of gl gh l h
  ends-back = count-back gl gh l h (record { sfits = fl }) (record { sfits = fh }) (record { sfits = ml }) (record { sfits = mh })

  pub ends-are : (r : ℕ) → r ≡ count_of (back gl) (back gh) (held l) (held h) → (r ≡ count_of gl gh l h) × (r ≤ width gl gh)
  ends-are r e = (e ∙ ends-back, rw (e, ends-back) (count-le gl gh l h fl fh ml mh))
