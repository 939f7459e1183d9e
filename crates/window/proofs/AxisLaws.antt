-- One axis on unsigned numbers.
use Prim.Native.Nat.{ℕ, ◌+◌, ◌-◌, ◌/◌, ◌≤◌, ◌<◌}
use native.Mathlib.Omega.{arith}
use mathlib.Core.Path.{◌≡◌, refl}
use mathlib.Core.Bool.{Bool, true, false, cond}
use lib.Dec.{leb}
use borrow.Author.Tests.{le-leb, lt-leb, leb-true, leb-false}
use Rattle.window.specs.Biased.{biased_first, biased_last, biased_width, biased_count}

module _ (gl gh low high : ℕ) where
  pub count-reversed : high < low → 0 ≡ biased_count gl gh low high
  unfolding biased_count
  count-reversed h = rw (lt-leb low high h)

  module _ (first last : ℕ) (o : low ≤ high) (p : first ≡ biased_first gl low) (q : last ≡ biased_last gh high) where
    pub count_none : last < first → 0 ≡ biased_count gl gh low high
    unfolding biased_count
    count_none h =
        let e : leb (biased_first gl low) (biased_last gh high) ≡ false = rw (← p, ← q) (lt-leb first last h) in
        rw (le-leb low high o, e)

    pub count-some : first ≤ last → last - first + 1 ≡ biased_count gl gh low high
    unfolding biased_count
    count-some h =
        let e : leb (biased_first gl low) (biased_last gh high) ≡ true = rw (← p, ← q) (le-leb first last h) in
        rw (le-leb low high o, e, p, q)

pub last-le : (gh high : ℕ) → biased_last gh high ≤ high / 4
last-le gh high = go (leb gh (high / 4)) refl
  where
    go : (t : Bool) → leb gh (high / 4) ≡ t → cond t gh (high / 4) ≤ high / 4
    go true h = leb-true gh (high / 4) h
    go false h = omega arith

pub first-ge : (gl low : ℕ) → gl ≤ biased_first gl low
first-ge gl low = go (leb gl (low / 4)) refl
  where
    go : (t : Bool) → leb gl (low / 4) ≡ t → gl ≤ cond t (low / 4) gl
    go true h = leb-true gl (low / 4) h
    go false h = omega arith

last-grid : (gh high : ℕ) → biased_last gh high ≤ gh
last-grid gh high = go (leb gh (high / 4)) refl
  where
    go : (t : Bool) → leb gh (high / 4) ≡ t → cond t gh (high / 4) ≤ gh
    go true h = omega arith
    go false h = omega (arith, leb-false gh (high / 4) h)

width-within : (a b c d : ℕ) → a ≤ c → d ≤ b → biased_width c d ≤ biased_width a b
width-within a b c d h k = go (leb c d) refl
  where
    go : (t : Bool) → leb c d ≡ t → cond t (d - c + 1) 0 ≤ biased_width a b
    go true e =
        let l = leb-true c d e in
        rw (le-leb a b (omega arith)) (omega arith)
    go false e = omega arith

pub count-within : (gl gh low high : ℕ) → biased_count gl gh low high ≤ biased_width gl gh
unfolding biased_count
count-within gl gh low high = go (leb low high)
  where
    go : (t : Bool) → cond t (biased_width (biased_first gl low) (biased_last gh high)) 0 ≤ biased_width gl gh
    go true = width-within gl gh (biased_first gl low) (biased_last gh high) (first-ge gl low) (last-grid gh high)
    go false = omega arith

width-reach : (a b i : ℕ) → i < biased_width a b → a + i ≤ b
width-reach a b i = go (leb a b) refl
  where
    go : (t : Bool) → leb a b ≡ t → i < cond t (b - a + 1) 0 → a + i ≤ b
    go true e h = omega (arith, leb-true a b e)
    go false e h = absurd (omega arith)

pub tile-within : (gl gh low high i : ℕ) → i < biased_count gl gh low high → (gl ≤ biased_first gl low + i) × (biased_first gl low + i ≤ gh)
unfolding biased_count
tile-within gl gh low high i = go (leb low high)
  where
    go : (t : Bool) → i < cond t (biased_width (biased_first gl low) (biased_last gh high)) 0 → (gl ≤ biased_first gl low + i) × (biased_first gl low + i ≤ gh)
    go true h = (omega (arith, first-ge gl low), omega (arith, width-reach (biased_first gl low) (biased_last gh high) i h, last-grid gh high))
    go false h = absurd (omega arith)
