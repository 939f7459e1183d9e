-- No more can be read than a count that was cut at 2 ^ 64 - 1. (Document 01: sums past 64 bits are read as far as the map goes: 1,
-- unless a feature is refused earlier.) That a read at a cut place is refused as at the true one is `at_cut` of crate arithmetic.
use mathlib.Core.Path.{◌≡◌, refl, ap}
use mathlib.Core.Bool.{Bool, true, false, cond}
use mathlib.Core.List.{List, ◌∷◌}
use Prim.Native.Nat.{ℕ, zero, suc, ◌+◌, ◌-◌, ◌^◌, ◌≤◌, ◌<◌}
use native.Mathlib.Omega.{arith}
use borrow.Author.Tests.{ltb-true, ltb-false}
use lib.Dec.{ltb}
use lib.ListN.{length}
use Rattle.parsing.specs.Parse.{Res, ok, no, Parser, and_then, many}
use Rattle.parsing.specs.Good.{Good, Strict}
use Rattle.arithmetic.specs.Cut.{cut}
use Rattle.arithmetic.proofs.CutLaws.{cut_fits, cut-over}

pub below-cut : (x y : ℕ) → y ≤ x → y < 2 ^ 64 → y ≤ cut x
below-cut x y h f = go (ltb x (2 ^ 64)) refl
  where
    go : (b : Bool) → ltb x (2 ^ 64) ≡ b → y ≤ cond b x (2 ^ 64 - 1)
    go true e = h
    go false e = omega arith

module _ {A : Type 0} {p : Parser A} (g : Good p) (s : Strict p) (m : List ℕ) where
  -- a value takes at least a byte, so none is there at the map's end
  none-there : {B : Type 0} (x y : A → ℕ → Res B) (i : ℕ) → length m ≤ i → (r : Res A) → p m i ≡ r → and_then r x ≡ and_then r y
  none-there x y i b (ok v e) h = absurd (let u = s.more m i v e h in let w = g.bound m i v e h in omega arith)
  none-there x y i b (no k l) h = refl

  one_more : (x y : ℕ → Res (List A)) (i : ℕ) → ((v : A) (e : ℕ) → i < e → x e ≡ y e) → (r : Res A) → p m i ≡ r
      → and_then r (λ v e. and_then (x e) (λ l z. ok (v ∷ l) z)) ≡ and_then r (λ v e. and_then (y e) (λ l z. ok (v ∷ l) z))
  one_more x y i q (ok v e) h = rw (q v e (s.more m i v e h))
  one_more x y i q (no k l) h = refl

  -- of more values than the map has bytes left, the same one is refused, however many there are to be
  too_many : (n k i : ℕ) → length m < i + suc n → length m < i + suc k → many p (suc n) m i ≡ many p (suc k) m i
  too_many zero k i a b = none-there _ _ i (omega arith) (p m i) refl
  too_many (suc n) zero i a b = none-there _ _ i (omega arith) (p m i) refl
  too_many (suc n) (suc k) i a b = one_more (many p (suc n) m) (many p (suc k) m) i (λ v e h. too_many n k e (omega arith) (omega arith)) (p m i) refl

  -- a count that was cut, read behind the map's start
  pub many-cut : (n i : ℕ) → length m < 2 ^ 64 → (0 < n → 0 < i) → many p (cut n) m i ≡ many p n m i
  many-cut n i f h = go (ltb n (2 ^ 64)) refl
    where
      most : (k n : ℕ) → k ≡ 2 ^ 64 - 1 → 2 ^ 64 ≤ n → 0 < i → many p k m i ≡ many p n m i
      most zero n e q b = absurd (omega arith)
      most (suc k) zero e q b = absurd (omega arith)
      most (suc k) (suc n) e q b = too_many k n i (omega arith) (omega arith)

      go : (b : Bool) → ltb n (2 ^ 64) ≡ b → many p (cut n) m i ≡ many p n m i
      go true e = ap (λ k. many p k m i) (cut_fits n (ltb-true n (2 ^ 64) e))
      go false e = let q = ltb-false n (2 ^ 64) e in most (cut n) n (cut-over n (omega arith)) q (h (omega arith))
