-- Laws of copies and of damage, for `search`.
use Prim.Native.Nat.{ℕ, zero, suc, ◌≤◌, min}
use native.Mathlib.Omega.{arith}
use mathlib.Core.Path.{◌≡◌, refl, sym, ap, ◌∙◌}
use mathlib.Core.List.{List, [], ◌∷◌, ◌++◌}
use lib.ListN.{length, take, drop, set}
use lib.Seq.{sets}

-- a store behind the list changes nothing
pub set_past : (l : List ℕ) (i a : ℕ) → length l ≤ i → set l i a ≡ l
set_past [] i a h = refl
set_past (x ∷ l) zero a h = absurd (omega arith)
set_past (x ∷ l) (suc i) a h = ap (λ (r : List ℕ). x ∷ r) (set_past l i a (omega arith))

sets-past : (s l : List ℕ) (i : ℕ) → length l ≤ i → sets l i s ≡ l
sets-past [] l i h = refl
sets-past (x ∷ s) l i h = rw (set_past l i x h) (sets-past s l (suc i) (omega arith))

-- as many stores as the list is long
sets-behind : (s l : List ℕ) (i x : ℕ) → sets (x ∷ l) (suc i) s ≡ x ∷ sets l i s
sets-behind [] l i x = refl
sets-behind (a ∷ s) l i x = sets-behind s (set l i a) (suc i) x

pub front_is : (l s : List ℕ) (n : ℕ) → n ≡ min (length l) (length s) → take n s ++ drop n l ≡ sets l 0 s
front_is [] s n h = let z : n ≡ 0 = omega arith in rw z (sym (sets-past s [] 0 (omega arith)))
front_is (x ∷ l) [] n h = let z : n ≡ 0 = omega arith in rw z
front_is (x ∷ l) (a ∷ s) zero h = absurd (omega arith)
front_is (x ∷ l) (a ∷ s) (suc n) h = ap (λ (t : List ℕ). a ∷ t) (front_is l s n (omega arith)) ∙ sym (sets-behind s l 0 a)
