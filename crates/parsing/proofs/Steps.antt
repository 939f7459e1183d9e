-- Laws that the proofs of readers cite: an answer that was received, in a definition that goes on from it.
use Prim.Native.Nat.{ℕ, zero, suc, ◌+◌, ◌-◌, ◌≤◌, ◌<◌}
use mathlib.Core.Path.{◌≡◌, refl, sym, ap, ◌∙◌}
use mathlib.Core.Bool.{Bool, true, false, cond}
use mathlib.Core.List.{List, [], ◌∷◌}
use lib.Dec.{leb, ltb, eqb}
use lib.ListN.{length, get_or, take, drop}
use native.Mathlib.Omega.{arith}
use borrow.Author.Rules.{rules}
use borrow.Author.Tests.{le-leb, lt-leb, le-ltb, lt-ltb, eq-eqb, ne_eqb}
use Rattle.parsing.specs.Parse.{Res, ok, no, and_then, byte, chunk, renumbered}

-- a read whose answer g is known to be g': what is left is the rest of the definition at g'
pub step : {A B G : Type 0} (res : G → Res A) {g g' : G} (r : Res A) (f : A → ℕ → Res B) {x : Res B} → res g ≡ r → g ≡ g' → x ≡ and_then (res g') f → x ≡ and_then r f
step res r f e h p = p ∙ ap (λ q. and_then q f) (ap res (sym h) ∙ e)

pub byte-here : (s : List ℕ) (at : ℕ) → at < length s → byte s at ≡ ok (get_or s at 0) (at + 1)
byte-here s at h = simp (lt-ltb at (length s) h)

pub byte_past : (s : List ℕ) (at : ℕ) → length s ≤ at → byte s at ≡ no 1 []
byte_past s at h = simp (le-ltb at (length s) h)

-- n bytes at once, by the tests that the code makes
module _ (s : List ℕ) (at n : ℕ) where
  pub chunk-none : n < 1 → ok [] at ≡ chunk n s at
  chunk-none h = go n h
    where
      go : (n : ℕ) → n < 1 → ok [] at ≡ chunk n s at
      go zero h = refl
      go (suc n) h = absurd (omega arith)

  fits-here : 1 ≤ n → at + n ≤ length s → ok (take n (drop at s)) (at + n) ≡ chunk n s at
  fits-here h l = go n h l
    where
      go : (n : ℕ) → 1 ≤ n → at + n ≤ length s → ok (take n (drop at s)) (at + n) ≡ chunk n s at
      go zero h l = absurd (omega arith)
      go (suc n) h l = rw (le-leb (at + suc n) (length s) l)

  pub fits_not : 1 ≤ n → length s < at + n → no 1 [] ≡ chunk n s at
  fits_not h l = go n h l
    where
      go : (n : ℕ) → 1 ≤ n → length s < at + n → no 1 [] ≡ chunk n s at
      go zero h l = absurd (omega arith)
      go (suc n) h l = rw (lt-leb (at + suc n) (length s) l)

  pub chunk-here : 1 ≤ n → at ≤ length s → n ≤ length s - at → ok (take n (drop at s)) (at + n) ≡ chunk n s at
  chunk-here h l k = fits-here h (omega arith)

  pub chunk-behind : 1 ≤ n → length s < at → no 1 [] ≡ chunk n s at
  chunk-behind h l = fits_not h (omega arith)

  pub chunk-past : 1 ≤ n → at ≤ length s → length s - at < n → no 1 [] ≡ chunk n s at
  chunk-past h l k = fits_not h (omega arith)

-- a refusal under another number is handed up
pub renumbered-no : {A B : Type 0} (n w k : ℕ) (v : List ℕ) (f : A → ℕ → Res B) → renumbered {A = B} n w (no k v) ≡ and_then (renumbered {A = A} n w (no k v)) f
renumbered-no n w k v f = go (eqb k 1)
  where
    go : (c : Bool) → cond c (no n (w ∷ [])) (no k v) ≡ and_then (cond c (no n (w ∷ [])) (no k v)) f
    go true = refl
    go false = refl

-- a definition whose value is put through another
pub then-then : {A B C : Type 0} (r : Res A) (f : A → ℕ → Res B) (g : B → ℕ → Res C) (x : Res C) → x ≡ and_then r (λ a e. and_then (f a e) g) → x ≡ and_then (and_then r f) g
then-then (ok a e) f g x h = h
then-then (no n v) f g x h = h

pub cond-then : {A B : Type 0} (c : Bool) (p q : Res A) (g : A → ℕ → Res B) (x : Res B) → x ≡ cond c (and_then p g) (and_then q g) → x ≡ and_then (cond c p q) g
cond-then true p q g x h = h
cond-then false p q g x h = h

-- a test in a definition
module _ {A : Type 0} (x p q : A) (a b : ℕ) where
  pub leb_yes : a ≤ b → x ≡ p → x ≡ cond (leb a b) p q
  leb_yes h e = rw (le-leb a b h) e

  pub leb_no : b < a → x ≡ q → x ≡ cond (leb a b) p q
  leb_no h e = rw (lt-leb a b h) e

  pub ltb_yes : a < b → x ≡ p → x ≡ cond (ltb a b) p q
  ltb_yes h e = rw (lt-ltb a b h) e

  pub ltb_no : b ≤ a → x ≡ q → x ≡ cond (ltb a b) p q
  ltb_no h e = rw (le-ltb a b h) e

  pub eqb_yes : a ≡ b → x ≡ p → x ≡ cond (eqb a b) p q
  eqb_yes h e = rw (eq-eqb a b h) e

  pub eqb_no : (a ≡ b → ⊥) → x ≡ q → x ≡ cond (eqb a b) p q
  eqb_no h e = rw (ne_eqb a b h) e

pub ruleset tests = (leb_yes, leb_no, ltb_yes, ltb_no, eqb_yes, eqb_no)

pub ruleset reads = (rules, tests, chunk-none, chunk-here, chunk-behind, chunk-past, then-then, cond-then)
