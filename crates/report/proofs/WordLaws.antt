-- Laws of words and digests.
use Rattle.std.proofs.Common.{◌≡◌, ℕ, ◌+◌, ◌-◌, ◌%◌, ◌<◌, ◌≤◌, Bool, true, false, not, ◌&&◌, ◌*◌, List, get_or, set, refl, ap, ◌∙◌, add-one, rules, le-ltb, lt-ltb, eq-eqb}
use lib.Ieee.{Float, nan, inf, fin, up, down, binary64, ne, eq, is_nan, nan_bits}
use lib.Ieee.Bits.{nan_bits_above}
use Rattle.report.specs.Words.{pushed, mixed, mixed_upto}
use Rattle.report.specs.declared.Words.{Words}

pub push-full : (w : Words) (x : ℕ) → 40 ≤ w.count → w ≡ pushed w x
unfolding pushed
push-full w x h = rw (le-ltb w.count 40 h)

pub push-more : (w : Words) (x : ℕ) → w.count < 40 → record { words = set w.words w.count x; count = w.count + 1 } ≡ pushed w x
unfolding pushed
push-more w x h = rw (lt-ltb w.count 40 h)

pub mix-none : (l : List ℕ) (d h : ℕ) → h ≡ d → h ≡ mixed_upto d l 0
unfolding mixed_upto
mix-none l d h e = e

module _ (l : List ℕ) (i d h : ℕ) (e : h ≡ mixed_upto d l i) where
  pub mix-more : (y : ℕ) → y ≡ mixed h (get_or l i 0) → y ≡ mixed_upto d l (i + 1)
  unfolding mixed_upto
  mix-more y q = rw (add-one i) (q ∙ ap (λ x. mixed x (get_or l i 0)) e)

-- a float differs from itself exactly if it is a NaN
pub differs : (x : Float) → ne x x ≡ is_nan x
unfolding ne eq is_nan
differs nan = refl
differs (inf true) = refl
differs (inf false) = refl
differs (fin true m e) = ap (λ (b : Bool). not (b && true)) (eq-eqb (m * up e * down e) _ refl)
differs (fin false m e) = ap (λ (b : Bool). not (b && true)) (eq-eqb (m * up e * down e) _ refl)

-- patterns of floats
pub pattern-nan : (n : ℕ) → 9218868437227405312 < n % 9223372036854775808 → nan_bits binary64 n ≡ true
pattern-nan n h = nan_bits_above binary64 n ∙ lt-ltb 9218868437227405312 (n % 9223372036854775808) h

pub pattern_number : (n : ℕ) → n % 9223372036854775808 ≤ 9218868437227405312 → nan_bits binary64 n ≡ false
pattern_number n h = nan_bits_above binary64 n ∙ le-ltb 9218868437227405312 (n % 9223372036854775808) h

-- words pushed and mixed one behind the other, for the callers' proofs
pub pushed-next : (w w' r : Words) (x x' : ℕ) → r ≡ pushed w x → w ≡ w' → x ≡ x' → r ≡ pushed w' x'
pushed-next w w' r x x' e d q = e ∙ ap (λ v. pushed v x) d ∙ ap (pushed w') q

pub mixed-next : (h h' r x x' : ℕ) → r ≡ mixed h x → h ≡ h' → x ≡ x' → r ≡ mixed h' x'
mixed-next h h' r x x' e d q = e ∙ ap (λ v. mixed v x) d ∙ ap (mixed h') q

pub ruleset chains = (rules, pushed-next, mixed-next)

pub ruleset words = (rules, push-full, push-more)
