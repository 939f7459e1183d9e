-- Entries of a list by their number.
use Prim.Native.Nat.{ℕ, zero, suc, ◌≤◌}
use native.Mathlib.Omega.{arith}
use mathlib.Core.Path.{◌≡◌, refl}
use mathlib.Core.List.{List, [], ◌∷◌}
use lib.ListN.{length}
use Rattle.parsing.specs.Parse.{none, nth}

pub nth_past : {A : Type 0} (l : List A) (k : ℕ) → length l ≤ k → nth l k ≡ none
nth_past [] k h = refl
nth_past (a ∷ l) zero h = absurd (omega arith)
nth_past (a ∷ l) (suc k) h = nth_past l k (omega arith)
