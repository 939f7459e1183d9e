-- The intervals in the array's front, by number and by zoom.
use Prim.Native.Nat.{ℕ, zero, suc, ◌+◌, ◌≤◌, ◌<◌}
use native.Mathlib.Omega.{arith}
use mathlib.Core.Path.{◌≡◌, refl}
use mathlib.Core.Bool.{Bool, true, false, cond}
use mathlib.Core.List.{List, [], ◌∷◌}
use mathlib.Core.List.{map as mapped}
use lib.ListN.{length, get_or, take, length-map}
use borrow.Author.Rules.{rules}
use Rattle.std.specs.Prelude.{Option, Some}
use Rattle.std.specs.List.{position_from}
use Rattle.parsing.specs.Parse.{Maybe, none, some, nth}
use Rattle.format.specs.Index.{holds_zoom, sub_file_from}
use Rattle.types.specs.Types.{interval_of}
use Rattle.types.specs.declared.ZoomInterval.{ZoomInterval}
use Rattle.index.specs.Answers.{maybe}

pub file-missing : (l : List ZoomInterval) (n k : ℕ) → n ≤ k → none ≡ nth (mapped interval_of (take n l)) k
file-missing l zero k h = refl
file-missing [] (suc n) k h = refl
file-missing (z ∷ l) (suc n) zero h = absurd (omega arith)
file-missing (z ∷ l) (suc n) (suc k) h = file-missing l n k (omega arith)

pub file-at : (l : List ZoomInterval) (n k : ℕ) (d : ZoomInterval) → k < n → n ≤ length l → some (interval_of (get_or l k d)) ≡ nth (mapped interval_of (take n l)) k
file-at l zero k d h b = absurd (omega arith)
file-at [] (suc n) k d h b = absurd (omega arith)
file-at (z ∷ l) (suc n) zero d h b = refl
file-at (z ∷ l) (suc n) (suc k) d h b = file-at l n k d (omega arith) (omega arith)

-- a byte counts no more than the 255 elements; their number is known of them as the code holds them
pub counted-in : {B : Type 0} (f : ZoomInterval → B) (l : List ZoomInterval) (n : ℕ) → length (mapped f l) ≡ 255 → n < 256 → n ≤ length l
counted-in f l n e b = omega (arith, length-map l f)

-- the first interval that holds the zoom, of those from number i on
pub file-from : (l : List ZoomInterval) (zoom i : ℕ) → maybe (position_from (λ z. holds_zoom (interval_of z) zoom) i l) ≡ sub_file_from i (mapped interval_of l) zoom
file-from [] zoom i = refl
file-from (z ∷ l) zoom i = by (holds_zoom (interval_of z) zoom) _ _ (file-from l zoom (i + 1))
  where
    by : (b : Bool) (o : Option ℕ) (m : Maybe ℕ) → maybe o ≡ m → maybe (cond b (Some i) o) ≡ cond b (some i) m
    by true o m e = refl
    by false o m e = e

pub ruleset files = (rules, file-missing, file-at, counted-in)
