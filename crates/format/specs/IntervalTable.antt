-- Zoom intervals by where they stand, from the format document, "File header" ("zoom interval configuration"): rows of 19 bytes, the last
-- thing in the header. A row that the map does not have is refused when it is reached.
use Rattle.std.specs.Prelude.{ℕ, zero, suc, ◌+◌, ◌*◌, ◌-◌, cond, List, ltb}
use Rattle.parsing.specs.Parse.{Res, ok, and_then, Maybe, none, some}
use Rattle.format.specs.Header.{Interval, interval, signature}
use Rattle.format.specs.Index.{answer, holds_zoom}

-- where so many rows start that end here
abbrev pub start_before : (end count : ℕ) → ℕ
start_before end count = end - 19 * count

-- row k of so many rows; none behind the last
unfoldable pub row_at : (start count k : ℕ) → List ℕ → Res (Maybe Interval)
row_at start count k m = cond (ltb k count) (and_then (interval m (start + 19 * k)) (λ z _. answer (some z))) (answer none)

-- the first row from here on whose interval holds the zoom; k is this row's number, n how many are left
unfoldable pub row_holding : (zoom k n : ℕ) → List ℕ → (at : ℕ) → Res (Maybe ℕ)
row_holding zoom k zero m at = answer none
row_holding zoom k (suc n) m at =
    and_then (interval m at) (λ z e. cond (holds_zoom z zoom) (answer (some k)) (row_holding zoom (k + 1) n m e))

-- the signature of each row's sub file, as `signatures` has them
unfoldable pub rows_signed : (n : ℕ) → List ℕ → (at : ℕ) → Res Unit
rows_signed zero m at = ok tt 0
rows_signed (suc n) m at = and_then (interval m at) (λ z e. and_then (signature m z.start) (λ _ _. rows_signed n m e))
