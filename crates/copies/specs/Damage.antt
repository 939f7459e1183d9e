-- The damage that the runs against the Rust do to a map (compare/src has the same): three kinds for each byte, one at a time.
use Rattle.std.specs.Prelude.{ℕ, ◌+◌, ◌-◌, ◌/◌, ◌%◌, cond, List, ltb, eqb, get_or, set}

-- a byte with its lowest bit (0), its highest bit (1), or every bit turned over
unfoldable pub turned : ℕ → ℕ → ℕ
turned way b =
    cond (eqb way 0) (cond (eqb (b % 2) 0) (b + 1) (b - 1)) (cond (eqb way 1) (cond (ltb b 128) (b + 128) (b - 128)) (255 - b))

-- damage n: byte n / 3, in the way n % 3
unfoldable pub damaged : List ℕ → ℕ → List ℕ
damaged l n = set l (n / 3) (turned (n % 3) (get_or l (n / 3) 0))
