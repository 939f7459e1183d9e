-- A map that ends in an index entry (19) or in a tile's head (20), each with the place where the missing read began: request 2 of document
-- 02. 2 ^ 64 - 1 stands for any larger place.
use Rattle.std.specs.Prelude.{ℕ, ◌+◌, ◌≤◌, ◌<◌, max, ◌≡◌, List, [], length, get_or}
use Rattle.parsing.specs.Parse.{ok, no, Parser, byte, instead}
use Rattle.arithmetic.specs.Cut.{cut}

-- several bytes that are read at once
abbrev pub where_read : List ℕ → ℕ → ℕ
where_read m i = cut i

-- a number is read byte by byte: the missing byte is the first behind the map, or the first of all where the read starts behind it
abbrev pub where_byte : List ℕ → ℕ → ℕ
where_byte m i = cut (max i (length m))

abbrev pub of_index : {A : Type 0} → Parser A → Parser A
of_index p = instead 19 where_read p

abbrev pub of_head : {A : Type 0} → (List ℕ → ℕ → ℕ) → Parser A → Parser A
of_head at p = instead 20 at p

-- w is the first byte from i on that is missing: a read of a byte fails there, and succeeds at each place before
pub record FirstMissing (m : List ℕ) (i w : ℕ) : Type 0 where
  pub from : i ≤ w
  pub fails : byte m w ≡ no 1 []
  pub before : (j : ℕ) → i ≤ j → j < w → byte m j ≡ ok (get_or m j 0) (j + 1)
