-- The numbers of a question (compare/src writes the questions): big-endian, and 0 where the question ends too early.
use Rattle.std.specs.Prelude.{ℕ, List, ℤ, pos}
use Rattle.parsing.specs.Parse.{Res, ok, no, byte}
use Rattle.byte_source.specs.BigEndian.{big_endian, int32}

abbrev pub value_or : {A : Type 0} → A → Res A → A
value_or d (ok v n) = v
value_or d (no k l) = d

unfoldable pub byte_at : List ℕ → ℕ → ℕ
byte_at q at = value_or 0 (byte q at)

-- of k bytes
unfoldable pub number_at : ℕ → List ℕ → ℕ → ℕ
number_at k q at = value_or 0 (big_endian k q at)

unfoldable pub int_at : List ℕ → ℕ → ℤ
int_at q at = value_or (pos 0) (int32 q at)
