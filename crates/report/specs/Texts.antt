-- The digest of a text as it is collected (document 01: U+FFFD for each ill-formed sequence), by way of a buffer.
use Rattle.std.specs.Prelude.{ℕ, cond, List, length, replicate, nat_le}
use Rattle.text.specs.Utf8.{replaced}
use Rattle.report.specs.Words.{mixed_all}

-- the bytes of the long buffer
abbrev pub room : ℕ
room = 1100000

-- opened in no proof of a caller: a list this long cannot be written out
unfoldable pub zeros : ℕ → List ℕ
zeros n = replicate n 0

-- 0 if the buffer has not the room
unfoldable pub mixed_replaced : ℕ → List ℕ → ℕ → ℕ
mixed_replaced h s room = cond (nat_le (length (replaced s)) room) (mixed_all h (replaced s)) 0
