-- UTF-8 as in the Unicode Standard, chapter 3: the well-formed byte sequences of Table 3-7, and U+FFFD for each maximal subpart of
-- an ill-formed one ("U+FFFD Substitution of Maximal Subparts"). Document 01, "The stream and the collected tile": what becomes of
-- a text in the stream and in a collected tile.
use Rattle.std.specs.Prelude.{ℕ, zero, suc, ◌+◌, ◌-◌, ◌*◌, Bool, true, false, cond, List, [], ◌∷◌, ◌++◌, take, drop, nat_le, slice_index}
use Rattle.text.specs.declared.Sequence.{Sequence}
use Rattle.text.specs.declared.Sequence.TheVariants.{Char, Ill}

-- A row of Table 3-7: the first byte is from first to last, the second from low to high, and any later one from 80 to BF.
-- `more` bytes follow the first, and the first counts from `base` (Table 3-6).
pub record Row : Type 0 where
  pub first : ℕ
  pub last : ℕ
  pub base : ℕ
  pub more : ℕ
  pub low : ℕ
  pub high : ℕ

abbrev pub row : ℕ → ℕ → ℕ → ℕ → ℕ → ℕ → Row
row f l b m lo hi = record { first = f; last = l; base = b; more = m; low = lo; high = hi }

abbrev pub table : List Row
table =
    row 0x00 0x7F 0x00 0 0x80 0xBF
    ∷ row 0xC2 0xDF 0xC0 1 0x80 0xBF
    ∷ row 0xE0 0xE0 0xE0 2 0xA0 0xBF
    ∷ row 0xE1 0xEC 0xE0 2 0x80 0xBF
    ∷ row 0xED 0xED 0xE0 2 0x80 0x9F
    ∷ row 0xEE 0xEF 0xE0 2 0x80 0xBF
    ∷ row 0xF0 0xF0 0xF0 3 0x90 0xBF
    ∷ row 0xF1 0xF3 0xF0 3 0x80 0xBF
    ∷ row 0xF4 0xF4 0xF0 3 0x80 0x8F
    ∷ []

abbrev pub within : ℕ → ℕ → ℕ → Bool
within low high b = cond (nat_le low b) (nat_le b high) false

-- what n bytes that gave c become with k bytes more, the first of them from low to high: a character, or an ill-formed sequence
-- that ends before the first byte that no well-formed one has there
unfoldable pub follow : ℕ → ℕ → ℕ → ℕ → ℕ → List ℕ → Sequence
follow zero low high c n s = Char c n
follow (suc k) low high c n [] = Ill n
follow (suc k) low high c n (b ∷ s) =
    cond (within low high b) (follow k 0x80 0xBF (64 * c + (b - 0x80)) (n + 1) s) (Ill n)

-- the sequence that starts with b, by the row for b; a byte in no row is ill-formed by itself
unfoldable pub sequence_by : List Row → ℕ → List ℕ → Sequence
sequence_by [] b s = Ill 1
sequence_by (r ∷ rs) b s =
    cond (within r.first r.last b) (follow r.more r.low r.high (b - r.base) 1 s) (sequence_by rs b s)

abbrev pub sequence : ℕ → List ℕ → Sequence
sequence b s = sequence_by table b s

-- the sequence that starts at a place of a text
unfoldable pub sequence_at : List ℕ → ℕ → Sequence
sequence_at s at = sequence (slice_index s at) (drop (at + 1) s)

-- a sequence's number of bytes
abbrev pub size_of : Sequence → ℕ
size_of (Char c n) = n
size_of (Ill n) = n

-- the sequences of a text, one behind the other, after the first k bytes
unfoldable pub sequences_from : ℕ → List ℕ → List Sequence
sequences_from k [] = []
sequences_from zero (b ∷ s) = sequence b s ∷ sequences_from (size_of (sequence b s) - 1) s
sequences_from (suc k) (b ∷ s) = sequences_from k s

abbrev pub sequences : List ℕ → List Sequence
sequences s = sequences_from 0 s

-- a text is valid if each of its sequences is a character
unfoldable pub all_chars : List Sequence → Bool
all_chars [] = true
all_chars (Char c n ∷ ps) = all_chars ps
all_chars (Ill n ∷ ps) = false

abbrev pub valid : List ℕ → Bool
valid s = all_chars (sequences s)

-- U+FFFD stands for each ill-formed sequence
abbrev pub code_of : Sequence → ℕ
code_of (Char c n) = c
code_of (Ill n) = 0xFFFD

unfoldable pub codes_of : List Sequence → List ℕ
codes_of [] = []
codes_of (p ∷ ps) = code_of p ∷ codes_of ps

-- a text's characters
abbrev pub code_points : List ℕ → List ℕ
code_points s = codes_of (sequences s)

-- the bytes of a sequence at the start of the text s, or those of U+FFFD
abbrev pub sequence_bytes : Sequence → List ℕ → List ℕ
sequence_bytes (Char c n) s = take n s
sequence_bytes (Ill n) s = 0xEF ∷ 0xBF ∷ 0xBD ∷ []

-- their number
abbrev pub written_of : Sequence → ℕ
written_of (Char c n) = n
written_of (Ill n) = 3

unfoldable pub bytes_of_all : List Sequence → List ℕ → List ℕ
bytes_of_all [] s = []
bytes_of_all (p ∷ ps) s = sequence_bytes p s ++ bytes_of_all ps (drop (size_of p) s)

-- a collected text: the stored one with U+FFFD for each ill-formed sequence
abbrev pub replaced : List ℕ → List ℕ
replaced s = bytes_of_all (sequences s) s

-- a streamed text: the stored one, or nothing if it is not valid
abbrev pub streamed_text : List ℕ → List ℕ
streamed_text s = cond (valid s) s []
