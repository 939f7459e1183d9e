-- Document 01, utils.rs: signed numbers. Those of at most 3 bytes are coordinates, whatever they hold, and are passed over without
-- decoding them.
use Rattle.std.specs.Prelude.{ℕ, ◌+◌, ◌-◌, ◌*◌, ◌/◌, ◌%◌, ◌≤◌, ◌≡◌, Bool, true, cond, ◌&&◌, ◌||◌, List, ltb, leb, eqb, ℤ, length, get_or, Option, Some, None}
use Rattle.parsing.specs.Parse.{Res, ok, no, Parser, ◌>>=◌, return, map_res, many}
use Rattle.utils.specs.Vbe.{Noted, noted, all_plain, groups, signed_of, plain_signed}

-- a signed number of at most 3 bytes
unfoldable pub short : Parser (Noted ℤ)
short = do
  g ← groups 64 3
  return (noted (signed_of g.magnitude g.sign) (plain_signed g.magnitude g.sign g.weight))

-- n of them: whether all were plain, and where they end
abbrev pub skip_all : Res (List (Noted ℤ)) → Option (Bool × ℕ)
skip_all (ok l e) = Some (all_plain l, e)
skip_all (no n v) = None

-- where the map has bytes for n of the longest
abbrev pub skip_of : List ℕ → (at n : ℕ) → Option (Bool × ℕ)
skip_of m at n = cond (leb (at + 3 * n) (length m)) (skip_all (many short n m at)) None

-- Of private functions, which need not be believed: one number
abbrev pub skip_one : Res (Noted ℤ) → Option (Bool × ℕ)
skip_one (ok v e) = Some (v.plain, e)
skip_one (no n v) = None

-- and by the last two bytes of a longer one, whether it was plain
abbrev pub plain_end : (before last : ℕ) → Bool
plain_end before last = cond (eqb (last % 64) 0) (leb 192 before) true

-- whether b, behind the byte before, ends a number that is not plain: 64 alone, and 0 or 64 behind 128 to 191
abbrev pub not_plain : (before b : ℕ) → Bool
not_plain before b = ltb before 192 && (eqb b 64 || (eqb b 0 && leb 128 before))

-- whether b is the third byte of a number, and does not end it
abbrev pub not_short : (second before b : ℕ) → Bool
not_short second before b = (leb 128 second && leb 128 before) && leb 128 b

abbrev pub is_off : (second before b : ℕ) → Bool
is_off second before b = not_plain before b || not_short second before b

abbrev pub off_at : List ℕ → (i j k : ℕ) → Bool
off_at s i j k = is_off (get_or s i 0) (get_or s j 0) (get_or s k 0)

-- whether one of eight bytes behind two is off
abbrev pub any_off : List ℕ → ℕ → Bool
any_off s i = ((((((off_at s i (i + 1) (i + 2) || off_at s (i + 1) (i + 2) (i + 3)) || off_at s (i + 2) (i + 3) (i + 4)) || off_at s (i + 3) (i + 4) (i + 5)) || off_at s (i + 4) (i + 5) (i + 6)) || off_at s (i + 5) (i + 6) (i + 7)) || off_at s (i + 6) (i + 7) (i + 8)) || off_at s (i + 7) (i + 8) (i + 9)

-- how many of them end no number
abbrev pub open_in : List ℕ → ℕ → ℕ
open_in s i = get_or s (i + 2) 0 / 128 + get_or s (i + 3) 0 / 128 + get_or s (i + 4) 0 / 128 + get_or s (i + 5) 0 / 128 + get_or s (i + 6) 0 / 128 + get_or s (i + 7) 0 / 128 + get_or s (i + 8) 0 / 128 + get_or s (i + 9) 0 / 128

-- where the number starts that goes on behind two bytes
abbrev pub start_of : List ℕ → ℕ → ℕ
start_of s i = cond (ltb (get_or s (i + 1) 0) 128) (i + 2) (cond (ltb (get_or s i 0) 128) (i + 1) i)

-- all but `left` of n numbers, which start at next, are passed; they are plain
abbrev pub PassedTo : List ℕ → (at n next left : ℕ) → Type 0
PassedTo s at n next left = ((left ≤ n) × (next + 3 * left ≤ length s)) × (map_res all_plain (many short (n - left) s at) ≡ ok true next)
