-- Document 01, utils.rs; format document, "Technical Notes": numbers of variable length are groups of 7 bits, lowest first, with
-- the top bit set on all but the last byte, at most 9 bytes. A text is a length, at most 2 ^ 20, then its bytes.
use Rattle.std.specs.Prelude.{ℕ, zero, suc, ◌+◌, ◌*◌, ◌/◌, ◌%◌, ◌^◌, Bool, true, cond, ◌&&◌, List, [], ◌∷◌, ℤ, pos, neg_ℤ, ◌==◌, nat_le, nat_lt, unsigned_abs}
use Rattle.parsing.specs.Parse.{Parser, ◌>>=◌, return, fail, pick, byte, Part, part}
use Rattle.parsing.specs.Good.{Good, Strict}
use Rattle.parsing.proofs.GoodLaws.{goods, stricts, byte-good, byte-strict}

-- the data, the sign, and the weight of the last byte's data: 128 for each byte before it
pub record Groups : Type 0 where
  pub magnitude : ℕ
  pub sign : ℕ
  pub weight : ℕ

-- what was read, and whether every number of it was plain (request 6 of document 02)
pub record Noted (A : Type 0) : Type 0 where
  pub value : A
  pub plain : Bool

abbrev pub noted : {A : Type 0} → A → Bool → Noted A
noted a p = record { value = a; plain = p }

-- of several reads
abbrev pub values_of : {A : Type 0} → List (Noted A) → List A
values_of [] = []
values_of (a ∷ l) = a.value ∷ values_of l

abbrev pub all_plain : {A : Type 0} → List (Noted A) → Bool
all_plain [] = true
all_plain (a ∷ l) = a.plain && all_plain l

-- a group of 7 bits below what the later bytes say
abbrev pub below : ℕ → Groups → Groups
below b g = record { magnitude = b % 128 + 128 * g.magnitude; sign = g.sign; weight = 128 * g.weight }

-- the last byte: its data is the remainder by m, its sign the quotient
abbrev pub last_group : ℕ → ℕ → Groups
last_group m b = record { magnitude = b % m; sign = b / m; weight = 1 }

-- at most k bytes
unfoldable pub groups : ℕ → ℕ → Parser Groups
groups m zero = fail 11 []
groups m (suc k) = do
  b ← byte
  pick (nat_lt b 128) (return (last_group m b)) (do
    g ← groups m k
    return (below b g))

abbrev pub signed_of : ℕ → ℕ → ℤ
signed_of m s = cond (s == 0) (pos m) (neg_ℤ (pos m))

-- No shorter encoding gives the same value: the weight of n bytes is 128 ^ (n - 1), and n - 1 bytes hold any number below it, with a sign
-- below half of it. Minus zero (40) is not plain.
abbrev pub plain_unsigned : (magnitude weight : ℕ) → Bool
plain_unsigned v w = cond (w == 1) true (nat_le w v)

abbrev pub plain_signed : (magnitude sign weight : ℕ) → Bool
plain_signed v s w = cond (w == 1) (cond (v == 0) (s == 0) true) (nat_le w (2 * v))

unfoldable pub noted_unsigned : Parser (Noted ℕ)
noted_unsigned = do
  g ← groups 128 9
  return (noted g.magnitude (plain_unsigned g.magnitude g.weight))

unfoldable pub noted_signed : Parser (Noted ℤ)
noted_signed = do
  g ← groups 64 9
  return (noted (signed_of g.magnitude g.sign) (plain_signed g.magnitude g.sign g.weight))

-- microdegrees: a signed number of magnitude 2 ^ 53 at most
unfoldable pub noted_coordinate : Parser (Noted ℤ)
noted_coordinate = do
  v ← noted_signed
  pick (nat_le (unsigned_abs v.value) (2 ^ 53)) (return v) (fail 12 [])

-- a text, and whether its length was plain
unfoldable pub noted_text : Parser (Noted Part)
noted_text = do
  n ← noted_unsigned
  pick (nat_le n.value (2 ^ 20)) (do
    t ← part n.value
    return (noted t n.plain)) (fail 9 [])

-- the values alone
unfoldable pub unsigned : Parser ℕ
unsigned = do
  n ← noted_unsigned
  return n.value

unfoldable pub signed : Parser ℤ
signed = do
  v ← noted_signed
  return v.value

unfoldable pub coordinate : Parser ℤ
coordinate = do
  v ← noted_coordinate
  return v.value

unfoldable pub text : Parser Part
text = do
  t ← noted_text
  return t.value

-- the laws
pub groups-good : (m k : ℕ) → Good (groups m k)
unfolding groups
groups-good m zero = search goods
groups-good m (suc k) = let ih = groups-good m k in search goods

pub noted_unsigned-good : Good noted_unsigned
unfolding noted_unsigned
noted_unsigned-good = search (goods, groups-good)

pub noted_signed-good : Good noted_signed
unfolding noted_signed
noted_signed-good = search (goods, groups-good)

pub noted_coordinate-good : Good noted_coordinate
unfolding noted_coordinate
noted_coordinate-good = search (goods, noted_signed-good)

pub noted_text-good : Good noted_text
unfolding noted_text
noted_text-good = search (goods, noted_unsigned-good) depth 12

pub unsigned-good : Good unsigned
unfolding unsigned
unsigned-good = search (goods, noted_unsigned-good)

pub signed-good : Good signed
unfolding signed
signed-good = search (goods, noted_signed-good)

pub coordinate-good : Good coordinate
unfolding coordinate
coordinate-good = search (goods, noted_coordinate-good)

pub text-good : Good text
unfolding text
text-good = search (goods, noted_text-good)

pub groups-strict : (m k : ℕ) → Strict (groups m k)
unfolding groups
groups-strict m zero = search stricts
groups-strict m (suc k) = let ih = groups-good m k in search stricts

pub noted_unsigned-strict : Strict noted_unsigned
unfolding noted_unsigned
noted_unsigned-strict = search (stricts, groups-strict)

pub noted_signed-strict : Strict noted_signed
unfolding noted_signed
noted_signed-strict = search (stricts, groups-strict)

pub noted_coordinate-strict : Strict noted_coordinate
unfolding noted_coordinate
noted_coordinate-strict = search (stricts, noted_signed-strict)

pub noted_text-strict : Strict noted_text
unfolding noted_text
noted_text-strict = search (stricts, noted_unsigned-strict) depth 12

pub unsigned-strict : Strict unsigned
unfolding unsigned
unsigned-strict = search (stricts, noted_unsigned-strict)

pub signed-strict : Strict signed
unfolding signed
signed-strict = search (stricts, noted_signed-strict)

pub coordinate-strict : Strict coordinate
unfolding coordinate
coordinate-strict = search (stricts, noted_coordinate-strict)

pub text-strict : Strict text
unfolding text
text-strict = search (stricts, noted_text-strict)

pub ruleset numbers = (goods, unsigned-good, signed-good, coordinate-good, text-good, noted_unsigned-good, noted_signed-good, noted_coordinate-good, noted_text-good)

pub ruleset numbers-strict = (stricts, numbers, unsigned-strict, signed-strict, coordinate-strict, text-strict, noted_unsigned-strict, noted_signed-strict, noted_coordinate-strict, noted_text-strict)
