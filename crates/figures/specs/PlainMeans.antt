-- Request 6 of document 02: what "plain" says of a number. A number is plain exactly if no shorter encoding gives the same value and it is
-- not minus zero (the one byte 40).
use Rattle.std.specs.Prelude.{ℕ, ◌+◌, ◌-◌, ◌<◌, ◌≤◌, ◌≡◌, true, false, List, ◌⊎◌, ℤ, get_or}
use Rattle.parsing.specs.Parse.{Parser, ok}
use Rattle.utils.specs.Vbe.{Noted, noted_unsigned, noted_signed}

-- whatever is read as v, anywhere, has so many bytes at least
abbrev pub NoneShorter : {A : Type 0} → Parser (Noted A) → A → ℕ → Type 0
NoneShorter {A} p v size = (t : List ℕ) (j : ℕ) (k : Noted A) (x : ℕ) → p t j ≡ ok k x → k.value ≡ v → size ≤ x - j

-- bytes of which v is read, and fewer of them
pub record Shorter {A : Type 0} (p : Parser (Noted A)) (v : A) (size : ℕ) : Type 0 where
  pub shorter : List ℕ
  pub bytes : (j : ℕ) → get_or shorter j 0 < 256
  pub from : ℕ
  pub other : Noted A
  pub behind : ℕ
  pub reads : p shorter from ≡ ok other behind
  pub same : other.value ≡ v
  pub fewer : behind - from < size

-- from i up to e stands the one byte 40
pub record MinusZero (s : List ℕ) (i e : ℕ) : Type 0 where
  pub one : e ≡ i + 1
  pub forty : get_or s i 0 ≡ 0x40

-- of a number that was read from i up to e
pub record UnsignedPlain (i : ℕ) (n : Noted ℕ) (e : ℕ) : Type 0 where
  pub if-plain : n.plain ≡ true → NoneShorter noted_unsigned n.value (e - i)
  pub if-not : n.plain ≡ false → Shorter noted_unsigned n.value (e - i)

pub record SignedPlain (s : List ℕ) (i : ℕ) (n : Noted ℤ) (e : ℕ) : Type 0 where
  pub if-plain : n.plain ≡ true → NoneShorter noted_signed n.value (e - i) × (MinusZero s i e → ⊥)
  pub if-not : n.plain ≡ false → Shorter noted_signed n.value (e - i) ⊎ MinusZero s i e

pub record PlainMeans : Type 0 where
  pub of-unsigned : (s : List ℕ) (i : ℕ) (n : Noted ℕ) (e : ℕ) → noted_unsigned s i ≡ ok n e → UnsignedPlain i n e
  pub of-signed : (s : List ℕ) (i : ℕ) (n : Noted ℤ) (e : ℕ) → noted_signed s i ≡ ok n e → SignedPlain s i n e
