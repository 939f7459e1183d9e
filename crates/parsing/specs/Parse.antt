-- What a read gives, and parsers over a map's bytes. Every definition of the format is a `do` block over these.
-- "Answers other than a result" of document 01: a refusal is its number in the table, with its values.
use Rattle.std.specs.Prelude.{Bool, true, false, cond, List, [], ◌∷◌, ◌++◌, ℕ, zero, suc, ◌+◌, leb, ltb, eqb, length, get_or, take, drop}

infixl 1 ◌>>=◌
-- a value with the place behind what was read, or a refusal's number with its values
pub data Res (A : Type 0) : Type 0 where
  ok : A → ℕ → Res A
  no : ℕ → List ℕ → Res A

-- from the map's bytes and the place where the read starts; places are whole numbers and never wrap
abbrev pub Parser : Type 0 → Type 0
Parser A = List ℕ → ℕ → Res A

-- the next read starts where the last one ended; a refusal is handed up
abbrev pub and_then : {A B : Type 0} → Res A → (A → ℕ → Res B) → Res B
and_then (ok a e) k = k a e
and_then (no n v) k = no n v

-- the value put through f
abbrev pub map_res : {A B : Type 0} → (A → B) → Res A → Res B
map_res f r = and_then r (λ a e. ok (f a) e)

-- the place behind what was read, without the value
abbrev pub passed : {A : Type 0} → Res A → Res Unit
passed r = map_res (λ _. tt) r

abbrev pub bind : {A B : Type 0} → Parser A → (A → Parser B) → Parser B
bind p f m i = and_then (p m i) (λ a e. f a m e)

-- for `do` blocks
abbrev pub ◌>>=◌ : {A B : Type 0} → Parser A → (A → Parser B) → Parser B
◌>>=◌ p f = bind p f

-- nothing is read
abbrev pub return : {A : Type 0} → A → Parser A
return a m i = ok a i

abbrev pub fail : {A : Type 0} → ℕ → List ℕ → Parser A
fail n v m i = no n v

-- one of two parsers, by a test
abbrev pub pick : {A : Type 0} → Bool → Parser A → Parser A → Parser A
pick c p q m i = cond c (p m i) (q m i)

-- n values, one behind the other
abbrev pub many : {A : Type 0} → Parser A → ℕ → Parser (List A)
many p zero = return []
many p (suc n) = bind p (λ a. bind (many p n) (λ l. return (a ∷ l)))

-- the place itself
abbrev pub here : Parser ℕ
here m i = ok i i

-- the next read starts at a given place; seeking always succeeds, also past the end
abbrev pub seek : {A : Type 0} → ℕ → Parser A → Parser A
seek to p m i = p m to

-- one byte, or refusal 1 at the end of the map
abbrev pub byte : Parser ℕ
byte m i = cond (ltb i (length m)) (ok (get_or m i 0) (i + 1)) (no 1 [])

-- n bytes at once; a read of 0 bytes succeeds anywhere
abbrev pub chunk : ℕ → Parser (List ℕ)
chunk zero m i = ok [] i
chunk (suc n) m i = cond (leb (i + suc n) (length m)) (ok (take (suc n) (drop i m)) (i + suc n)) (no 1 [])

-- a result, but that a map that ends too early is refused by number n with the value w
abbrev pub renumbered : {A : Type 0} → (n w : ℕ) → Res A → Res A
renumbered n w (ok a e) = ok a e
renumbered n w (no k v) = cond (eqb k 1) (no n (w ∷ [])) (no k v)

-- the same parser, but that a map that ends too early is refused by number n, with a value that the map and the read's place give
abbrev pub instead : {A : Type 0} → (n : ℕ) → (List ℕ → ℕ → ℕ) → Parser A → Parser A
instead n w p m i = renumbered n (w m i) (p m i)

-- a part of the map: where it starts, how long it is, and its bytes
pub record Part : Type 0 where
  pub start : ℕ
  pub size : ℕ
  pub bytes : List ℕ

-- the next n bytes as a part of the map
unfoldable pub part : ℕ → Parser Part
part n = do
  i ← here
  b ← chunk n
  return (record { start = i; size = n; bytes = b })

-- a value that a flag announces, or none
pub data Maybe (A : Type 0) : Type 0 where
  none : Maybe A
  some : A → Maybe A

-- entry k of a list, counted from 0
abbrev pub nth : {A : Type 0} → List A → ℕ → Maybe A
nth [] k = none
nth (a ∷ l) zero = some a
nth (a ∷ l) (suc k) = nth l k

unfoldable pub optional : {A : Type 0} → Bool → Parser A → Parser (Maybe A)
optional true p = do
  a ← p
  return (some a)
optional false p = return none

-- of a result that is known to be no refusal
abbrev pub Fine : {A : Type 0} → Res A → Type 0
Fine (ok a e) = Unit {0}
Fine (no n v) = ⊥

abbrev pub end_of : {A : Type 0} → Res A → ℕ
end_of (ok a e) = e
end_of (no n v) = 0

abbrev pub list_of : {A : Type 0} → Res (List A) → List A
list_of (ok a e) = a
list_of (no n v) = []
