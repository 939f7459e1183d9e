-- Laws of the sequences of a text.
use Rattle.std.proofs.Common.{◌≡◌, ℕ, zero, suc, ◌+◌, ◌-◌, ◌*◌, ◌^◌, ◌<◌, ◌≤◌, Bool, true, false, cond, leb, List, [], ◌∷◌, length, get_or, drop, sym, refl, ap, ◌∙◌, lt_of_lt_of_le, add-one, sub-one, arith, lit<, length-drop, drop_of_length-le, drop-cons, drop-drop, rules, le-leb}
use native.Mathlib.Nat.{pow-succ', pow-le-pow_right, sub-zero}
use borrow.Author.Tests.{lt-leb}
use Rattle.text.specs.declared.Sequence.{Sequence}
use Rattle.text.specs.declared.Sequence.TheVariants.{Char, Ill}
use Rattle.text.specs.Utf8.{Row, table, follow, sequence_by, sequence, sequence_at, within, size_of, sequences_from, sequences, all_chars}

-- a byte of a text, and what is behind it
pub drop_here : (s : List ℕ) (at b : ℕ) → at < length s → b ≡ get_or s at 0 → drop at s ≡ b ∷ drop (at + 1) s
drop_here s at b h e = rw (add-one, e) (drop-cons s at 0 h)

-- the bytes behind the first, by the tests that the code makes
module _ (k low high c n : ℕ) where
  pub follow-none : (s : List ℕ) → k ≡ 0 → Char c n ≡ follow k low high c n s
  unfolding follow
  follow-none s e = rw e

  module _ (s : List ℕ) (at : ℕ) where
    pub follow-past : (k ≡ 0 → ⊥) → length s ≤ at → Ill n ≡ follow k low high c n (drop at s)
    unfolding follow
    follow-past h p = rw (drop_of_length-le s p) (go k h)
      where
        go : (j : ℕ) → (j ≡ 0 → ⊥) → Ill n ≡ follow j low high c n []
        go zero z = absurd (z refl)
        go (suc j) z = refl

  follow-step : (b : ℕ) (s : List ℕ) → (k ≡ 0 → ⊥) → follow k low high c n (b ∷ s) ≡ cond (within low high b) (follow (k - 1) 0x80 0xBF (64 * c + (b - 0x80)) (n + 1) s) (Ill n)
  unfolding follow
  follow-step b s h = go k h
    where
      go : (j : ℕ) → (j ≡ 0 → ⊥) → follow j low high c n (b ∷ s) ≡ cond (within low high b) (follow (j - 1) 0x80 0xBF (64 * c + (b - 0x80)) (n + 1) s) (Ill n)
      go zero z = absurd (z refl)
      go (suc j) z = simp sub-one

  module _ (s : List ℕ) (at b : ℕ) where
    pub follow-low : (k ≡ 0 → ⊥) → at < length s → b ≡ get_or s at 0 → b < low → Ill n ≡ follow k low high c n (drop at s)
    follow-low h p e q = rw (drop_here s at b p e, follow-step b (drop (at + 1) s) h, lt-leb low b q)

    pub follow-high : (k ≡ 0 → ⊥) → at < length s → b ≡ get_or s at 0 → low ≤ b → high < b → Ill n ≡ follow k low high c n (drop at s)
    follow-high h p e q r = rw (drop_here s at b p e, follow-step b (drop (at + 1) s) h, le-leb low b q, lt-leb b high r)

    pub follow-in : (x : Sequence) → (k ≡ 0 → ⊥) → at < length s → b ≡ get_or s at 0 → low ≤ b → b ≤ high → x ≡ follow (k - 1) 0x80 0xBF (64 * c + (b - 0x80)) (n + 1) (drop (at + 1) s) → x ≡ follow k low high c n (drop at s)
    follow-in x h p e q r f = rw (drop_here s at b p e, follow-step b (drop (at + 1) s) h, le-leb low b q, le-leb b high r) f

-- the number that n bytes give has 6 bits of each
pub more-bits : (c n b high : ℕ) → c < 64 ^ n → b ≤ high → high ≤ 191 → 64 * c + (b - 0x80) < 64 ^ (n + 1)
more-bits c n b high h p q = rw (add-one, pow-succ') (omega arith)

few_bits : (c n : ℕ) → c < 64 ^ n → n ≤ 4 → c < 16777216
few_bits c n h p = lt_of_lt_of_le h (pow-le-pow_right {n = 64} (lit< tt) p)

module _ (c n k : ℕ) (h : c < 64 ^ n) (p : n + k ≤ 4) where
  pub bits-mul : 64 * c < 2 ^ 32
  bits-mul = omega (arith, few_bits c n h (omega arith))

  pub bits-add : (b high : ℕ) → b ≤ high → high ≤ 191 → 64 * c + (b - 0x80) < 2 ^ 32
  bits-add b high q r = omega (arith, few_bits c n h (omega arith))

pub ruleset follows = (rules, follow-none, follow-past, follow-low, follow-high, follow-in, more-bits, bits-mul, bits-add)

-- b is behind the last byte of each of the first k rows
abbrev pub Past : ℕ → List Row → ℕ → Type 0
Past zero rs b = Unit {0}
Past (suc k) [] b = Unit {0}
Past (suc k) (r ∷ rs) b = (r.last < b) × Past k rs b

abbrev pub Before : List Row → ℕ → Type 0
Before [] b = Unit {0}
Before (r ∷ rs) b = (b < r.first) × Before rs b

cond_no : {A : Type 0} (t : Bool) (x y : A) → cond (cond t false false) x y ≡ y
cond_no true x y = refl
cond_no false x y = refl

module _ (b : ℕ) (s : List ℕ) where
  rows-past : (k : ℕ) (rs : List Row) → Past k rs b → sequence_by rs b s ≡ sequence_by (drop k rs) b s
  unfolding sequence_by
  rows-past zero rs h = refl
  rows-past (suc k) [] h = refl
  rows-past (suc k) (r ∷ rs) h = rw (lt-leb b r.last h.0) (cond_no (leb r.first b) _ _ ∙ rows-past k rs h.1)

  rows_before : (rs : List Row) → Before rs b → sequence_by rs b s ≡ Ill 1
  unfolding sequence_by
  rows_before [] h = refl
  rows_before (r ∷ rs) h = rw (lt-leb r.first b h.0) (rows_before rs h.1)

  pub row_here : (r : Row) (rs : List Row) → r.first ≤ b → b ≤ r.last → sequence_by (r ∷ rs) b s ≡ follow r.more r.low r.high (b - r.base) 1 s
  unfolding sequence_by
  row_here r rs h k = simp (le-leb r.first b h, le-leb b r.last k)

-- a byte of row k
pub sequence-in : (k : ℕ) (s : List ℕ) (at b : ℕ) (r : Row) (rs : List Row) (x : Sequence) → b ≡ get_or s at 0 → Past k table b → drop k table ≡ r ∷ rs → r.first ≤ b → b ≤ r.last → x ≡ follow r.more r.low r.high (b - r.base) 1 (drop (at + 1) s) → x ≡ sequence_at s at
unfolding sequence_at
sequence-in k s at b r rs x e h d p q f = rw (← e, rows-past b (drop (at + 1) s) k table h, d) (f ∙ sym (row_here b (drop (at + 1) s) r rs p q))

-- a byte between two rows
pub sequence-out : (k : ℕ) (s : List ℕ) (at : ℕ) → Past k table (get_or s at 0) → Before (drop k table) (get_or s at 0) → Ill 1 ≡ sequence_at s at
unfolding sequence_at
sequence-out k s at h p = sym (rows-past (get_or s at 0) (drop (at + 1) s) k table h ∙ rows_before (get_or s at 0) (drop (at + 1) s) (drop k table) p)

pub sequence-ascii : (s : List ℕ) (at b : ℕ) → b ≡ get_or s at 0 → b < 128 → Char b 1 ≡ sequence_at s at
unfolding follow
sequence-ascii s at b e h = sequence-in 0 s at b _ _ _ e tt refl (omega arith) (omega arith) (rw sub-zero)

-- a sequence has n bytes at the least, and no more than there are
abbrev pub Sized : ℕ → ℕ → Sequence → Type 0
Sized n m p = (n ≤ size_of p) × (size_of p ≤ m)

sized-cond : (n m : ℕ) (t : Bool) (p q : Sequence) → Sized n m p → Sized n m q → Sized n m (cond t p q)
sized-cond n m true p q h k = h
sized-cond n m false p q h k = k

sized-more : (n m j : ℕ) (p : Sequence) → Sized (n + 1) (n + 1 + m) p → suc m ≡ j → Sized n (n + j) p
sized-more n m j p h e = (omega arith, omega arith)

pub follow-sized : (k low high c n : ℕ) (s : List ℕ) → Sized n (n + length s) (follow k low high c n s)
unfolding follow
follow-sized zero low high c n s = (omega arith, omega arith)
follow-sized (suc k) low high c n [] = (omega arith, omega arith)
follow-sized (suc k) low high c n (b ∷ s) =
    let p : Sequence = follow k 0x80 0xBF (64 * c + (b - 0x80)) (n + 1) s in
    sized-cond n (n + suc (length s)) (within low high b) p (Ill n)
    (sized-more n (length s) (suc (length s)) p (follow-sized k 0x80 0xBF (64 * c + (b - 0x80)) (n + 1) s) refl)
    (omega arith, omega arith)

-- the second byte of each row is 80 or above
abbrev pub Lows : List Row → Type 0
Lows [] = Unit {0}
Lows (r ∷ rs) = (128 ≤ r.low) × Lows rs

-- what holds of a byte in no row, and by each row, holds of the sequence that starts with b
module _ (P : Sequence → Type 0) (b : ℕ) (s : List ℕ) (none : P (Ill 1)) (by : (r : Row) → 128 ≤ r.low → P (follow r.more r.low r.high (b - r.base) 1 s)) where
  in_rows : (rs : List Row) → Lows rs → P (sequence_by rs b s)
  unfolding sequence_by
  in_rows [] h = none
  in_rows (r ∷ rs) h = go (within r.first r.last b) (by r h.0) (in_rows rs h.1)
    where
      go : (t : Bool) → P (follow r.more r.low r.high (b - r.base) 1 s) → P (sequence_by rs b s) → P (cond t (follow r.more r.low r.high (b - r.base) 1 s) (sequence_by rs b s))
      go true f g = f
      go false f g = g

  pub by_row : P (sequence b s)
  by_row = in_rows table (omega arith)

pub sequence-sized : (b : ℕ) (s : List ℕ) → Sized 1 (1 + length s) (sequence b s)
sequence-sized b s =
    by_row (Sized 1 (1 + length s)) b s (omega arith, omega arith) (λ r _. follow-sized r.more r.low r.high (b - r.base) 1 s)

pub sequence-some : (s : List ℕ) (at : ℕ) → 1 ≤ size_of (sequence_at s at)
unfolding sequence_at
sequence-some s at = (sequence-sized (get_or s at 0) (drop (at + 1) s)).0

pub sequence-fits : (s : List ℕ) (at : ℕ) → at < length s → at + size_of (sequence_at s at) ≤ length s
unfolding sequence_at
sequence-fits s at h = omega (arith, (sequence-sized (get_or s at 0) (drop (at + 1) s)).1, length-drop (at + 1) s)

pub sequences-skip : (k : ℕ) (s : List ℕ) → sequences_from k s ≡ sequences (drop k s)
unfolding sequences_from
sequences-skip zero s = refl
sequences-skip (suc k) [] = refl
sequences-skip (suc k) (b ∷ s) = sequences-skip k s

pub sequences-cons : (b : ℕ) (s : List ℕ) → sequences (b ∷ s) ≡ sequence b s ∷ sequences_from (size_of (sequence b s) - 1) s
unfolding sequences_from
sequences-cons b s = refl

-- the sequences from a place on: the one there, and those behind it
pub sequences-here : (s : List ℕ) (at : ℕ) → at < length s → sequences (drop at s) ≡ sequence_at s at ∷ sequences (drop (at + size_of (sequence_at s at)) s)
unfolding sequence_at
sequences-here s at h =
    let p : Sequence = sequence_at s at in
    let e : at + 1 + (size_of p - 1) ≡ at + size_of p = omega (arith, sequence-some s at) in
    rw (drop_here s at (get_or s at 0) h refl, sequences-cons, sequences-skip (size_of p - 1) (drop (at + 1) s), drop-drop (size_of p - 1) (at + 1) s, e)

pub sequences-end : (s : List ℕ) (at : ℕ) → length s ≤ at → sequences (drop at s) ≡ []
unfolding sequences_from
sequences-end s at h = rw (drop_of_length-le s h)

-- validity, from a place on
pub valid-more : (s : List ℕ) (at c n : ℕ) (t : Bool) (p : Sequence) → p ≡ sequence_at s at → p ≡ Char c n → at < length s → all_chars (sequences (drop at s)) ≡ t → all_chars (sequences (drop (at + n) s)) ≡ t
unfolding all_chars
valid-more s at c n t p e q h k =
    let f : sequence_at s at ≡ Char c n = sym e ∙ q in
    rw (sequences-here s at h, f) at k

pub valid-stop : (s : List ℕ) (at n : ℕ) (t : Bool) (p : Sequence) → p ≡ sequence_at s at → p ≡ Ill n → at < length s → all_chars (sequences (drop at s)) ≡ t → false ≡ t
unfolding all_chars
valid-stop s at n t p e q h k =
    let f : sequence_at s at ≡ Ill n = sym e ∙ q in
    rw (sequences-here s at h, f) at k

pub valid-end : (s : List ℕ) (at : ℕ) (t : Bool) → length s ≤ at → all_chars (sequences (drop at s)) ≡ t → true ≡ t
unfolding all_chars
valid-end s at t h k = rw (sequences-end s at h) at k

-- the next place
pub char-size : (c n : ℕ) (p : Sequence) → p ≡ Char c n → n ≡ size_of p
char-size c n p q = sym (ap size_of q)

module _ (s : List ℕ) (at n : ℕ) (p : Sequence) (e : p ≡ sequence_at s at) (q : n ≡ size_of p) (h : at < length s) where
  pub next-in : at + n ≤ length s
  next-in = rw (q, e) (sequence-fits s at h)

  pub next-some : 1 ≤ n
  next-some = rw (q, e) (sequence-some s at)

  pub next_fits : length s < 2 ^ 64 → at + n < 2 ^ 64
  next_fits l = omega (arith, next-in)

  pub next-less : length s - (at + n) < length s - at
  next-less = omega (arith, next-in, next-some)

pub ruleset texts = (rules, char-size, next-in, next_fits, next-less, valid-more, valid-stop, valid-end)
