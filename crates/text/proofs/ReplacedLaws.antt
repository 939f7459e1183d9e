-- What the sequences of a text are made of, and the replaced text.
use Rattle.std.proofs.Common.{◌≡◌, ℕ, zero, suc, ◌+◌, ◌-◌, ◌*◌, ◌<◌, ◌≤◌, Bool, true, false, cond, leb, List, [], ◌∷◌, ◌++◌, length, take, drop, sym, refl, ap, ◌∙◌, ap₂, append_assoc, arith, length-append, length-drop, take-append-drop, length-take, length-take-le, drop_at, leb-true}
use native.Mathlib.Nat.{sub-zero}
use lib.Seq.{take-append-le, drop-append-le}
use borrow.Author.Tests.{lt-leb}
use Rattle.text.specs.declared.Sequence.{Sequence}
use Rattle.text.specs.declared.Sequence.TheVariants.{Char, Ill}
use Rattle.text.specs.Utf8.{Row, table, within, follow, sequence_by, sequence, size_of, sequence_bytes, sequences_from, sequences, all_chars, valid, codes_of, code_points, bytes_of_all, replaced}
use Rattle.text.proofs.Utf8Laws.{follow-sized, Lows, by_row, sequence-sized, sequences-skip, sequences-cons, row_here}

-- every byte is 80 or above
abbrev pub High : List ℕ → Type 0
High [] = Unit {0}
High (x ∷ xs) = (128 ≤ x) × High xs

-- of a sequence, every byte but the first is 80 or above
within_low : (low high b : ℕ) → within low high b ≡ true → low ≤ b
within_low low high b e = go (leb low b) refl e
  where
    go : (t : Bool) → leb low b ≡ t → cond t (leb b high) false ≡ true → low ≤ b
    go true q f = leb-true low b q
    go false q f = let z : ◌≡◌ {A = ℕ} 0 1 = cc in absurd (omega arith)

take_none : (n m : ℕ) (s : List ℕ) → m ≡ n → High (take (m - n) s)
take_none n m s e = let z : m - n ≡ 0 = omega arith in rw z tt

take-one : (n m b : ℕ) (s : List ℕ) → n + 1 ≤ m → 128 ≤ b → High (take (m - (n + 1)) s) → High (take (m - n) (b ∷ s))
take-one n m b s h k f = let z : m - n ≡ suc (m - (n + 1)) = omega arith in rw z (k, f)

follow-high : (k low high c n : ℕ) (s : List ℕ) → 128 ≤ low → High (take (size_of (follow k low high c n s) - n) s)
unfolding follow
follow-high zero low high c n s h = take_none n n s refl
follow-high (suc k) low high c n [] h = take_none n n [] refl
follow-high (suc k) low high c n (b ∷ s) h =
    step (within low high b) (follow k 0x80 0xBF (64 * c + (b - 0x80)) (n + 1) s) refl
    (follow-sized k 0x80 0xBF (64 * c + (b - 0x80)) (n + 1) s).0 (follow-high k 0x80 0xBF (64 * c + (b - 0x80)) (n + 1) s (omega arith))
  where
    step : (t : Bool) (p : Sequence) → within low high b ≡ t → n + 1 ≤ size_of p → High (take (size_of p - (n + 1)) s) → High (take (size_of (cond t p (Ill n)) - n) (b ∷ s))
    step true p e l f = let w : low ≤ b = within_low low high b e in take-one n (size_of p) b s l (omega arith) f
    step false p e l f = take_none n n (b ∷ s) refl

pub sequence-high : (b : ℕ) (s : List ℕ) → High (take (size_of (sequence b s) - 1) s)
sequence-high b s =
    by_row (λ p. High (take (size_of p - 1) s)) b s tt (λ r h. follow-high r.more r.low r.high (b - r.base) 1 s h)

pub sequence-low : (b : ℕ) (s : List ℕ) → b < 128 → sequence b s ≡ Char b 1
unfolding follow
sequence-low b s h = row_here b s _ _ (omega arith) (omega arith) ∙ rw sub-zero

-- a text by its first sequence, and what is behind it
pub size-some : (b : ℕ) (s : List ℕ) → 1 ≤ size_of (sequence b s)
size-some b s = (sequence-sized b s).0

abbrev pub rest : ℕ → List ℕ → List ℕ
rest b s = drop (size_of (sequence b s) - 1) s

drop-first : (p : Sequence) (b : ℕ) (s : List ℕ) → 1 ≤ size_of p → drop (size_of p) (b ∷ s) ≡ drop (size_of p - 1) s
drop-first p b s h = let z : size_of p ≡ suc (size_of p - 1) = omega arith in ap (λ n. drop n (b ∷ s)) z

sequences-first : (b : ℕ) (s : List ℕ) → sequences (b ∷ s) ≡ sequence b s ∷ sequences (rest b s)
sequences-first b s = sequences-cons b s ∙ ap (λ ps. sequence b s ∷ ps) (sequences-skip (size_of (sequence b s) - 1) s)

pub replaced-first : (b : ℕ) (s : List ℕ) → replaced (b ∷ s) ≡ sequence_bytes (sequence b s) (b ∷ s) ++ replaced (rest b s)
unfolding bytes_of_all
replaced-first b s =
    ap (λ ps. bytes_of_all ps (b ∷ s)) (sequences-first b s)
    ∙ ap (λ t. sequence_bytes (sequence b s) (b ∷ s) ++ bytes_of_all (sequences (rest b s)) t) (drop-first (sequence b s) b s (size-some b s))

-- what holds of no bytes, and of a text wherever it holds behind its first sequence, holds of every text
module _ (P : List ℕ → Type 0) (none : P []) (more : (b : ℕ) (s : List ℕ) → P (rest b s) → P (b ∷ s)) where
  by_length : (k : ℕ) (s : List ℕ) → length s ≤ k → P s
  by_length zero [] h = none
  by_length (suc k) [] h = none
  by_length zero (b ∷ s) h = absurd (omega arith)
  by_length (suc k) (b ∷ s) h = more b s (by_length k (rest b s) (omega (arith, length-drop (size_of (sequence b s) - 1) s)))

  pub by-sequences : (s : List ℕ) → P s
  by-sequences s = by_length (length s) s (omega arith)

-- the replaced text is three times as long at the most
most : (p : Sequence) (n : ℕ) (t r : List ℕ) → 1 ≤ size_of p → size_of p ≤ n → length r ≤ 3 * (n - size_of p) → length (sequence_bytes p t ++ r) ≤ 3 * n
most (Char c m) n t r h l f = omega (arith, length-append (take m t) r, length-take m t)
most (Ill m) n t r h l f = omega arith

most-first : (b : ℕ) (s : List ℕ) → length (replaced (rest b s)) ≤ 3 * length (rest b s) → length (replaced (b ∷ s)) ≤ 3 * length (b ∷ s)
most-first b s f =
    let p = sequence b s in
    let d : length (rest b s) ≡ length (b ∷ s) - size_of p = omega (arith, length-drop (size_of p - 1) s, size-some b s) in
    rw (replaced-first b s)
    (most p (length (b ∷ s)) (b ∷ s) (replaced (rest b s)) (size-some b s) (omega (arith, (sequence-sized b s).1)) (omega (arith, d, f)))

pub replaced-most : (s : List ℕ) → length (replaced s) ≤ 3 * length s
unfolding sequences_from bytes_of_all
replaced-most s = by-sequences (λ t. length (replaced t) ≤ 3 * length t) (omega arith) most-first s

-- a valid text is its own replaced text
valid-first : (b : ℕ) (s : List ℕ) → (valid (rest b s) ≡ true → replaced (rest b s) ≡ rest b s) → valid (b ∷ s) ≡ true → replaced (b ∷ s) ≡ b ∷ s
unfolding all_chars
valid-first b s f e = go (sequence b s) refl
  where
    by_first : (p : Sequence) → sequence b s ≡ p → all_chars (p ∷ sequences (rest b s)) ≡ true
    by_first p q = sym (ap all_chars (sequences-first b s) ∙ ap (λ p. all_chars (p ∷ sequences (rest b s))) q) ∙ e

    go : (p : Sequence) → sequence b s ≡ p → replaced (b ∷ s) ≡ b ∷ s
    go (Char c n) q =
        replaced-first b s
        ∙ ap (λ r. sequence_bytes (sequence b s) (b ∷ s) ++ r) (f (by_first (Char c n) q) ∙ sym (drop-first (sequence b s) b s (size-some b s)))
        ∙ ap (λ p. sequence_bytes p (b ∷ s) ++ drop (size_of p) (b ∷ s)) q ∙ take-append-drop n (b ∷ s)
    go (Ill n) q =
        let z : false ≡ true = by_first (Ill n) q in
        let y : ◌≡◌ {A = ℕ} 0 1 = cc in
        absurd (omega arith)

pub valid-kept : (s : List ℕ) → valid s ≡ true → replaced s ≡ s
unfolding sequences_from bytes_of_all
valid-kept s = by-sequences (λ t. valid t ≡ true → replaced t ≡ t) (λ e. refl) valid-first s

-- a sequence whose first byte is 80 or above, in the replaced text
pub record HighBytes (l : List ℕ) : Type 0 where
  pub head : ℕ
  pub tail : List ℕ
  pub is : l ≡ head ∷ tail
  pub head-high : 128 ≤ head
  pub tail-high : High tail

pub bytes_high : (p : Sequence) (b : ℕ) (s : List ℕ) → 1 ≤ size_of p → 128 ≤ b → High (take (size_of p - 1) s) → HighBytes (sequence_bytes p (b ∷ s))
bytes_high (Char c n) b s h k f =
    let z : n ≡ suc (n - 1) = omega arith in
    record { head = b; tail = take (n - 1) s; is = ap (λ m. take m (b ∷ s)) z; head-high = k; tail-high = f }
bytes_high (Ill n) b s h k f =
    record { head = 0xEF; tail = 0xBF ∷ 0xBD ∷ []; is = refl; head-high = omega arith; tail-high = (omega arith, (omega arith, tt)) }

-- a character's bytes give it again, whatever follows them
take_more : (n m b : ℕ) (s : List ℕ) → n + 1 ≤ m → take (m - n) (b ∷ s) ≡ b ∷ take (m - (n + 1)) s
take_more n m b s h = let z : m - n ≡ suc (m - (n + 1)) = omega arith in ap (λ j. take j (b ∷ s)) z

module _ (d m : ℕ) (r : List ℕ) where
  follow-again : (k low high c n : ℕ) (s : List ℕ) → follow k low high c n s ≡ Char d m → follow k low high c n (take (m - n) s ++ r) ≡ Char d m
  unfolding follow
  follow-again zero low high c n s e = e
  follow-again (suc k) low high c n [] e = let z : ◌≡◌ {A = ℕ} 0 1 = cc in absurd (omega arith)
  follow-again (suc k) low high c n (b ∷ s) e =
      step (within low high b) (follow k 0x80 0xBF (64 * c + (b - 0x80)) (n + 1) s) refl refl e (follow-again k 0x80 0xBF (64 * c + (b - 0x80)) (n + 1) s)
    where
      step : (t : Bool) (p : Sequence) → within low high b ≡ t → follow k 0x80 0xBF (64 * c + (b - 0x80)) (n + 1) s ≡ p → cond t p (Ill n) ≡ Char d m
          → (follow k 0x80 0xBF (64 * c + (b - 0x80)) (n + 1) s ≡ Char d m → follow k 0x80 0xBF (64 * c + (b - 0x80)) (n + 1) (take (m - (n + 1)) s ++ r) ≡ Char d m)
          → follow (suc k) low high c n (take (m - n) (b ∷ s) ++ r) ≡ Char d m
      step true p w q f g =
          let l : n + 1 ≤ m = rw (q ∙ f) at (follow-sized k 0x80 0xBF (64 * c + (b - 0x80)) (n + 1) s).0 in
          rw (take_more n m b s l) (rw w (g (q ∙ f)))
      step false p w q f g = let z : ◌≡◌ {A = ℕ} 0 1 = cc in absurd (omega arith)

  sequence_by-again : (rs : List Row) (b : ℕ) (s : List ℕ) → sequence_by rs b s ≡ Char d m → sequence_by rs b (take (m - 1) s ++ r) ≡ Char d m
  unfolding sequence_by
  sequence_by-again [] b s e = let z : ◌≡◌ {A = ℕ} 0 1 = cc in absurd (omega arith)
  sequence_by-again (q ∷ rs) b s e =
      step (within q.first q.last b) e (follow-again q.more q.low q.high (b - q.base) 1 s) (sequence_by-again rs b s)
    where
      step : (t : Bool) → cond t (follow q.more q.low q.high (b - q.base) 1 s) (sequence_by rs b s) ≡ Char d m
          → (follow q.more q.low q.high (b - q.base) 1 s ≡ Char d m → follow q.more q.low q.high (b - q.base) 1 (take (m - 1) s ++ r) ≡ Char d m)
          → (sequence_by rs b s ≡ Char d m → sequence_by rs b (take (m - 1) s ++ r) ≡ Char d m)
          → cond t (follow q.more q.low q.high (b - q.base) 1 (take (m - 1) s ++ r)) (sequence_by rs b (take (m - 1) s ++ r)) ≡ Char d m
      step true f g h = g f
      step false f g h = h f

-- a sequence of the replaced text
abbrev pub fixed : Sequence → Sequence
fixed (Char c n) = Char c n
fixed (Ill n) = Char 0xFFFD 3

unfoldable pub all_fixed : List Sequence → List Sequence
all_fixed [] = []
all_fixed (p ∷ ps) = fixed p ∷ all_fixed ps

fffd : (r : List ℕ) → sequences (0xEF ∷ 0xBF ∷ 0xBD ∷ r) ≡ Char 0xFFFD 3 ∷ sequences r
unfolding sequences_from sequence_by follow
fffd r = refl

again : (b c n : ℕ) (s r : List ℕ) → sequence b s ≡ Char c n → n ≤ suc (length s) → 1 ≤ n → sequences (b ∷ (take (n - 1) s ++ r)) ≡ Char c n ∷ sequences r
again b c n s r e h k =
    let p : sequence b (take (n - 1) s ++ r) ≡ Char c n = sequence_by-again c n r table b s e in
    let l : length (take (n - 1) s) ≡ n - 1 = length-take-le (n - 1) s (omega arith) in
    sequences-first b (take (n - 1) s ++ r)
    ∙ ap (λ q. q ∷ sequences (drop (size_of q - 1) (take (n - 1) s ++ r))) p
    ∙ ap (λ t. Char c n ∷ sequences t) (drop_at (take (n - 1) s) r (n - 1) l)

first-fixed : (b : ℕ) (s : List ℕ) → sequences (replaced (rest b s)) ≡ all_fixed (sequences (rest b s)) → sequences (replaced (b ∷ s)) ≡ all_fixed (sequences (b ∷ s))
unfolding all_fixed
first-fixed b s f = go (sequence b s) refl
  where
    R : List ℕ
    R = replaced (rest b s)

    back : fixed (sequence b s) ∷ sequences R ≡ all_fixed (sequences (b ∷ s))
    back = ap (λ ps. fixed (sequence b s) ∷ ps) f ∙ sym (ap all_fixed (sequences-first b s))

    go : (p : Sequence) → sequence b s ≡ p → sequences (replaced (b ∷ s)) ≡ all_fixed (sequences (b ∷ s))
    go (Char c n) q =
        let h : 1 ≤ n = rw q at (size-some b s) in
        let l : n ≤ 1 + length s = rw q at (sequence-sized b s).1 in
        let z : take n (b ∷ s) ≡ b ∷ take (n - 1) s = ap (λ m. take m (b ∷ s)) (pre n h) in
        ap sequences (replaced-first b s ∙ ap (λ p. sequence_bytes p (b ∷ s) ++ R) q ∙ ap (λ t. t ++ R) z)
        ∙ again b c n s R q (omega arith) h ∙ ap (λ p. fixed p ∷ sequences R) (sym q) ∙ back
      where
        pre : (m : ℕ) → 1 ≤ m → m ≡ suc (m - 1)
        pre m k = omega arith
    go (Ill n) q =
        ap sequences (replaced-first b s ∙ ap (λ p. sequence_bytes p (b ∷ s) ++ R) q)
        ∙ fffd R ∙ ap (λ p. fixed p ∷ sequences R) (sym q) ∙ back

sequences-fixed : (s : List ℕ) → sequences (replaced s) ≡ all_fixed (sequences s)
unfolding sequences_from bytes_of_all all_fixed
sequences-fixed s = by-sequences (λ t. sequences (replaced t) ≡ all_fixed (sequences t)) refl first-fixed s

-- the replaced text has the same characters, and is valid
fixed-codes : (ps : List Sequence) → codes_of (all_fixed ps) ≡ codes_of ps
unfolding codes_of all_fixed
fixed-codes [] = refl
fixed-codes (Char c n ∷ ps) = ap (λ cs. c ∷ cs) (fixed-codes ps)
fixed-codes (Ill n ∷ ps) = ap (λ cs. 0xFFFD ∷ cs) (fixed-codes ps)

fixed-valid : (ps : List Sequence) → all_chars (all_fixed ps) ≡ true
unfolding all_chars all_fixed
fixed-valid [] = refl
fixed-valid (Char c n ∷ ps) = fixed-valid ps
fixed-valid (Ill n ∷ ps) = fixed-valid ps

pub codes-replaced : (s : List ℕ) → code_points (replaced s) ≡ code_points s
codes-replaced s = ap codes_of (sequences-fixed s) ∙ fixed-codes (sequences s)

pub replaced-valid : (s : List ℕ) → valid (replaced s) ≡ true
replaced-valid s = ap all_chars (sequences-fixed s) ∙ fixed-valid (sequences s)

-- a byte below 80 ends a sequence: the texts before and behind it are replaced by themselves
within-no : (low high d : ℕ) → d < low → within low high d ≡ false
within-no low high d h = rw (lt-leb low d h)

module _ (d : ℕ) (l : d < 128) (v : List ℕ) where
  follow-stop : (k low high c n : ℕ) (s : List ℕ) → 128 ≤ low → follow k low high c n (s ++ (d ∷ v)) ≡ follow k low high c n s
  unfolding follow
  follow-stop zero low high c n s h = refl
  follow-stop (suc k) low high c n [] h = rw (within-no low high d (omega arith))
  follow-stop (suc k) low high c n (b ∷ s) h =
      ap (λ p. cond (within low high b) p (Ill n)) (follow-stop k 0x80 0xBF (64 * c + (b - 0x80)) (n + 1) s (omega arith))

  sequence_by-stop : (rs : List Row) (b : ℕ) (s : List ℕ) → Lows rs → sequence_by rs b (s ++ (d ∷ v)) ≡ sequence_by rs b s
  unfolding sequence_by
  sequence_by-stop [] b s h = refl
  sequence_by-stop (r ∷ rs) b s h =
      ap₂ (λ p q. cond (within r.first r.last b) p q)
      (follow-stop r.more r.low r.high (b - r.base) 1 s h.0) (sequence_by-stop rs b s h.1)

  sequence-stop : (b : ℕ) (s : List ℕ) → sequence b (s ++ (d ∷ v)) ≡ sequence b s
  sequence-stop b s = sequence_by-stop table b s (omega arith)

  bytes-stop : (p : Sequence) (b : ℕ) (s : List ℕ) → size_of p ≤ 1 + length s → sequence_bytes p (b ∷ (s ++ (d ∷ v))) ≡ sequence_bytes p (b ∷ s)
  bytes-stop (Char c n) b s h = take-append-le n (b ∷ s) (d ∷ v) (omega arith)
  bytes-stop (Ill n) b s h = refl

  replaced-low : replaced (d ∷ v) ≡ d ∷ replaced v
  replaced-low = replaced-first d v ∙ ap (λ p. sequence_bytes p (d ∷ v) ++ replaced (drop (size_of p - 1) v)) (sequence-low d v l)

  first-stop : (b : ℕ) (s : List ℕ) → replaced (rest b s ++ (d ∷ v)) ≡ replaced (rest b s) ++ (d ∷ replaced v) → replaced (b ∷ (s ++ (d ∷ v))) ≡ replaced (b ∷ s) ++ (d ∷ replaced v)
  first-stop b s f =
      let p = sequence b s in
      let h : size_of p ≤ 1 + length s = (sequence-sized b s).1 in
      replaced-first b (s ++ (d ∷ v))
      ∙ ap (λ q. sequence_bytes q (b ∷ (s ++ (d ∷ v))) ++ replaced (drop (size_of q - 1) (s ++ (d ∷ v)))) (sequence-stop b s)
      ∙ ap₂ (λ x y. x ++ y) (bytes-stop p b s h) (ap replaced (drop-append-le (size_of p - 1) s (d ∷ v) (omega arith)) ∙ f)
      ∙ sym (append_assoc (sequence_bytes p (b ∷ s)) (replaced (rest b s)) (d ∷ replaced v))
      ∙ ap (λ x. x ++ (d ∷ replaced v)) (sym (replaced-first b s))

  pub replaced-split : (s : List ℕ) → replaced (s ++ (d ∷ v)) ≡ replaced s ++ (d ∷ replaced v)
  unfolding sequences_from bytes_of_all
  replaced-split s = by-sequences (λ t. replaced (t ++ (d ∷ v)) ≡ replaced t ++ (d ∷ replaced v)) replaced-low first-stop s
