-- Laws of big-endian numbers and of parts of the map, by the tests that the code makes.
use Prim.Native.Nat.{ℕ, zero, suc, ◌+◌, ◌*◌, ◌-◌, ◌/◌, ◌%◌, ◌^◌, ◌<◌, ◌≤◌}
use native.Mathlib.Nat.{add-zero, mul-one, pow-zero, pow-suc, mul_assoc, mul_comm, add-mul, mul-le-mul_right}
use native.Mathlib.Omega.{arith}
use mathlib.Core.Path.{◌≡◌, refl, sym, ap, ◌∙◌, subst}
use mathlib.Core.List.{List, [], ◌∷◌, ◌++◌}
use lib.IntN.{ℤ}
use lib.ListN.{length, get_or, take, drop, length-drop, drop_of_length-le}
use lib.Seq.{take-add, take_all, take-nil, drop-drop, length-take-le, drop-cons}
use lib.Pow.{pow-add}
use borrow.Author.Tests.{lt-leb}
use Rattle.std.specs.Int.{w16, w32, w64, from_be_bytes, cast_signed}
use Rattle.parsing.specs.Parse.{ok, no, part, chunk}
use Rattle.error.specs.Refusals.{refused}
use Rattle.error.specs.declared.Refusal.{Refusal}
use Rattle.error.specs.declared.Refusal.TheVariants.{Source}
use Rattle.parsing.proofs.Steps.{chunk-none, chunk-here}
use Rattle.parsing.proofs.Ends.{PastEnd, bind-end, chunk_end}
use Rattle.parsing.proofs.Sized.{Sized, chunk-sized, return-sized, bind-sized}
use Rattle.byte_source.specs.BigEndian.{big_endian_of, big_endian, twos_complement, Holds}
use Rattle.byte_source.specs.declared.Span.{Span}
use Rattle.byte_source.specs.Answers.{span_bytes, part_in}
use Rattle.byte_source.proofs.ReadLaws.{reads}

value-append : (acc : ℕ) (xs ys : List ℕ) → big_endian_of acc (xs ++ ys) ≡ big_endian_of (big_endian_of acc xs) ys
unfolding big_endian_of
value-append acc [] ys = refl
value-append acc (x ∷ xs) ys = value-append (256 * acc + x) xs ys

value-above : (acc : ℕ) (ys : List ℕ) → big_endian_of acc ys ≡ acc * 256 ^ length ys + big_endian_of 0 ys
unfolding big_endian_of
value-above acc [] = rw (pow-zero 256, mul-one acc) (omega arith)
value-above acc (y ∷ ys) =
    let w = 256 ^ length ys in
    let a : big_endian_of (256 * acc + y) ys ≡ (256 * acc + y) * w + big_endian_of 0 ys = value-above (256 * acc + y) ys in
    let b : big_endian_of (256 * 0 + y) ys ≡ (256 * 0 + y) * w + big_endian_of 0 ys = value-above (256 * 0 + y) ys in
    rw (a, b, pow-suc 256 (length ys), add-mul (256 * acc) y w, mul_comm 256 acc, mul_assoc acc 256 w, mul_comm 256 w) (omega arith)

-- two numbers, one behind the other
pub joined : (j k : ℕ) (s : List ℕ) (at x y : ℕ) → at + (j + k) ≤ length s → Holds j s at x → Holds k s (at + j) y → Holds (j + k) s at (x * 256 ^ k + y)
joined j k s at x y f h g =
    let len : length (take k (drop (at + j) s)) ≡ k = length-take-le k (drop (at + j) s) (omega (arith, length-drop (at + j) s)) in
    let small : x * 256 ^ k + 256 ^ k ≤ 256 ^ j * 256 ^ k = below x (256 ^ j) (256 ^ k) h.small in
    record {
      value = rw (take-add j k (drop at s), drop-drop j at s, value-append 0 (take j (drop at s)) (take k (drop (at + j) s)), value-above (big_endian_of 0 (take j (drop at s))) (take k (drop (at + j) s)), len, ← h.value, ← g.value);
      small = rw (pow-add 256 j k) (omega (arith, g.small));
    }
  where
    below : (x u w : ℕ) → x < u → x * w + w ≤ u * w
    below x u w h = let e : suc x * w ≤ u * w = mul-le-mul_right w h in omega (arith, e, add-mul x 1 w, ap (λ n. n * w) (add-zero x))

-- one byte
pub single : (s : List ℕ) (at x : ℕ) → at < length s → x ≡ get_or s at 0 → x < 256 → Holds 1 s at x
unfolding big_endian_of
single s at x h e b = record { value = rw (drop-cons s at 0 h) (omega arith); small = b }

pub pair16 : (s : List ℕ) (at x y : ℕ) → at + 2 ≤ length s → x ≡ get_or s at 0 → x < 256 → y ≡ get_or s (at + 1) 0 → y < 256 → Holds 2 s at ((x + y * 256) % 256 * 256 + (x + y * 256) / 256)
pair16 s at x y f e b d a =
    let t : (x + y * 256) % 256 * 256 + (x + y * 256) / 256 ≡ x * 256 + y = omega arith in
    rw t (joined 1 1 s at x y f (single s at x (omega arith) e b) (single s (at + 1) y (omega arith) d a))

-- a byte, and the bytes behind it
byte-on : (s : List ℕ) (at i k : ℕ) → at + i < length s → take (suc k) (drop (at + i) s) ≡ get_or s (at + i) 0 ∷ take k (drop (at + suc i) s)
byte-on s at i k h = let e : at + suc i ≡ suc (at + i) = omega arith in rw (drop-cons s (at + i) 0 h, e) refl

byte-first : (s : List ℕ) (at k : ℕ) → at < length s → take (suc k) (drop at s) ≡ get_or s at 0 ∷ take k (drop (at + 1) s)
byte-first s at k h = let e : at + 0 ≡ at = omega arith in subst (λ x. take (suc k) (drop x s) ≡ get_or s x 0 ∷ take k (drop (at + 1) s)) e (byte-on s at 0 k (omega arith))

-- the number that std makes of the bytes at a place
module _ (s : List ℕ) (at r : ℕ) where
  pub bytes16 : at + 2 ≤ length s → r ≡ from_be_bytes w16 (get_or s at 0 ∷ get_or s (at + 1) 0 ∷ []) → r ≡ big_endian_of 0 (take 2 (drop at s))
  unfolding big_endian_of
  bytes16 h e = rw (byte-first s at 1 (omega arith), byte-on s at 1 0 (omega arith)) (omega (arith, e))

  pub bytes32 : at + 4 ≤ length s → r ≡ from_be_bytes w32 (get_or s at 0 ∷ get_or s (at + 1) 0 ∷ get_or s (at + 2) 0 ∷ get_or s (at + 3) 0 ∷ []) → r ≡ big_endian_of 0 (take 4 (drop at s))
  unfolding big_endian_of
  bytes32 h e =
      rw (byte-first s at 3 (omega arith), byte-on s at 1 2 (omega arith), byte-on s at 2 1 (omega arith), byte-on s at 3 0 (omega arith)) (omega (arith, e))

  pub bytes40 : at + 5 ≤ length s → r ≡ from_be_bytes w64 (0 ∷ 0 ∷ 0 ∷ get_or s at 0 ∷ get_or s (at + 1) 0 ∷ get_or s (at + 2) 0 ∷ get_or s (at + 3) 0 ∷ get_or s (at + 4) 0 ∷ []) → r ≡ big_endian_of 0 (take 5 (drop at s))
  unfolding big_endian_of
  bytes40 h e =
      rw (byte-first s at 4 (omega arith), byte-on s at 1 3 (omega arith), byte-on s at 2 2 (omega arith), byte-on s at 3 1 (omega arith), byte-on s at 4 0 (omega arith)) (omega (arith, e))

  pub bytes64 : at + 8 ≤ length s → r ≡ from_be_bytes w64 (get_or s at 0 ∷ get_or s (at + 1) 0 ∷ get_or s (at + 2) 0 ∷ get_or s (at + 3) 0 ∷ get_or s (at + 4) 0 ∷ get_or s (at + 5) 0 ∷ get_or s (at + 6) 0 ∷ get_or s (at + 7) 0 ∷ []) → r ≡ big_endian_of 0 (take 8 (drop at s))
  unfolding big_endian_of
  bytes64 h e =
      rw (byte-first s at 7 (omega arith), byte-on s at 1 6 (omega arith), byte-on s at 2 5 (omega arith), byte-on s at 3 4 (omega arith), byte-on s at 4 3 (omega arith), byte-on s at 5 2 (omega arith), byte-on s at 6 1 (omega arith), byte-on s at 7 0 (omega arith)) (omega (arith, e))

past : (s : List ℕ) (at k : ℕ) → 1 ≤ k → length s < at + k → chunk k s at ≡ no 1 []
past s at zero b h = absurd (omega arith)
past s at (suc k) b h = rw (lt-leb (at + suc k) (length s) h)

-- a number that the code has read, and one that it has not
module _ (k : ℕ) (s : List ℕ) (at : ℕ) where
  pub number-here : (r : ℕ) → 1 ≤ k → at ≤ length s → k ≤ length s - at → Holds k s at r → ok r (at + k) ≡ big_endian k s at
  unfolding big_endian
  number-here r b h l e = rw (← chunk-here s at k b h l, e.value)

  pub number-read : (r n : ℕ) → 1 ≤ k → at + k ≤ length s → n ≡ at + k → r ≡ big_endian_of 0 (take k (drop at s)) → ok r n ≡ big_endian k s at
  unfolding big_endian
  number-read r n b h z e = rw (z, ← chunk-here s at k b (omega arith) (omega arith), e)

  pub number-past : (e : Refusal) → 1 ≤ k → e ≡ Source → length s < at + k → refused e ≡ big_endian k s at
  unfolding big_endian
  number-past e b z h = rw (z, past s at k b h)

pub big_endian-sized : (k : ℕ) → Sized (big_endian k) k
unfolding big_endian
big_endian-sized k = subst (λ n. Sized (big_endian k) n) (add-zero k) (bind-sized (chunk-sized k) (λ b. return-sized _))

pub big_endian-end : (k : ℕ) → 1 ≤ k → PastEnd (big_endian k)
unfolding big_endian
big_endian-end k b = bind-end _ (chunk_end k b)

-- a part of the map
module _ (s : List ℕ) (at n : ℕ) where
  pub part_none : n < 1 → ok (part_in s (record { start = at; size = 0 })) at ≡ part n s at
  unfolding part
  part_none h = let e : 0 ≡ n = omega arith in rw (← chunk-none s at n h) (ap (λ k. ok (record { start = at; size = k; bytes = [] }) at) e)

  pub part-here : 1 ≤ n → at ≤ length s → n ≤ length s - at → ok (part_in s (record { start = at; size = n })) (at + n) ≡ part n s at
  unfolding part
  part-here b h l = rw (← chunk-here s at n b h l)

  pub part-read : (x : ℕ) → 1 ≤ n → at + n ≤ length s → x ≡ at + n → ok (part_in s (record { start = at; size = n })) x ≡ part n s at
  part-read x b h z = rw z (part-here b (omega arith) (omega arith))

  pub part-past : (e : Refusal) → 1 ≤ n → e ≡ Source → length s < at + n → refused e ≡ part n s at
  unfolding part
  part-past e b z h = rw (z, past s at n b h)

-- 32 bits in two's complement
pub signed32 : (b : ℕ) (z : ℤ) → b < 2 ^ 32 → z ≡ cast_signed w32 b → z ≡ twos_complement b
signed32 b z f e = let g : 2 ^ 32 - b ≡ suc (2 ^ 32 - suc b) = omega (arith, f) in rw g e

-- the bytes of a span
module _ (m : List ℕ) (s : Span) where
  pub span-out : length m ≤ s.start → [] ≡ span_bytes m s
  span-out h = rw (drop_of_length-le m h, take-nil s.size)

  pub span_rest : length m - s.start ≤ s.size → take (length m - s.start) (drop s.start m) ≡ span_bytes m s
  span_rest h =
      let l : length (drop s.start m) ≡ length m - s.start = length-drop s.start m in
      take_all (length m - s.start) (drop s.start m) (omega arith) ∙ sym (take_all s.size (drop s.start m) (omega arith))

  pub span-in : take (s.start + s.size - s.start) (drop s.start m) ≡ span_bytes m s
  span-in = let e : s.start + s.size - s.start ≡ s.size = omega arith in rw e

pub ruleset parts = (reads, bytes16, bytes32, bytes40, bytes64, number-read, number-past, part_none, part-read, part-past, signed32, span-out, span_rest, span-in)
