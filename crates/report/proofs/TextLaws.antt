-- Laws of the digest of a text by way of a buffer.
use Rattle.std.proofs.Common.{◌≡◌, ℕ, ◌+◌, ◌*◌, ◌<◌, ◌≤◌, List, length, take, drop, sym, ap, ◌∙◌, zero-add, arith, take_at, rules, le-leb}
use lib.ListN.{length-replicate}
use lib.Seq.{sets, sets-eq}
use borrow.Author.Tests.{lt-leb}
use Rattle.error.specs.declared.LentRefusal.{LentRefusal}
use Rattle.std.specs.Prelude.{Result, Ok, Err}
use Rattle.text.specs.Utf8.{replaced}
use Rattle.text.specs.Writing.{Writing, place_behind, outcome, writing}
use Rattle.text.proofs.WrittenLaws.{written-fits, written-short}
use Rattle.text.proofs.ReplacedLaws.{replaced-most}
use Rattle.report.specs.Words.{mixed_all}
use Rattle.report.specs.Texts.{zeros, mixed_replaced}

module _ (h : ℕ) (s : List ℕ) where
  pub mixed-fits : (k : ℕ) → length (replaced s) ≤ k → mixed_replaced h s k ≡ mixed_all h (replaced s)
  unfolding mixed_replaced
  mixed-fits k l = rw (le-leb (length (replaced s)) k l)

  pub mixed-short : (k : ℕ) → k < length (replaced s) → mixed_replaced h s k ≡ 0
  unfolding mixed_replaced
  mixed-short k l = rw (lt-leb (length (replaced s)) k l)

  -- a buffer of three bytes for each byte of the text is long enough, and so is any longer one
  pub room-enough : (k n x : ℕ) → length s < k → 3 * k ≤ n → x ≡ mixed_replaced h s (3 * k) → x ≡ mixed_replaced h s n
  room-enough k n x l m e = let q = replaced-most s in e ∙ mixed-fits (3 * k) (omega arith) ∙ sym (mixed-fits n (omega arith))

pub zeros-length : (n : ℕ) → length (zeros n) ≡ n
unfolding zeros
zeros-length n = length-replicate n 0

-- the same with the long buffer
pub room-large : (h : ℕ) (s b : List ℕ) (n x : ℕ) → b ≡ zeros n → x ≡ mixed_replaced h s (length b) → x ≡ mixed_replaced h s n
room-large h s b n x q e = e ∙ ap (mixed_replaced h s) (ap length q ∙ zeros-length n)

-- what `write_replaced` answered for the buffer b, which is b' then
module _ (h : ℕ) (s b b' : List ℕ) (g : Result ℕ LentRefusal) (e : outcome g b' ≡ writing s b 0) where
  kept : b' ≡ (writing s b 0).buffer
  kept = ap (λ (o : Writing). o.buffer) e

  front-is : (n : ℕ) → n ≡ place_behind s 0 → n ≤ length b → b' ≡ sets b 0 (replaced s) → take n b' ≡ replaced s
  front-is n p l q =
      let k : n ≡ length (replaced s) = omega (arith, zero-add (length (replaced s))) in
      let m : 0 + length (replaced s) ≤ length b = omega (arith, zero-add (length (replaced s))) in
      rw (q, sets-eq (replaced s) b 0 m) (take_at (replaced s) (drop (0 + length (replaced s)) b) n (sym k))

  pub text-short : (r : LentRefusal) → g ≡ Err r → (0 ≡ mixed_replaced h s (length b)) × (b' ≡ (writing s b 0).buffer)
  text-short r q =
      let f = written-short s b b' 0 g e r q in
      (sym (mixed-short h s (length b) (omega (arith, zero-add (length (replaced s))))), kept)

  pub text-mixed : (n x : ℕ) → g ≡ Ok n → x ≡ mixed_all h (take n b') → (x ≡ mixed_replaced h s (length b)) × (b' ≡ (writing s b 0).buffer)
  text-mixed n x q d =
      let f = written-fits s b b' 0 g e n q in
      let l : length (replaced s) ≤ length b = omega (arith, zero-add (length (replaced s))) in
      (d ∙ ap (mixed_all h) (front-is n f.place f.room f.bytes) ∙ sym (mixed-fits h s (length b) l), kept)

  -- the place behind the text lies in the buffer
  pub text-never : (n : ℕ) → g ≡ Ok n → length b < n → (0 ≡ mixed_replaced h s (length b)) × (b' ≡ (writing s b 0).buffer)
  text-never n q l = let f = written-fits s b b' 0 g e n q in absurd (omega arith)

pub ruleset texts = (rules, text-short, text-mixed, text-never, room-enough, room-large)
