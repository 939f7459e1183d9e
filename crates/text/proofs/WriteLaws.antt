-- Laws of the characters of a text, of the length of the replaced text, and of writing it.
use Rattle.std.proofs.Common.{◌≡◌, ℕ, zero, suc, ◌+◌, ◌-◌, ◌/◌, ◌^◌, ◌<◌, ◌≤◌, Bool, true, false, leb, List, [], ◌∷◌, ◌++◌, length, get_or, take, drop, set, sym, refl, ap, ◌∙◌, add-one, sub-one, arith, length-append, length-drop, length-set, length-take, drop-drop, le-leb, leb-false, leb-true}
use native.Mathlib.Numerals.{add-two}
use lib.Seq.{sets, length-sets, take-length}
use borrow.Author.Tests.{lt-leb}
use Rattle.parsing.specs.Parse.{ok}
use Rattle.parsing.proofs.Loops.{sets-append}
use Rattle.error.specs.declared.LentRefusal.{LentRefusal}
use Rattle.error.specs.Refusals.{lent_refused, short_buffer}
use Rattle.arithmetic.specs.Cut.{cut}
use Rattle.text.specs.declared.Sequence.{Sequence}
use Rattle.text.specs.declared.Sequence.TheVariants.{Char, Ill}
use Rattle.text.specs.Utf8.{sequence_at, size_of, code_of, written_of, sequence_bytes, valid, sequences, codes_of, code_points, bytes_of_all, replaced}
use Rattle.text.specs.Writing.{Writing, place_behind, writing}
use Rattle.arithmetic.proofs.CutLaws.{cut_fits, cut-add, cut_small}
use Rattle.text.proofs.Utf8Laws.{sequences-here, sequences-end, sequence-some, sequence-fits, drop_here, texts}
use Rattle.text.proofs.ReplacedLaws.{valid-kept, replaced-most}

-- what is left, from a place on
codes-here : (s : List ℕ) (at : ℕ) → at < length s → code_points (drop at s) ≡ code_of (sequence_at s at) ∷ code_points (drop (at + size_of (sequence_at s at)) s)
unfolding codes_of
codes-here s at h = rw (sequences-here s at h)

pub codes-end : (s : List ℕ) (at : ℕ) → length s ≤ at → code_points (drop at s) ≡ []
unfolding codes_of
codes-end s at h = rw (sequences-end s at h)

replaced-here : (s : List ℕ) (at : ℕ) → at < length s → replaced (drop at s) ≡ sequence_bytes (sequence_at s at) (drop at s) ++ replaced (drop (at + size_of (sequence_at s at)) s)
unfolding bytes_of_all
replaced-here s at h =
    ap (λ ps. bytes_of_all ps (drop at s)) (sequences-here s at h)
    ∙ ap (λ t. sequence_bytes (sequence_at s at) (drop at s) ++ bytes_of_all (sequences (drop (at + size_of (sequence_at s at)) s)) t) (drop-drop (size_of (sequence_at s at)) at s)

replaced-end : (s : List ℕ) (at : ℕ) → length s ≤ at → replaced (drop at s) ≡ []
unfolding bytes_of_all
replaced-end s at h = ap (λ ps. bytes_of_all ps (drop at s)) (sequences-end s at h)

written-bytes : (p : Sequence) (s : List ℕ) (at : ℕ) → at + size_of p ≤ length s → length (sequence_bytes p (drop at s)) ≡ written_of p
written-bytes (Char c n) s at h = omega (arith, length-take n (drop at s), length-drop at s)
written-bytes (Ill n) s at h = refl

-- what is taken off both sides
leb-sub : (w x room : ℕ) → w ≤ room → leb x (room - w) ≡ leb (w + x) room
leb-sub w x room h = go (leb (w + x) room) refl
  where
    go : (b : Bool) → leb (w + x) room ≡ b → leb x (room - w) ≡ b
    go true k = le-leb x (room - w) (omega (arith, leb-true (w + x) room k))
    go false k = lt-leb x (room - w) (omega (arith, leb-false (w + x) room k))

-- one sequence more
module _ (s : List ℕ) (at n : ℕ) (p : Sequence) (e : p ≡ sequence_at s at) (q : n ≡ size_of p) (h : at < length s) where
  pub codes-next : code_points (drop at s) ≡ code_of p ∷ code_points (drop (at + n) s)
  codes-next = rw (q, e) (codes-here s at h)

  replaced-next : replaced (drop at s) ≡ sequence_bytes p (drop at s) ++ replaced (drop (at + n) s)
  replaced-next = rw (q, e) (replaced-here s at h)

  written : length (sequence_bytes p (drop at s)) ≡ written_of p
  written = written-bytes p s at (rw e (sequence-fits s at h))

  -- the length left
  length-next : length (replaced (drop at s)) ≡ written_of p + length (replaced (drop (at + n) s))
  length-next = omega (arith, ap length replaced-next, length-append (sequence_bytes p (drop at s)) (replaced (drop (at + n) s)), written)

  -- the characters counted so far
  pub count-more : (k t : ℕ) → k + length (code_points (drop at s)) ≡ t → k + 1 + length (code_points (drop (at + n) s)) ≡ t
  count-more k t f = omega (arith, ap length codes-next)

  pub count-bound : (k : ℕ) → k ≤ at → k + 1 ≤ at + n
  count-bound k f = omega (arith, rw (← e) at (sequence-some s at))

  module _ (w : ℕ) (g : w ≡ written_of p) where
    -- the bytes counted so far
    pub len_more : (k k' t : ℕ) → k' ≡ cut (k + w) → cut (k + length (replaced (drop at s))) ≡ t → cut (k' + length (replaced (drop (at + n) s))) ≡ t
    len_more k k' t i f =
        let r = length (replaced (drop (at + n) s)) in
        let a : k + w + r ≡ k + length (replaced (drop at s)) = omega (arith, length-next) in
        ap (λ x. cut (x + r)) i ∙ cut-add (k + w) r ∙ ap cut a ∙ f

    -- the room left
    pub room-more : (room : ℕ) (t : Bool) → w ≤ room → leb (length (replaced (drop at s))) room ≡ t → leb (length (replaced (drop (at + n) s))) (room - w) ≡ t
    room-more room t l f =
        let x = length (replaced (drop (at + n) s)) in
        let y : w + x ≡ length (replaced (drop at s)) = omega (arith, length-next) in
        leb-sub w x room l ∙ ap (λ z. leb z room) y ∙ f

pub len-start : (n : ℕ) → cut (0 + n) ≡ cut n
len-start n = let z : 0 + n ≡ n = omega arith in ap cut z

module _ (s : List ℕ) (at k t : ℕ) (h : length s ≤ at) where
  pub count-end : k + length (code_points (drop at s)) ≡ t → k ≡ t
  count-end f = omega (arith, ap length (codes-end s at h))

  pub len-end : k < 2 ^ 64 → cut (k + length (replaced (drop at s))) ≡ t → k ≡ t
  len-end l f = let z : k + length (replaced (drop at s)) ≡ k = omega (arith, ap length (replaced-end s at h)) in sym (cut_fits k l) ∙ ap cut (sym z) ∙ f

pub room-end : (s : List ℕ) (at room : ℕ) (t : Bool) → length s ≤ at → leb (length (replaced (drop at s))) room ≡ t → true ≡ t
room-end s at room t h f = sym (le-leb (length (replaced (drop at s))) room (omega (arith, ap length (replaced-end s at h)))) ∙ f

-- a place in a buffer
module _ (s : List ℕ) (start len : ℕ) where
  pub start-past : len < start → false ≡ leb (place_behind s start) len
  start-past h = sym (lt-leb (place_behind s start) len (omega arith))

  pub room-ample : start ≤ len → length s ≤ (len - start) / 3 → true ≡ leb (place_behind s start) len
  room-ample h k = sym (le-leb (place_behind s start) len (omega (arith, replaced-most s)))

  pub room-start : start ≤ len → leb (length (replaced s)) (len - start) ≡ leb (place_behind s start) len
  room-start h = leb-sub start (length (replaced s)) len h

-- a byte copied, and what is left
copy_step : (s l t : List ℕ) (a b left : ℕ) → 0 < left → a + left ≤ length s → sets l b (take left (drop a s)) ≡ t → sets (set l b (get_or s a 0)) (b + 1) (take (left - 1) (drop (a + 1) s)) ≡ t
copy_step s l t a b zero z h f = absurd (omega arith)
copy_step s l t a b (suc left) z h f =
    let d : drop a s ≡ get_or s a 0 ∷ drop (a + 1) s = drop_here s a (get_or s a 0) (omega arith) refl in
    rw (add-one b, sub-one (suc left)) (rw d at f)

module _ (s l t : List ℕ) (from to n i : ℕ) where
  pub copy_more : i < n → from + n ≤ length s → sets l (to + i) (take (n - i) (drop (from + i) s)) ≡ t → sets (set l (to + i) (get_or s (from + i) 0)) (to + (i + 1)) (take (n - (i + 1)) (drop (from + (i + 1)) s)) ≡ t
  copy_more h k f =
      let a : from + (i + 1) ≡ from + i + 1 = omega arith in
      let b : to + (i + 1) ≡ to + i + 1 = omega arith in
      let c : n - (i + 1) ≡ n - i - 1 = omega arith in
      rw (a, b, c) (copy_step s l t (from + i) (to + i) (n - i) (omega arith) (omega arith) f)

  pub copy-end : n ≤ i → sets l (to + i) (take (n - i) (drop (from + i) s)) ≡ t → l ≡ t
  copy-end h f = let e : n - i ≡ 0 = omega arith in rw e at f

-- a sequence written
module _ (s : List ℕ) (at n to to' : ℕ) (p : Sequence) (e : p ≡ sequence_at s at) (q : n ≡ size_of p) (h : at < length s) (g : to' ≡ to + written_of p) where
  pub write-more : (l l' t : List ℕ) → l' ≡ sets l to (sequence_bytes p (drop at s)) → sets l to (replaced (drop at s)) ≡ t → sets l' to' (replaced (drop (at + n) s)) ≡ t
  write-more l l' t k f =
      rw (k, g, ← written s at n p e q h, ← sets-append (sequence_bytes p (drop at s)) (replaced (drop (at + n) s)) l to, ← replaced-next s at n p e q h) f

  pub write-on : (t : ℕ) → to + length (replaced (drop at s)) ≡ t → to' + length (replaced (drop (at + n) s)) ≡ t
  write-on t f = omega (arith, length-next s at n p e q h)

pub write_kept : (l l' xs : List ℕ) (to m : ℕ) → l' ≡ sets l to xs → length l ≡ m → length l' ≡ m
write_kept l l' xs to m k f = ap length k ∙ length-sets l to xs ∙ f

pub write-end : (s l t : List ℕ) (at to : ℕ) → length s ≤ at → sets l to (replaced (drop at s)) ≡ t → l ≡ t
write-end s l t at to h f = rw (replaced-end s at h) at f

pub write-stop : (s : List ℕ) (at to t : ℕ) → length s ≤ at → to + length (replaced (drop at s)) ≡ t → to ≡ t
write-stop s at to t h f = omega (arith, ap length (replaced-end s at h))

-- the room for a sequence
module _ (s : List ℕ) (at : ℕ) (p : Sequence) (e : p ≡ sequence_at s at) (h : at < length s) where
  pub room-short : (w room : ℕ) (t : Bool) → w ≡ written_of p → room < w → leb (length (replaced (drop at s))) room ≡ t → false ≡ t
  room-short w room t g l f = sym (lt-leb (length (replaced (drop at s))) room (omega (arith, length-next s at (size_of p) p e refl h))) ∙ f

  pub sequence-room : (l : List ℕ) (to t m : ℕ) → to + length (replaced (drop at s)) ≡ t → t ≤ m → length l ≡ m → to + written_of p ≤ length l
  sequence-room l to t m f k g = omega (arith, length-next s at (size_of p) p e refl h)

  pub sequence-within : at + size_of p ≤ length s
  sequence-within = rw e (sequence-fits s at h)

module _ (p : Sequence) (c n to m : ℕ) (e : p ≡ Char c n) where
  pub char-in : to + size_of p ≤ m → to + n ≤ m
  char-in h = rw e at h

  pub char-room : to + written_of p ≤ m → to + n ≤ m
  char-room h = rw e at h

  pub char-fits : to + written_of p ≤ m → m < 2 ^ 64 → to + n < 2 ^ 64
  char-fits h l = omega (arith, char-room h)

  pub char-next : to + n ≡ to + written_of p
  char-next = rw e

  pub char-put : (l l' s : List ℕ) → l' ≡ sets l to (take n s) → l' ≡ sets l to (sequence_bytes p s)
  char-put l l' s f = rw e f

module _ (p : Sequence) (n to : ℕ) (l : List ℕ) (e : p ≡ Ill n) where
  pub ill-next : to + 3 ≡ to + written_of p
  ill-next = rw e

  pub ill-put : (s : List ℕ) → set (set (set l to 0xEF) (to + 1) 0xBF) (to + 2) 0xBD ≡ sets l to (sequence_bytes p s)
  ill-put s = rw (e, add-one to, add-two to)

  module _ (h : to + written_of p ≤ length l) where
    pub ill-first : to < length l
    ill-first = omega (arith, ill-next)

    pub ill-second : (x : ℕ) → to + 1 < length (set l to x)
    ill-second x = omega (arith, ill-next, length-set l to x)

    pub ill-third : (x y : ℕ) → to + 2 < length (set (set l to x) (to + 1) y)
    ill-third x y = omega (arith, ill-next, length-set l to x, length-set (set l to x) (to + 1) y)

-- a valid text, copied whole
module _ (s : List ℕ) (v : Bool) (e : v ≡ valid s) (f : v ≡ true) where
  kept : replaced s ≡ s
  kept = valid-kept s (sym e ∙ f)

  kept_same : length s ≡ length (replaced s)
  kept_same = sym (ap length kept)

  pub kept-len : length s < 2 ^ 64 → length s ≡ cut (length (replaced s))
  kept-len l = sym (cut_fits (length s) l) ∙ ap cut kept_same

  module _ (start m : ℕ) (h : start + length (replaced s) ≤ m) where
    pub kept-room : start + length s ≤ m
    kept-room = omega (arith, kept_same)

    pub kept-fits : m < 2 ^ 64 → start + length s < 2 ^ 64
    kept-fits l = omega (arith, kept_same)

  pub kept_next : (start : ℕ) → start + length s ≡ start + length (replaced s)
  kept_next start = omega (arith, kept_same)

  pub kept_put : (l l' : List ℕ) (start : ℕ) → l' ≡ sets l start (take (length s) (drop 0 s)) → l' ≡ sets l start (replaced s)
  kept_put l l' start g = g ∙ ap (sets l start) (take-length s ∙ sym kept)

-- what the buffer then holds
module _ (s b : List ℕ) (start : ℕ) where
  pub writing-fits : place_behind s start ≤ length b → writing s b start ≡ record { answer = ok tt (place_behind s start); buffer = sets b start (replaced s) }
  unfolding writing
  writing-fits h = rw (le-leb (place_behind s start) (length b) h)

  pub writing-short : length b < place_behind s start → writing s b start ≡ record { answer = lent_refused (short_buffer (cut (place_behind s start))); buffer = b }
  unfolding writing
  writing-short h = rw (lt-leb (place_behind s start) (length b) h)

  module _ (v : Bool) (e : v ≡ leb (place_behind s start) (length b)) where
    pub fits-room : v ≡ true → place_behind s start ≤ length b
    fits-room f = leb-true (place_behind s start) (length b) (sym e ∙ f)

    pub fits-done : (n : ℕ) (b' : List ℕ) → v ≡ true → n ≡ place_behind s start → b' ≡ sets b start (replaced s) → ◌≡◌ {A = Writing} (record { answer = ok tt n; buffer = b' }) (writing s b start)
    fits-done n b' f g h = rw (g, h) (sym (writing-fits (fits-room f)))

    pub short-done : (n m : ℕ) (r : LentRefusal) → v ≡ false → n ≡ cut (length (replaced s)) → m ≡ cut (n + start) → r ≡ short_buffer m → ◌≡◌ {A = Writing} (record { answer = lent_refused r; buffer = b }) (writing s b start)
    short-done n m r f g h i =
        let w : length (replaced s) + start ≡ place_behind s start = omega arith in
        let z : m ≡ cut (place_behind s start) = h ∙ ap (λ x. cut (x + start)) g ∙ cut-add (length (replaced s)) start ∙ ap cut w in
        rw (i, z) (sym (writing-short (leb-false (place_behind s start) (length b) (sym e ∙ f))))

pub ruleset writes = (
  texts,
  cut_small,
  count-more,
  count-bound,
  count-end,
  len-start,
  len_more,
  len-end,
  room-more,
  room-short,
  room-end,
  start-past,
  room-ample,
  room-start,
  copy_more,
  copy-end,
  write-more,
  write-on,
  write_kept,
  write-end,
  write-stop,
  sequence-room,
  sequence-within,
  char-in,
  char-room,
  char-fits,
  char-next,
  char-put,
  ill-next,
  ill-put,
  ill-first,
  ill-second,
  ill-third,
  kept-len,
  kept-room,
  kept-fits,
  kept_next,
  kept_put,
  fits-room,
  fits-done,
  short-done,
)
