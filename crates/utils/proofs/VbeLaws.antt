-- Laws of the numbers of variable length.
use Rattle.std.proofs.Common.{◌≡◌, ℕ, zero, suc, pred, ◌+◌, ◌-◌, ◌*◌, ◌/◌, ◌%◌, ◌^◌, ◌<◌, ◌≤◌, Bool, true, false, cond, not, eqb, ltb, leb, List, [], length, get_or, ℤ, sym, refl, ap, ◌∙◌, subst, mod-lt, mod-eq_of_lt, mul_assoc, mul-le-mul_left, sub-one, arith, lit<, lit≤, to_z-of_z, w64, Fits, to_z, of_z, rules, le-ltb, lt-ltb, eq-eqb, ne_eqb, eqb-true}
use native.Mathlib.Nat.{pow-succ', one-le-pow}
use lib.Signed.{mag}
use borrow.Author.Tests.{eqb-false}
use Rattle.parsing.specs.Parse.{Res, ok, no, and_then, map_res, byte, Part, part}
use Rattle.parsing.specs.Good.{Post, bind-post, then-post, return_post, fail-post, pick_post}
use Rattle.utils.specs.Vbe.{Groups, groups, below, last_group, Noted, noted, plain_unsigned, plain_signed, noted_unsigned, noted_signed, noted_text, unsigned, text, signed_of}

-- v below the weight of the next group, and left groups to come
pub record Room (v w left : ℕ) : Type 0 where
  pub small : v < w
  pub whole : w * 128 ^ left ≡ 2 ^ 63

pub room-first : Room 0 1 9
room-first = record { small = lit< tt; whole = refl }

pub room-weight : (v w left : ℕ) → Room v w left → 0 < left → w * 128 ≤ 2 ^ 63
room-weight v w zero r h = absurd (omega arith)
room-weight v w (suc k) r h =
    let p : 1 ≤ 128 ^ k = one-le-pow k 128 (lit< tt) in
    let e : w * (128 * 128 ^ k) ≡ 2 ^ 63 = rw pow-succ' at r.whole in
    let l : w * 1 ≤ w * 128 ^ k = mul-le-mul_left w p in
    omega arith

pub room-sum : (v w left g : ℕ) → Room v w left → 0 < left → g < 128 → v + w * g < 2 ^ 63
room-sum v w left g r h q =
    let k : g ≤ 127 = omega arith in
    omega (arith, r.small, room-weight v w left r h, mul-le-mul_left w k)

pub room-more : (v w left g : ℕ) → Room v w left → 0 < left → g < 128 → Room (v + w * g) (w * 128) (left - 1)
room-more v w zero g r h q = absurd (omega arith)
room-more v w (suc k) g r h q =
    let b : g ≤ 127 = omega arith in
    let e : w * (128 * 128 ^ k) ≡ 2 ^ 63 = rw pow-succ' at r.whole in
    record {
      small = omega (arith, r.small, mul-le-mul_left w b);
      whole = rw (sub-one, mul_assoc) e;
    }

-- what the groups from here say, above v and with the weight w
abbrev pub above : ℕ → ℕ → Groups → Groups
above v w g = record { magnitude = v + w * g.magnitude; sign = g.sign; weight = w * g.weight }

pub above-none : (r : Res Groups) → map_res (above 0 1) r ≡ r
above-none (ok g n) = let h : 0 + 1 * g.magnitude ≡ g.magnitude = omega arith in let k : 1 * g.weight ≡ g.weight = omega arith in rw (h, k)
above-none (no x l) = refl

above-below : (v w b : ℕ) (r : Res Groups) → map_res (above v w) (map_res (below b) r) ≡ map_res (above (v + w * (b % 128)) (w * 128)) r
above-below v w b (ok g n) =
    let h : v + w * (b % 128 + 128 * g.magnitude) ≡ v + w * (b % 128) + w * 128 * g.magnitude = omega arith in
    let k : w * (128 * g.weight) ≡ w * 128 * g.weight = omega arith in
    rw (h, k)
above-below v w b (no x l) = refl

pub groups_none : (m k : ℕ) (s : List ℕ) (at : ℕ) → k ≤ 0 → groups m k s at ≡ no 11 []
unfolding groups
groups_none m zero s at e = refl
groups_none m (suc k) s at e = absurd (omega arith)

pub groups-past : (m k : ℕ) (s : List ℕ) (at : ℕ) → 0 < k → length s ≤ at → groups m k s at ≡ no 1 []
unfolding groups
groups-past m zero s at h p = absurd (omega arith)
groups-past m (suc k) s at h p = simp (le-ltb at (length s) p)

pub groups-last : (m k : ℕ) (s : List ℕ) (at b : ℕ) → 0 < k → at < length s → b ≡ get_or s at 0 → b < 128 → groups m k s at ≡ ok (last_group m b) (at + 1)
unfolding groups
groups-last m zero s at b h p e q = absurd (omega arith)
groups-last m (suc k) s at b h p e q = simp (lt-ltb at (length s) p, ← e, lt-ltb _ _ q)

groups-more : (m k : ℕ) (s : List ℕ) (at b : ℕ) → 0 < k → at < length s → b ≡ get_or s at 0 → 128 ≤ b → groups m k s at ≡ map_res (below b) (groups m (k - 1) s (at + 1))
unfolding groups
groups-more m zero s at b h p e q = absurd (omega arith)
groups-more m (suc k) s at b h p e q = simp (lt-ltb at (length s) p, ← e, le-ltb _ _ q, sub-one)

-- the loop: what is left to read, above what was read, is the whole
module _ (m : ℕ) (s : List ℕ) (whole : Res Groups) (v w left next : ℕ) (e : map_res (above v w) (groups m left s next) ≡ whole) where
  pub loop-none : left ≤ 0 → no 11 [] ≡ whole
  loop-none h = (rw (groups_none m left s next h)) ∙ e

  pub loop-past : 0 < left → length s ≤ next → no 1 [] ≡ whole
  loop-past h p = (rw (groups-past m left s next h p)) ∙ e

  pub loop-last : (b : ℕ) → 0 < left → next < length s → b ≡ get_or s next 0 → b < 128 → ok (record { magnitude = v + w * (b % m); sign = b / m; weight = w }) (next + 1) ≡ whole
  loop-last b h p q l = let k : w * 1 ≡ w = omega arith in (rw (groups-last m left s next b h p q l, k)) ∙ e

  pub loop-more : (b : ℕ) → 0 < left → next < length s → b ≡ get_or s next 0 → 128 ≤ b → map_res (above (v + w * (b % 128)) (w * 128)) (groups m (left - 1) s (next + 1)) ≡ whole
  loop-more b h p q l = sym (above-below v w b (groups m (left - 1) s (next + 1))) ∙ (rw (groups-more m left s next b h p q l) at e)

-- the data of k bytes
module _ (m : ℕ) (p : 0 < m) (q : m ≤ 128) where
  pub groups-small : (k : ℕ) → Post (groups m k) (λ g e. g.magnitude < 128 ^ k)
  unfolding groups
  groups-small zero = fail-post 11 [] _
  groups-small (suc k) =
      bind-post byte (λ b. pick_post (ltb b 128)
      (λ t. return_post (last_group m b) (λ g. g.magnitude < 128 ^ suc k) (omega (arith, mod-lt b p, pow-succ' 128 k, one-le-pow k 128 (lit< tt))))
      (λ t. then-post (groups-small k) (λ g x h. return_post (below b g) (λ g. g.magnitude < 128 ^ suc k) (omega (arith, pow-succ' 128 k)))))

  pub groups-bound : (s : List ℕ) (at : ℕ) {g : Groups} {n : ℕ} → groups m 9 s at ≡ ok g n → g.magnitude < 2 ^ 63
  groups-bound s at {g} {n} e = (groups-small 9).holds s at g n e

-- the sums of the loop fit
module _ (v w left m b : ℕ) (r : Room v w left) (h : 0 < left) (p : 0 < m) (q : m ≤ 128) where
  pub fits-group : Fits w64 (w * (b % m))
  fits-group = let z : b % m < 128 = omega (arith, mod-lt b p) in omega (arith, room-sum v w left (b % m) r h z)

  pub fits_sum : Fits w64 (v + w * (b % m))
  fits_sum = let z : b % m < 128 = omega (arith, mod-lt b p) in omega (arith, room-sum v w left (b % m) r h z)

pub fits-weight : (v w left : ℕ) → Room v w left → 0 < left → Fits w64 (w * 128)
fits-weight v w left r h = omega (arith, room-weight v w left r h)

pub room_next : (v w left b : ℕ) → Room v w left → 0 < left → Room (v + w * (b % 128)) (w * 128) (left - 1)
room_next v w left b r h = room-more v w left (b % 128) r h (mod-lt b (lit< tt))

pub ruleset vbes = (rules, room-first, room_next, above-none, fits-group, fits_sum, fits-weight, loop-none, loop-past, loop-last, loop-more)

-- numbers of one byte, and none
module _ (s : List ℕ) (at : ℕ) where
  pub unsigned-past : length s ≤ at → no 1 [] ≡ noted_unsigned s at
  unfolding noted_unsigned
  unsigned-past h = rw (groups-past 128 9 s at (lit< tt) h)

  pub unsigned-one : (b : ℕ) → at < length s → b ≡ get_or s at 0 → b < 128 → ok (noted b true) (at + 1) ≡ noted_unsigned s at
  unfolding noted_unsigned
  unsigned-one b h e l = rw (groups-last 128 9 s at b (lit< tt) h e l, mod-eq_of_lt l)

  pub signed-past : length s ≤ at → no 1 [] ≡ noted_signed s at
  unfolding noted_signed
  signed-past h = rw (groups-past 64 9 s at (lit< tt) h)

  -- the code's local holds the number's bits, and its value is read back from them
  pub signed-one : (b : ℕ) (v : ℤ) (p : Bool) → at < length s → b ≡ get_or s at 0 → b < 128 → mag v < 2 ^ 63 → v ≡ signed_of (b % 64) (b / 64) → p ≡ plain_signed (b % 64) (b / 64) 1 → ok (noted (to_z w64 (of_z w64 v)) p) (at + 1) ≡ noted_signed s at
  unfolding noted_signed
  signed-one b v p h e l m q z = rw (to_z-of_z {w = w64} {z = v} (record { sfits = m }), groups-last 64 9 s at b (lit< tt) h e l, q, z)

pub ruleset ones = (vbes, unsigned-past, unsigned-one, signed-past, signed-one)

-- by the code's tests
module _ (v s w : ℕ) where
  pub plain-one : w ≡ 1 → true ≡ plain_unsigned v w
  plain-one h = rw (eq-eqb w 1 h)

  pub plain_more : (w ≡ 1 → ⊥) → leb w v ≡ plain_unsigned v w
  plain_more h = rw (ne_eqb w 1 h)

  pub plain-zero : w ≡ 1 → v ≡ 0 → eqb s 0 ≡ plain_signed v s w
  plain-zero h k = rw (eq-eqb w 1 h, eq-eqb v 0 k)

  pub plain-data : w ≡ 1 → (v ≡ 0 → ⊥) → true ≡ plain_signed v s w
  plain-data h k = rw (eq-eqb w 1 h, ne_eqb v 0 k)

  pub plain-long : (w ≡ 1 → ⊥) → leb w (2 * v) ≡ plain_signed v s w
  plain-long h = rw (ne_eqb w 1 h)

pub ruleset plains = (rules, plain-one, plain_more, plain-zero, plain-data, plain-long)

-- a text by its length's value alone
pub text-is : (m : List ℕ) (i : ℕ) → text m i ≡ and_then (unsigned m i) (λ n x. cond (leb n (2 ^ 20)) (part n m x) (no 9 []))
unfolding text noted_text unsigned
text-is m i = go (noted_unsigned m i)
  where
    taken : (p : Bool) (r : Res Part) → map_res (λ (t : Noted Part). t.value) (map_res (λ b. noted b p) r) ≡ r
    taken p (ok b e) = refl
    taken p (no n v) = refl

    by : (t p : Bool) (r : Res Part) → map_res (λ (t : Noted Part). t.value) (cond t (map_res (λ b. noted b p) r) (no 9 [])) ≡ cond t r (no 9 [])
    by true p r = taken p r
    by false p r = refl

    go : (r : Res (Noted ℕ)) → map_res (λ (t : Noted Part). t.value) (and_then r (λ n e. cond (leb n.value (2 ^ 20)) (map_res (λ b. noted b n.plain) (part n.value m e)) (no 9 []))) ≡ and_then (map_res (λ (n : Noted ℕ). n.value) r) (λ n x. cond (leb n (2 ^ 20)) (part n m x) (no 9 []))
    go (ok n e) = by (leb n.value (2 ^ 20)) n.plain (part n.value m e)
    go (no n v) = refl

-- a signed number of one byte is plain if the byte is not 40, in base 16
pub first_plain : (a : ℕ) → a < 128 → not (eqb a 64) ≡ plain_signed (a % 64) (a / 64) 1
first_plain a l = go (eqb a 64) refl (eqb (a % 64) 0) refl
  where
    go : (t : Bool) → eqb a 64 ≡ t → (u : Bool) → eqb (a % 64) 0 ≡ u → not t ≡ cond u (eqb (a / 64) 0) true
    go true q true z = let h = eqb-true a 64 q in rw (ne_eqb (a / 64) 0 (λ k. omega arith))
    go true q false z = absurd (let h = eqb-true a 64 q in eqb-false (a % 64) 0 z (omega arith))
    go false q true z = let h = eqb-true (a % 64) 0 z in let n = eqb-false a 64 q in rw (eq-eqb (a / 64) 0 (omega arith))
    go false q false z = refl
