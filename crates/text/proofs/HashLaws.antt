-- Laws of the hash.
use Rattle.std.proofs.Common.{◌≡◌, ℕ, suc, ◌+◌, ◌-◌, ◌*◌, ◌%◌, ◌^◌, ◌<◌, ◌≤◌, List, [], ◌∷◌, length, drop, sym, refl, subst, ap, ◌∙◌, mul_assoc, pow-suc, mul-one, add-one, arith}
use native.Mathlib.Nat.{sub-zero}
use Rattle.text.specs.declared.Sequence.{Sequence}
use Rattle.text.specs.Utf8.{sequence_at, size_of, code_of, code_points, replaced}
use Rattle.text.proofs.WriteLaws.{writes, codes-next, codes-end}
use Rattle.text.proofs.ReplacedLaws.{codes-replaced}
use Rattle.arithmetic.proofs.ArithmeticLaws.{mul_mod_left, mul_mod_right}
use Rattle.text.specs.Hash.{hash_from, hash}

-- from a place on, with h so far: the powers are those of a text that starts there
abbrev pub hash_left : ℕ → List ℕ → ℕ
hash_left h cs = hash_from (length cs) 0 h cs

shift : (n i h : ℕ) (cs : List ℕ) → hash_from (n + 1) (i + 1) h cs ≡ hash_from n i h cs
unfolding hash_from
shift n i h [] = refl
shift n i h (c ∷ cs) =
    let e : n + 1 - (i + 1) ≡ n - i = omega arith in
    rw e (shift n (i + 1) ((h + c) * 31 ^ (n - i + 1) % 2 ^ 64) cs)

left-more : (h c : ℕ) (cs : List ℕ) → hash_left h (c ∷ cs) ≡ hash_left ((h + c) * 31 ^ (length (c ∷ cs) + 1) % 2 ^ 64) cs
unfolding hash_from
left-more h c cs =
    let n = length cs in
    let e : suc n ≡ n + 1 = omega arith in
    let x = (h + c) * 31 ^ (n + 1 + 1) % 2 ^ 64 in
    rw (sub-zero (suc n), e) (subst (λ (k : ℕ). hash_from k 1 x cs ≡ hash_from n 0 x cs) (sym e) (shift n 0 x cs))

-- 17256631552825064415 is 31's inverse
falls : (k m : ℕ) → 31 * 17256631552825064415 % m ≡ 1 → 31 ^ (k + 1) % m * 17256631552825064415 % m ≡ 31 ^ k % m
falls k m e =
    rw (
      mul_mod_left (31 ^ (k + 1)) 17256631552825064415 m,
      add-one k,
      pow-suc 31 k,
      mul_assoc (31 ^ k) 31 17256631552825064415,
      ← mul_mod_right (31 ^ k) (31 * 17256631552825064415) m,
      e,
      mul-one (31 ^ k),
    )

-- one character's turn, as the code computes it
turn : (x y m : ℕ) → x % m * (y % m) % m ≡ x * y % m
turn x y m = rw (mul_mod_right (x % m) y m, mul_mod_left x y m)

module _ (s : List ℕ) (at z : ℕ) (p : Sequence) (e : p ≡ sequence_at s at) (q : z ≡ size_of p) (l : at < length s) (power : ℕ) (w : power ≡ 31 ^ (length (code_points (drop at s)) + 1) % 2 ^ 64) where
  hash-more : (h t c sum y : ℕ) → c ≡ code_of p → sum ≡ (h + c) % 2 ^ 64 → y ≡ sum * power % 2 ^ 64 → hash_left h (code_points (drop at s)) ≡ t → hash_left y (code_points (drop (at + z) s)) ≡ t
  hash-more h t c sum y hc hs hy f =
      let d = codes-next s at z p e q l in
      let k : power ≡ 31 ^ (length (code_of p ∷ code_points (drop (at + z) s)) + 1) % 2 ^ 64 = rw d at w in
      rw (hy, hs, hc, k, turn (h + code_of p) (31 ^ (length (code_of p ∷ code_points (drop (at + z) s)) + 1)) (2 ^ 64))
      (sym (left-more h (code_of p) (code_points (drop (at + z) s))) ∙ rw d at f)

  pub power-more : (v : ℕ) → v ≡ power * 17256631552825064415 % 2 ^ 64 → v ≡ 31 ^ (length (code_points (drop (at + z) s)) + 1) % 2 ^ 64
  power-more v hv =
      let n = length (code_points (drop (at + z) s)) in
      let a : length (code_points (drop at s)) ≡ n + 1 = ap length (codes-next s at z p e q l) ∙ suc_one n in
      rw (hv, w, a) (falls (n + 1) (2 ^ 64) refl)
    where
      suc_one : (n : ℕ) → suc n ≡ n + 1
      suc_one n = omega arith

  -- the same, by the sums and products themselves
  pub hash-step : (h t c : ℕ) → c ≡ code_of p → hash_left h (code_points (drop at s)) ≡ t → hash_left ((h + c) % 2 ^ 64 * power % 2 ^ 64) (code_points (drop (at + z) s)) ≡ t
  hash-step h t c hc f = hash-more h t c _ _ hc refl refl f

pub power-start : (s : List ℕ) (n x y : ℕ) → n ≡ length (code_points s) → x ≡ 31 ^ n % 2 ^ 64 → y ≡ x * 31 % 2 ^ 64 → y ≡ 31 ^ (length (code_points s) + 1) % 2 ^ 64
power-start s n x y e hx hy = rw (hy, hx, ← e, mul_mod_left (31 ^ n) 31 (2 ^ 64), add-one n, pow-suc 31 n)

-- the replaced text has the same characters
pub hash-end : (s : List ℕ) (at h : ℕ) → length s ≤ at → hash_left h (code_points (drop at s)) ≡ hash (code_points s) → h ≡ hash (code_points (replaced s))
unfolding hash_from
hash-end s at h l f = (rw (codes-end s at l) at f) ∙ ap hash (sym (codes-replaced s))

pub ruleset hashes = (writes, hash-step, power-more, power-start, hash-end)
