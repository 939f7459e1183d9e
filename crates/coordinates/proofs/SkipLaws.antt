-- The loop that passes over coordinates, and that what it passes are coordinates.
use Prim.Native.Nat.{ℕ, zero, suc, ◌+◌, ◌-◌, ◌*◌, ◌/◌, ◌%◌, ◌^◌, ◌<◌, ◌≤◌}
use native.Mathlib.Omega.{arith}
use mathlib.Core.Path.{◌≡◌, refl, sym, ap}
use mathlib.Core.Bool.{Bool, true, false, cond, not, ◌&&◌, ◌||◌, and-true, and_assoc, false≢true}
use mathlib.Core.List.{List, [], ◌∷◌, ◌++◌}
use lib.Dec.{ltb, eqb, leb, lit<, lit≤}
use lib.IntN.{ℤ, pos, neg_ℤ, nat_abs}
use lib.ListN.{length, get_or}
use mir.Syntax.{w8}
use mir.Val.{Fits}
use borrow.Author.Tests.{le-ltb, lt-ltb, ltb-true, ltb-false, le-leb, lt-leb, eq-eqb, ne_eqb, eqb-true, eqb-false, leb-true, leb-false}
use borrow.Author.Rules.{rules}
use Rattle.std.specs.Prelude.{Some, None}
use Rattle.parsing.specs.Parse.{Res, ok, no, and_then, map_res, many, byte}
use Rattle.parsing.specs.Good.{split, ok_at, no_ok}
use Rattle.parsing.proofs.Loops.{fold_more, view-no}
use Rattle.utils.specs.Vbe.{Noted, noted, all_plain, Groups, groups, last_group, below, signed_of, plain_signed, noted_signed, noted_coordinate}
use Rattle.utils.proofs.VbeLaws.{groups-small, first_plain}
use Rattle.coordinates.specs.Skip.{short, skip_one, skip_all, skip_of, plain_end, not_plain, not_short, is_off, off_at, any_off, open_in, start_of, PassedTo}

-- by the code's tests
module _ (before last : ℕ) where
  pub end_low : last % 64 ≡ 0 → leb 192 before ≡ plain_end before last
  end_low h = rw (eq-eqb (last % 64) 0 h)

  pub end-high : (last % 64 ≡ 0 → ⊥) → true ≡ plain_end before last
  end-high h = rw (ne_eqb (last % 64) 0 h)

-- the last two bytes tell: twice the value v has the weight w if their data are 64 or more
end-plain : (b l v w : ℕ) → 128 ≤ b → b < 256 → (64 ≤ b % 128 + 128 * (l % 64) → w ≤ 2 * v) → (b % 128 + 128 * (l % 64) < 64 → 2 * v < w) → plain_end b l ≡ leb w (2 * v)
end-plain b l v w high fits more less = go (eqb (l % 64) 0) refl (leb 192 b) refl
  where
    go : (t : Bool) → eqb (l % 64) 0 ≡ t → (u : Bool) → leb 192 b ≡ u → cond t u true ≡ leb w (2 * v)
    go true q true z = let h = leb-true 192 b z in sym (le-leb w (2 * v) (more (omega arith)))
    go true q false z = let h = leb-false 192 b z in let k = eqb-true (l % 64) 0 q in sym (lt-leb w (2 * v) (less (omega arith)))
    go false q u z = let k = eqb-false (l % 64) 0 q in sym (le-leb w (2 * v) (more (omega arith)))

-- one number, by its bytes
module _ (s : List ℕ) (at : ℕ) (r : at + 3 ≤ length s) where
  pub one_byte : get_or s at 0 < 128 → Some (not (eqb (get_or s at 0) 64), at + 1) ≡ skip_one (short s at)
  unfolding short groups
  one_byte h = simp (lt-ltb at (length s) (omega arith), lt-ltb _ _ h) (rw (first_plain (get_or s at 0) h))

  module _ (h : 128 ≤ get_or s at 0) where
    pub two_bytes : (p : Bool) → ((i : ℕ) → Fits w8 (get_or s i 0)) → get_or s (at + 1) 0 < 128 → p ≡ plain_end (get_or s at 0) (get_or s (at + 1) 0) → Some (p, at + 2) ≡ skip_one (short s at)
    unfolding short groups
    two_bytes p k l q =
        let z : at + 2 ≡ at + 1 + 1 = omega arith in
        simp (lt-ltb at (length s) (omega arith), le-ltb _ _ h, lt-ltb (at + 1) (length s) (omega arith), lt-ltb _ _ l)
        (rw (q, z, end-plain (get_or s at 0) (get_or s (at + 1) 0) (get_or s at 0 % 128 + 128 * (get_or s (at + 1) 0 % 64)) 128 h (omega (arith, k at)) (λ t. omega arith) (λ t. omega arith)))

    module _ (l : 128 ≤ get_or s (at + 1) 0) where
      pub three-bytes : (p : Bool) → ((i : ℕ) → Fits w8 (get_or s i 0)) → get_or s (at + 2) 0 < 128 → p ≡ plain_end (get_or s (at + 1) 0) (get_or s (at + 2) 0) → Some (p, at + 3) ≡ skip_one (short s at)
      unfolding short groups
      three-bytes p k o q =
          let z : at + 1 + 1 ≡ at + 2 = omega arith in
          let y : at + 3 ≡ at + 2 + 1 = omega arith in
          let b = get_or s (at + 1) 0 in
          let x : get_or s at 0 % 128 < 128 = omega arith in
          simp (lt-ltb at (length s) (omega arith), le-ltb _ _ h, lt-ltb (at + 1) (length s) (omega arith), le-ltb _ _ l, z, lt-ltb (at + 2) (length s) (omega arith), lt-ltb _ _ o)
          (rw (q, y, end-plain b (get_or s (at + 2) 0) (get_or s at 0 % 128 + 128 * (b % 128 + 128 * (get_or s (at + 2) 0 % 64))) 16384 l (omega (arith, k (at + 1))) (λ t. omega arith) (λ t. omega arith)))

      pub more_bytes : 128 ≤ get_or s (at + 2) 0 → None ≡ skip_one (short s at)
      unfolding short groups
      more_bytes o =
          let z : at + 1 + 1 ≡ at + 2 = omega arith in
          simp (lt-ltb at (length s) (omega arith), le-ltb _ _ h, lt-ltb (at + 1) (length s) (omega arith), le-ltb _ _ l, z, lt-ltb (at + 2) (length s) (omega arith), le-ltb _ _ o)

-- at most k bytes
groups-end : (m k : ℕ) (s : List ℕ) (at : ℕ) (g : Groups) (e : ℕ) → groups m k s at ≡ ok g e → e ≤ at + k
unfolding groups
groups-end m zero s at g e h = no_ok h
groups-end m (suc k) s at g e h =
    let u = split (byte s at) (λ b x. cond (ltb b 128) (ok (last_group m b) x) (and_then (groups m k s x) (λ g y. ok (below b g) y))) g e h in
    let z = passes (ltb at (length s)) u.first in
    go u.val u.mid z (λ g e h. groups-end m k s u.mid g e h) (ltb u.val 128) u.second
  where
    passes : {b x : ℕ} (t : Bool) → cond t (ok (get_or s at 0) (at + 1)) (no 1 []) ≡ ok b x → at + 1 ≡ x
    passes true q = ok_at q
    passes false q = no_ok q

    go : (b x : ℕ) → at + 1 ≡ x → ((g : Groups) (e : ℕ) → groups m k s x ≡ ok g e → e ≤ x + k) → (t : Bool) → cond t (ok (last_group m b) x) (and_then (groups m k s x) (λ g y. ok (below b g) y)) ≡ ok g e → e ≤ at + suc k
    go b x p ih true q = let z = ok_at q in omega arith
    go b x p ih false q =
        let v = split (groups m k s x) (λ g y. ok (below b g) y) g e q in
        let z = ok_at v.second in
        omega (arith, ih v.val v.mid v.first)

short-end : (s : List ℕ) (at : ℕ) (v : Noted ℤ) (e : ℕ) → short s at ≡ ok v e → e ≤ at + 3
unfolding short
short-end s at v e h =
    let u = split (groups 64 3 s at) (λ g x. ok (noted (signed_of g.magnitude g.sign) (plain_signed g.magnitude g.sign g.weight)) x) v e h in
    omega (arith, groups-end 64 3 s at u.val u.mid u.first, ok_at u.second)

-- the loop
pub plain-snoc : {A : Type 0} (xs : List (Noted A)) (v : Noted A) → all_plain (xs ++ (v ∷ [])) ≡ all_plain xs && v.plain
plain-snoc [] v = and-true v.plain
plain-snoc (x ∷ xs) v = rw (plain-snoc xs v, and_assoc)

parts : {A B : Type 0} (x y : A × B) → Some x ≡ Some y → (x.0 ≡ y.0) × (x.1 ≡ y.1)
parts x y h = let q : x ≡ y = cc in (ap (λ z. z.0) q, ap (λ z. z.1) q)

module _ (s : List ℕ) (next : ℕ) (p : Bool) (after : ℕ) (h : Some (p, after) ≡ skip_one (short s next)) where
  one-passed : map_res (λ v. v.plain) (short s next) ≡ ok p after
  one-passed = go (short s next) h
    where
      go : (r : Res (Noted ℤ)) → Some (p, after) ≡ skip_one r → map_res (λ v. v.plain) r ≡ ok p after
      go (ok v e) z = let q = parts _ _ z in rw (q.0, q.1)
      go (no n v) z = cc

  pub skip-near : after ≤ next + 3
  skip-near =
      let u = split (short s next) (λ v x. ok v.plain x) p after one-passed in
      omega (arith, short-end s next u.val u.mid u.first, ok_at u.second)

  pub skip-more : (i at : ℕ) (b : Bool) → map_res all_plain (many short i s at) ≡ ok b next → map_res all_plain (many short (i + 1) s at) ≡ ok (b && p) after
  skip-more i at b e = fold_more short s all_plain (λ v. v.plain) ◌&&◌ plain-snoc i at e one-passed

pub skip-done : (s : List ℕ) (at n i next : ℕ) (b : Bool) → at + 3 * n ≤ length s → map_res all_plain (many short i s at) ≡ ok b next → i ≤ n → n ≤ i → Some (b, next) ≡ skip_of s at n
skip-done s at n i next b h e c d =
    let k : i ≡ n = omega arith in
    rw (le-leb (at + 3 * n) (length s) h) (go (many short n s at) (rw k at e))
  where
    go : (r : Res (List (Noted ℤ))) → map_res all_plain r ≡ ok b next → Some (b, next) ≡ skip_all r
    go (ok l e) z = cc
    go (no n v) z = no_ok z

pub skip_stop : (s : List ℕ) (at n i next : ℕ) (b : Bool) → map_res all_plain (many short i s at) ≡ ok b next → None ≡ skip_one (short s next) → i < n → None ≡ skip_of s at n
skip_stop s at n i next b e q c = go (short s next) refl q
  where
    either : (t : Bool) (r : Res (List (Noted ℤ))) → None ≡ skip_all r → None ≡ cond t (skip_all r) None
    either true r z = z
    either false r z = refl

    go : (r : Res (Noted ℤ)) → short s next ≡ r → None ≡ skip_one r → None ≡ skip_of s at n
    go (ok v x) d z = cc
    go (no k v) d z = either (leb (at + 3 * n) (length s)) (many short n s at) (rw (view-no short s all_plain (λ v. v.plain) i n at e (ap (map_res (λ v. v.plain)) d) c))

-- what is known of a byte that is not off
or_no : (a b : Bool) → a || b ≡ false → (a ≡ false) × (b ≡ false)
or_no false b h = (refl, h)
or_no true b h = absurd (false≢true (sym h))

module _ (second before b : ℕ) (z : is_off second before b ≡ false) where
  plain-off : not_plain before b ≡ false
  plain-off = (or_no (not_plain before b) (not_short second before b) z).0

  off-first : before < 128 → b < 128 → not (eqb b 64) ≡ true
  off-first low h = go (eqb b 64) refl
    where
      go : (t : Bool) → eqb b 64 ≡ t → not t ≡ true
      go false q = refl
      go true q = absurd (false≢true (sym (rw (lt-ltb before 192 (omega arith), q) at plain-off)))

  off-end : 128 ≤ before → b < 128 → plain_end before b ≡ true
  off-end high h = go (eqb (b % 64) 0) refl (leb 192 before) refl
    where
      go : (t : Bool) → eqb (b % 64) 0 ≡ t → (u : Bool) → leb 192 before ≡ u → cond t u true ≡ true
      go false q u y = refl
      go true q true y = refl
      go true q false y =
          let l = or_no (eqb b 64) (eqb b 0 && true) (rw (lt-ltb before 192 (leb-false 192 before y), le-leb 128 before high) at plain-off) in
          let k = eqb-true (b % 64) 0 q in
          let x = eqb-false b 64 l.0 in
          absurd (false≢true (sym (rw (eq-eqb b 0 (omega arith)) at l.1)))

  off-long : 128 ≤ second → 128 ≤ before → 128 ≤ b → ⊥
  off-long h k l = false≢true (sym (rw (le-leb 128 second h, le-leb 128 before k, le-leb 128 b l) at (or_no (not_plain before b) (not_short second before b) z).1))

module _ (s : List ℕ) (at n : ℕ) (k : (i : ℕ) → Fits w8 (get_or s i 0)) where
  passed-one : (start after l m : ℕ) → Some (true, after) ≡ skip_one (short s start) → after ≤ start + 3 → 0 < l → m + 1 ≡ l → PassedTo s at n start l → PassedTo s at n after m
  passed-one start after l m g h o q p =
      let y : n - l + 1 ≡ n - m = omega arith in
      ((omega arith, omega arith), rw y at (skip-more s start true after g (n - l) at true p.1))

  -- the byte behind those at i and i + 1
  pass-one : (i l m : ℕ) → 0 < l → m + 1 ≡ l + get_or s (i + 2) 0 / 128 → off_at s i (i + 1) (i + 2) ≡ false → PassedTo s at n (start_of s i) l → PassedTo s at n (start_of s (i + 1)) m
  pass-one i l m o q f p =
      rw (z, y) (go (ltb (get_or s (i + 1) 0) 128) refl (ltb (get_or s i 0) 128) refl (ltb (get_or s (i + 2) 0) 128) refl p)
    where
      z : i + 1 + 1 ≡ i + 2
      z = omega arith

      y : i + 1 + 2 ≡ i + 3
      y = omega arith

      stays : (start : ℕ) → 128 ≤ get_or s (i + 2) 0 → PassedTo s at n start l → PassedTo s at n start m
      stays start h p = let x : l ≡ m = omega (arith, k (i + 2)) in rw x at p

      go : (u : Bool) → ltb (get_or s (i + 1) 0) 128 ≡ u → (v : Bool) → ltb (get_or s i 0) 128 ≡ v → (w : Bool) → ltb (get_or s (i + 2) 0) 128 ≡ w
          → PassedTo s at n (cond u (i + 2) (cond v (i + 1) i)) l → PassedTo s at n (cond w (i + 3) (cond u (i + 2) (i + 1))) m
      go true g v h true x p =
          let a = ltb-true (get_or s (i + 1) 0) 128 g in
          let b = ltb-true (get_or s (i + 2) 0) 128 x in
          let c : i + 2 + 1 ≡ i + 3 = omega arith in
          passed-one (i + 2) (i + 3) l m (rw (off-first (get_or s i 0) (get_or s (i + 1) 0) (get_or s (i + 2) 0) f a b, c) at (one_byte s (i + 2) (omega arith) b)) (omega arith) o (omega arith) p
      go true g v h false x p = stays (i + 2) (ltb-false (get_or s (i + 2) 0) 128 x) p
      go false g true h true x p =
          let a = ltb-false (get_or s (i + 1) 0) 128 g in
          let b = ltb-true (get_or s (i + 2) 0) 128 x in
          passed-one (i + 1) (i + 3) l m (rw y at (two_bytes s (i + 1) (omega arith) a true k (rw z b) (rw z (sym (off-end (get_or s i 0) (get_or s (i + 1) 0) (get_or s (i + 2) 0) f a b))))) (omega arith) o (omega arith) p
      go false g true h false x p = stays (i + 1) (ltb-false (get_or s (i + 2) 0) 128 x) p
      go false g false h true x p =
          let a = ltb-false (get_or s (i + 1) 0) 128 g in
          let b = ltb-true (get_or s (i + 2) 0) 128 x in
          passed-one i (i + 3) l m (three-bytes s i (omega arith) (ltb-false (get_or s i 0) 128 h) a true k b (sym (off-end (get_or s i 0) (get_or s (i + 1) 0) (get_or s (i + 2) 0) f a b))) (omega arith) o (omega arith) p
      go false g false h false x p = absurd (off-long (get_or s i 0) (get_or s (i + 1) 0) (get_or s (i + 2) 0) f (ltb-false (get_or s i 0) 128 h) (ltb-false (get_or s (i + 1) 0) 128 g) (ltb-false (get_or s (i + 2) 0) 128 x))

  -- the next byte, where i is written otherwise
  pass-next : (i j t r l m : ℕ) → j ≡ i + 1 → t ≡ i + 2 → r ≡ i + 1 → 0 < l → m + 1 ≡ l + get_or s t 0 / 128 → off_at s i j t ≡ false → PassedTo s at n (start_of s i) l → PassedTo s at n (start_of s r) m
  pass-next i j t r l m a b c o q f p = rw c (pass-one i l m o (rw b at q) (rw (a, b) at f) p)

  pub pass-eight : (i l : ℕ) → 8 ≤ l → any_off s i ≡ false → PassedTo s at n (start_of s i) l → PassedTo s at n (start_of s (i + 8)) (l - 8 + open_in s i)
  pass-eight i l o f p =
      let e7 = or_no _ _ f in
      let e6 = or_no _ _ e7.0 in
      let e5 = or_no _ _ e6.0 in
      let e4 = or_no _ _ e5.0 in
      let e3 = or_no _ _ e4.0 in
      let e2 = or_no _ _ e3.0 in
      let e1 = or_no _ _ e2.0 in
      let p1 = pass-next i (i + 1) (i + 2) (i + 1) l (l - 1 + (get_or s (i + 2) 0 / 128)) (omega arith) (omega arith) (omega arith) (omega arith) (omega arith) e1.0 p in
      let p2 = pass-next (i + 1) (i + 2) (i + 3) (i + 2) (l - 1 + (get_or s (i + 2) 0 / 128)) (l - 2 + (get_or s (i + 2) 0 / 128 + get_or s (i + 3) 0 / 128)) (omega arith) (omega arith) (omega arith) (omega arith) (omega arith) e1.1 p1 in
      let p3 = pass-next (i + 2) (i + 3) (i + 4) (i + 3) (l - 2 + (get_or s (i + 2) 0 / 128 + get_or s (i + 3) 0 / 128)) (l - 3 + (get_or s (i + 2) 0 / 128 + get_or s (i + 3) 0 / 128 + get_or s (i + 4) 0 / 128)) (omega arith) (omega arith) (omega arith) (omega arith) (omega arith) e2.1 p2 in
      let p4 = pass-next (i + 3) (i + 4) (i + 5) (i + 4) (l - 3 + (get_or s (i + 2) 0 / 128 + get_or s (i + 3) 0 / 128 + get_or s (i + 4) 0 / 128)) (l - 4 + (get_or s (i + 2) 0 / 128 + get_or s (i + 3) 0 / 128 + get_or s (i + 4) 0 / 128 + get_or s (i + 5) 0 / 128)) (omega arith) (omega arith) (omega arith) (omega arith) (omega arith) e3.1 p3 in
      let p5 = pass-next (i + 4) (i + 5) (i + 6) (i + 5) (l - 4 + (get_or s (i + 2) 0 / 128 + get_or s (i + 3) 0 / 128 + get_or s (i + 4) 0 / 128 + get_or s (i + 5) 0 / 128)) (l - 5 + (get_or s (i + 2) 0 / 128 + get_or s (i + 3) 0 / 128 + get_or s (i + 4) 0 / 128 + get_or s (i + 5) 0 / 128 + get_or s (i + 6) 0 / 128)) (omega arith) (omega arith) (omega arith) (omega arith) (omega arith) e4.1 p4 in
      let p6 = pass-next (i + 5) (i + 6) (i + 7) (i + 6) (l - 5 + (get_or s (i + 2) 0 / 128 + get_or s (i + 3) 0 / 128 + get_or s (i + 4) 0 / 128 + get_or s (i + 5) 0 / 128 + get_or s (i + 6) 0 / 128)) (l - 6 + (get_or s (i + 2) 0 / 128 + get_or s (i + 3) 0 / 128 + get_or s (i + 4) 0 / 128 + get_or s (i + 5) 0 / 128 + get_or s (i + 6) 0 / 128 + get_or s (i + 7) 0 / 128)) (omega arith) (omega arith) (omega arith) (omega arith) (omega arith) e5.1 p5 in
      let p7 = pass-next (i + 6) (i + 7) (i + 8) (i + 7) (l - 6 + (get_or s (i + 2) 0 / 128 + get_or s (i + 3) 0 / 128 + get_or s (i + 4) 0 / 128 + get_or s (i + 5) 0 / 128 + get_or s (i + 6) 0 / 128 + get_or s (i + 7) 0 / 128)) (l - 7 + (get_or s (i + 2) 0 / 128 + get_or s (i + 3) 0 / 128 + get_or s (i + 4) 0 / 128 + get_or s (i + 5) 0 / 128 + get_or s (i + 6) 0 / 128 + get_or s (i + 7) 0 / 128 + get_or s (i + 8) 0 / 128)) (omega arith) (omega arith) (omega arith) (omega arith) (omega arith) e6.1 p6 in
      pass-next (i + 7) (i + 8) (i + 9) (i + 8) (l - 7 + (get_or s (i + 2) 0 / 128 + get_or s (i + 3) 0 / 128 + get_or s (i + 4) 0 / 128 + get_or s (i + 5) 0 / 128 + get_or s (i + 6) 0 / 128 + get_or s (i + 7) 0 / 128 + get_or s (i + 8) 0 / 128)) (l - 8 + (get_or s (i + 2) 0 / 128 + get_or s (i + 3) 0 / 128 + get_or s (i + 4) 0 / 128 + get_or s (i + 5) 0 / 128 + get_or s (i + 6) 0 / 128 + get_or s (i + 7) 0 / 128 + get_or s (i + 8) 0 / 128 + get_or s (i + 9) 0 / 128)) (omega arith) (omega arith) (omega arith) (omega arith) (omega arith) e7.1 p7

  pub open-small : (i : ℕ) → open_in s i ≤ 8
  open-small i = omega (arith, k (i + 2), k (i + 3), k (i + 4), k (i + 5), k (i + 6), k (i + 7), k (i + 8), k (i + 9))

-- by the code's tests
module _ (s : List ℕ) (i : ℕ) where
  pub start-next : get_or s (i + 1) 0 < 128 → i + 2 ≡ start_of s i
  start-next h = rw (lt-ltb (get_or s (i + 1) 0) 128 h)

  pub start-one : 128 ≤ get_or s (i + 1) 0 → get_or s i 0 < 128 → i + 1 ≡ start_of s i
  start-one h l = rw (le-ltb (get_or s (i + 1) 0) 128 h, lt-ltb (get_or s i 0) 128 l)

  pub start-two : 128 ≤ get_or s (i + 1) 0 → 128 ≤ get_or s i 0 → i ≡ start_of s i
  start-two h l = rw (le-ltb (get_or s (i + 1) 0) 128 h, le-ltb (get_or s i 0) 128 l)

  pub start-near : i ≤ start_of s i
  start-near = go (ltb (get_or s (i + 1) 0) 128) (ltb (get_or s i 0) 128)
    where
      go : (t u : Bool) → i ≤ cond t (i + 2) (cond u (i + 1) i)
      go true u = omega arith
      go false true = omega arith
      go false false = omega arith

pub ruleset skips = (rules, end_low, end-high, one_byte, two_bytes, three-bytes, more_bytes, start-next, start-one, start-two)

-- a short number is a coordinate
one_more : (m k : ℕ) (s : List ℕ) (at : ℕ) (g : Groups) (e : ℕ) → groups m k s at ≡ ok g e → groups m (suc k) s at ≡ ok g e
unfolding groups
one_more m zero s at g e h = no_ok h
one_more m (suc k) s at g e h =
    let u = split (byte s at) (λ b x. cond (ltb b 128) (ok (last_group m b) x) (and_then (groups m k s x) (λ g y. ok (below b g) y))) g e h in
    rw u.first (go u.val u.mid (λ g e h. one_more m k s u.mid g e h) (ltb u.val 128) u.second)
  where
    go : (b x : ℕ) → ((g : Groups) (e : ℕ) → groups m k s x ≡ ok g e → groups m (suc k) s x ≡ ok g e) → (t : Bool) → cond t (ok (last_group m b) x) (and_then (groups m k s x) (λ g y. ok (below b g) y)) ≡ ok g e → cond t (ok (last_group m b) x) (and_then (groups m (suc k) s x) (λ g y. ok (below b g) y)) ≡ ok g e
    go b x ih true q = q
    go b x ih false q =
        let v = split (groups m k s x) (λ g y. ok (below b g) y) g e q in
        rw (ih v.val v.mid v.first) v.second

more : (m k : ℕ) (s : List ℕ) (at : ℕ) (g : Groups) (e d : ℕ) → groups m k s at ≡ ok g e → groups m (k + d) s at ≡ ok g e
more m k s at g e zero h = let z : k + 0 ≡ k = omega arith in rw z h
more m k s at g e (suc d) h = let z : k + suc d ≡ suc (k + d) = omega arith in rw z (one_more m (k + d) s at g e (more m k s at g e d h))

abs-signed : (m : ℕ) (t : Bool) → nat_abs (cond t (pos m) (neg_ℤ (pos m))) ≡ m
abs-signed m true = refl
abs-signed zero false = refl
abs-signed (suc m) false = refl

short-coordinate : (s : List ℕ) (at : ℕ) (v : Noted ℤ) (e : ℕ) → short s at ≡ ok v e → noted_coordinate s at ≡ ok v e
unfolding short noted_coordinate noted_signed
short-coordinate s at v e h =
    let u = split (groups 64 3 s at) (λ g x. ok (noted (signed_of g.magnitude g.sign) (plain_signed g.magnitude g.sign g.weight)) x) v e h in
    let g = u.val in
    let b : g.magnitude < 2 ^ 21 = (groups-small 64 (lit< tt) (lit≤ tt) 3).holds s at g u.mid u.first in
    let k : nat_abs (signed_of g.magnitude g.sign) ≤ 2 ^ 53 = rw (abs-signed g.magnitude (eqb g.sign 0)) (omega arith) in
    rw (more 64 3 s at g u.mid 6 u.first, le-leb (nat_abs (signed_of g.magnitude g.sign)) (2 ^ 53) k) u.second

many-short : (s : List ℕ) (n at : ℕ) (l : List (Noted ℤ)) (e : ℕ) → many short n s at ≡ ok l e → many noted_coordinate n s at ≡ ok l e
many-short s zero at l e h = h
many-short s (suc n) at l e h =
    let u = split (short s at) (λ g x. and_then (many short n s x) (λ r i. ok (g ∷ r) i)) l e h in
    let v = split (many short n s u.mid) (λ r i. ok (u.val ∷ r) i) l e u.second in
    rw (short-coordinate s at u.val u.mid u.first, many-short s n u.mid v.val v.mid v.first) v.second

-- n coordinates that end at e, and whether all are plain
pub skipped : (s : List ℕ) (n at e : ℕ) (p : Bool) → Some (p, e) ≡ skip_of s at n → map_res all_plain (many noted_coordinate n s at) ≡ ok p e
skipped s n at e p h = go (leb (at + 3 * n) (length s)) (many short n s at) refl h
  where
    go : (t : Bool) (r : Res (List (Noted ℤ))) → many short n s at ≡ r → Some (p, e) ≡ cond t (skip_all r) None → map_res all_plain (many noted_coordinate n s at) ≡ ok p e
    go true (ok l x) d f = let q = parts _ _ f in rw (many-short s n at l x d, q.0, q.1)
    go true (no i v) d f = cc
    go false r d f = cc
