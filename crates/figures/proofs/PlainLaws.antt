-- What "plain" says of a number: proofs.
use Prim.Native.Nat.{ℕ, zero, suc, ◌+◌, ◌-◌, ◌*◌, ◌/◌, ◌%◌, ◌^◌, ◌<◌, ◌≤◌}
use native.Mathlib.Nat.{mod-lt, mod-eq_of_lt, pow-succ', one-le-pow, pow-le-pow_right, mul-le-mul_left, add-mul-mod_self_left, add-mul-div_left, div-eq_of_lt}
use native.Mathlib.Numerals.{add-one}
use native.Mathlib.Omega.{arith}
use mathlib.Core.Path.{◌≡◌, refl, subst, sym, ap, ◌∙◌}
use mathlib.Core.Bool.{Bool, true, false, cond}
use mathlib.Core.List.{List, [], ◌∷◌}
use mathlib.Core.Logic.{◌⊎◌, inl, inr, ◌≢◌}
use lib.IntN.{ℤ, pos, neg_ℤ, nat_abs}
use lib.ListN.{length, get_or, drop, length-drop}
use lib.Seq.{drop-cons}
use lib.Dec.{ltb, leb, eqb, lit<, lit≤}
use borrow.Author.Tests.{le-ltb, lt-ltb, ltb-true, ltb-false, leb-true, leb-false, eqb-true, eqb-false}
use Rattle.parsing.specs.Parse.{ok, no, and_then, map_res, byte}
use Rattle.parsing.specs.Good.{split, ok-val, ok_at, no_ok}
use Rattle.utils.specs.Vbe.{Groups, groups, below, last_group, Noted, noted, plain_unsigned, plain_signed, noted_unsigned, noted_signed, signed_of}
use Rattle.utils.proofs.VbeLaws.{groups-last}
use Rattle.figures.specs.PlainMeans.{NoneShorter, Shorter, MinusZero, UnsignedPlain, SignedPlain, PlainMeans}

-- what the last of n bytes says, and the bytes before it
record Seen (m k : ℕ) (s : List ℕ) (i : ℕ) (g : Groups) (e : ℕ) : Type 0 where
  before : ℕ
  few : before < k
  ends : e ≡ i + before + 1
  weighs : g.weight ≡ 128 ^ before
  small : g.magnitude < m * 128 ^ before
  last : ℕ
  low : last < 128
  signs : g.sign ≡ last / m
  single : before ≡ 0 → (last ≡ get_or s i 0) × (g.magnitude ≡ last % m)

record Taken (s : List ℕ) (i b x : ℕ) : Type 0 where
  is : b ≡ get_or s i 0
  next : x ≡ i + 1

taken : (s : List ℕ) (i b x : ℕ) → byte s i ≡ ok b x → Taken s i b x
taken s i b x h = go (ltb i (length s)) h
  where
    go : (c : Bool) → cond c (ok (get_or s i 0) (i + 1)) (no 1 []) ≡ ok b x → Taken s i b x
    go true h = record { is = sym (ok-val h); next = sym (ok_at h) }
    go false h = no_ok h

seen_last : (m k : ℕ) (s : List ℕ) (i b : ℕ) → 0 < m → b ≡ get_or s i 0 → b < 128 → Seen m (suc k) s i (last_group m b) (i + 1)
seen_last m k s i b p q h = record {
  before = 0;
  few = omega arith;
  ends = omega arith;
  weighs = refl;
  small = omega (arith, mod-lt b p);
  last = b;
  low = h;
  signs = refl;
  single = λ _. (q, refl);
}

seen_more : (m k : ℕ) (s : List ℕ) (i x b : ℕ) (g : Groups) (e : ℕ) → 0 < m → x ≡ i + 1 → Seen m k s x g e → Seen m (suc k) s i (below b g) e
seen_more m k s i x b g e p q r =
    let w = pow-succ' 128 r.before in
    let a : 1 ≤ 128 ^ r.before = one-le-pow r.before 128 (lit< tt) in
    record {
      before = suc r.before;
      few = omega (arith, r.few);
      ends = omega (arith, r.ends);
      weighs = rw (r.weighs, w);
      small = rw w (omega (arith, r.small, mod-lt b {m = 128} (lit< tt)));
      last = r.last;
      low = r.low;
      signs = r.signs;
      single = λ z. absurd (omega arith);
    }

seen : (m k : ℕ) (s : List ℕ) (i : ℕ) (g : Groups) (e : ℕ) → 0 < m → groups m k s i ≡ ok g e → Seen m k s i g e
unfolding groups
seen m zero s i g e p h = no_ok h
seen m (suc k) s i g e p h =
    let t = split (byte s i) (λ b x. cond (ltb b 128) (ok (last_group m b) x) (and_then (groups m k s x) (λ g y. ok (below b g) y))) g e h in
    let b = taken s i t.val t.mid t.first in
    go (λ x g e. seen m k s x g e p) t.val t.mid b (ltb t.val 128) refl t.second
  where
    go : ((x : ℕ) (g : Groups) (e : ℕ) → groups m k s x ≡ ok g e → Seen m k s x g e) → (b x : ℕ) → Taken s i b x → (c : Bool) → ltb b 128 ≡ c → cond c (ok (last_group m b) x) (and_then (groups m k s x) (λ g y. ok (below b g) y)) ≡ ok g e → Seen m (suc k) s i g e
    go ih b x t true q h =
        let z : i + 1 ≡ e = sym t.next ∙ ok_at h in
        rw (← z, ← (ok-val h)) (seen_last m k s i b p t.is (ltb-true b 128 q))
    go ih b x t false q h =
        let u = split (groups m k s x) (λ g y. ok (below b g) y) g e h in
        let r = ih x u.val u.mid u.first in
        let z : u.mid ≡ e = ok_at u.second in
        subst (λ (y : ℕ). Seen m (suc k) s i g y) z
        (subst (λ (f : Groups). Seen m (suc k) s i f u.mid) (ok-val u.second) (seen_more m k s i x b u.val u.mid p t.next r))

-- a number below m * 128 ^ n, with a sign, in n + 1 bytes
module _ (m sign : ℕ) where
  abbrev encode : (n v : ℕ) → List ℕ
  encode zero v = (v + m * sign) ∷ []
  encode (suc n) v = (128 + v % 128) ∷ encode n (v / 128)

record Front (s : List ℕ) (i b : ℕ) (l : List ℕ) : Type 0 where
  inside : i < length s
  is : b ≡ get_or s i 0
  rest : drop (i + 1) s ≡ l

front : (s : List ℕ) (i b : ℕ) (l : List ℕ) → drop i s ≡ b ∷ l → Front s i b l
front s i b l h =
    let k : length s - i ≡ suc (length l) = sym (length-drop i s) ∙ ap length h in
    let z : i < length s = omega arith in
    let d = drop-cons s i 0 z in
    record {
      inside = z;
      is = cc;
      rest = rw add-one (cc);
    }

groups-more : (m k : ℕ) (s : List ℕ) (at b : ℕ) → at < length s → b ≡ get_or s at 0 → 128 ≤ b → groups m (suc k) s at ≡ map_res (below b) (groups m k s (at + 1))
unfolding groups
groups-more m k s at b p e q = simp (lt-ltb at (length s) p, ← e, le-ltb _ _ q)

module _ (m sign : ℕ) (p : 0 < m) (q : m + m * sign ≤ 128) where
  encoded-last : (v : ℕ) → v < m → last_group m (v + m * sign) ≡ record { magnitude = v; sign = sign; weight = 1 }
  encoded-last v h =
      let a : (v + m * sign) % m ≡ v = add-mul-mod_self_left v m sign ∙ mod-eq_of_lt h in
      let d : v / m ≡ 0 = div-eq_of_lt h in
      let c : (v + m * sign) / m ≡ sign = add-mul-div_left v sign p ∙ omega arith in
      rw (a, c)

  encoded-more : (v w : ℕ) → below (128 + v % 128) (record { magnitude = v / 128; sign = sign; weight = w }) ≡ record { magnitude = v; sign = sign; weight = 128 * w }
  encoded-more v w =
      let a : (128 + v % 128) % 128 + 128 * (v / 128) ≡ v = omega arith in
      rw a

  encoded-small : (n v : ℕ) → v < m * 128 ^ suc n → v / 128 < m * 128 ^ n
  encoded-small n v h = omega (arith, pow-succ' 128 n, rw (pow-succ' 128 n) at h)

  encoded : (n v k : ℕ) (s : List ℕ) (i : ℕ) → n < k → v < m * 128 ^ n → drop i s ≡ encode m sign n v → groups m k s i ≡ ok (record { magnitude = v; sign = sign; weight = 128 ^ n }) (i + n + 1)
  encoded zero v k s i f h d =
      let r = front s i _ _ d in
      let z : i + 0 ≡ i = omega arith in
      let a : v < m = omega arith in
      rw (groups-last m k s i (v + m * sign) f r.inside r.is (omega arith), encoded-last v a, z)
  encoded (suc n) v zero s i f h d = absurd (omega arith)
  encoded (suc n) v (suc k) s i f h d =
      let r = front s i _ _ d in
      let z : i + 1 + n + 1 ≡ i + suc n + 1 = omega arith in
      let ih = encoded n (v / 128) k s (i + 1) (omega arith) (encoded-small n v h) r.rest in
      rw (groups-more m k s i (128 + v % 128) r.inside r.is (omega arith), ih, encoded-more v (128 ^ n), z, pow-succ' 128 n)

  encoded-bytes : (n v : ℕ) → v < m * 128 ^ n → (j : ℕ) → get_or (encode m sign n v) j 0 < 256
  encoded-bytes zero v h zero = omega arith
  encoded-bytes zero v h (suc j) = lit< tt
  encoded-bytes (suc n) v h zero = omega (arith, mod-lt v {m = 128} (lit< tt))
  encoded-bytes (suc n) v h (suc j) = encoded-bytes n (v / 128) (encoded-small n v h) j

-- other bytes have at least as many groups, if the number does not fit into fewer
module _ (m n v : ℕ) (full : 128 ^ n * m ≤ 128 * v) where
  as_many : {k : ℕ} {s : List ℕ} {i : ℕ} {g : Groups} {e : ℕ} → Seen m k s i g e → g.magnitude ≡ v → n + 1 ≤ e - i
  as_many {i = i} {e = e} r h = go (ltb r.before n) refl
    where
      go : (c : Bool) → ltb r.before n ≡ c → n + 1 ≤ e - i
      go false q = omega (arith, ltb-false r.before n q, r.ends)
      go true q =
          let l : suc r.before ≤ n = ltb-true r.before n q in
          let w : 128 * 128 ^ r.before ≤ 128 ^ n = rw pow-succ' at (pow-le-pow_right {n = 128} (lit< tt) l) in
          absurd (omega (arith, r.small, mul-le-mul_left m w))

-- one byte is the least
at_least_one : {m k : ℕ} {s : List ℕ} {i : ℕ} {g : Groups} {e : ℕ} → Seen m k s i g e → 1 ≤ e - i
at_least_one r = omega (arith, r.ends)

-- a weight of 1 is that of one byte, any other that of more
none_before : {n : ℕ} → 1 ≡ 128 ^ n → n ≡ 0
none_before {n = zero} h = refl
none_before {n = suc n} h = absurd (omega (arith, pow-succ' 128 n))

record One-less (n : ℕ) : Type 0 where
  less : ℕ
  is : n ≡ suc less
  power : 128 ^ n ≡ 128 * 128 ^ less

one_less : (n : ℕ) → (128 ^ n ≡ 1 → ⊥) → One-less n
one_less zero h = absurd (h refl)
one_less (suc n) h = record { less = n; is = refl; power = pow-succ' 128 n }

-- a read of a number is one of its groups
record Parts {A : Type 0} (m : ℕ) (f : Groups → Noted A) (t : List ℕ) (j : ℕ) (k : Noted A) (x : ℕ) : Type 0 where
  group : Groups
  first : groups m 9 t j ≡ ok group x
  is : f group ≡ k

parts : {A : Type 0} (m : ℕ) (f : Groups → Noted A) (t : List ℕ) (j : ℕ) (k : Noted A) (x : ℕ) → map_res f (groups m 9 t j) ≡ ok k x → Parts m f t j k x
parts m f t j k x h =
    let u = split (groups m 9 t j) (λ g y. ok (f g) y) k x h in
    record {
      group = u.val;
      first = u.first ∙ ap (λ (y : ℕ). ok u.val y) (ok_at u.second);
      is = ok-val u.second;
    }

abbrev unsigned_noted : Groups → Noted ℕ
unsigned_noted g = noted g.magnitude (plain_unsigned g.magnitude g.weight)

abbrev signed_noted : Groups → Noted ℤ
signed_noted g = noted (signed_of g.magnitude g.sign) (plain_signed g.magnitude g.sign g.weight)

abs-signed : (v s : ℕ) → nat_abs (signed_of v s) ≡ v
abs-signed v s = go v (eqb s 0)
  where
    go : (v : ℕ) (c : Bool) → nat_abs (cond c (pos v) (neg_ℤ (pos v))) ≡ v
    go v true = refl
    go zero false = refl
    go (suc v) false = refl

module _ (s : List ℕ) (i : ℕ) (g : Groups) (e : ℕ) (r : Seen 128 9 s i g e) where
  unsigned-least : plain_unsigned g.magnitude g.weight ≡ true → NoneShorter noted_unsigned g.magnitude (e - i)
  unfolding noted_unsigned
  unsigned-least p t j k x f same =
      let u = parts 128 unsigned_noted t j k x f in
      let o = seen 128 9 t j u.group x (lit< tt) u.first in
      let v : u.group.magnitude ≡ g.magnitude = ap (λ (n : Noted ℕ). n.value) u.is ∙ same in
      go (eqb g.weight 1) refl p o v
    where
      go : {t : List ℕ} {j : ℕ} {h : Groups} {x : ℕ} (c : Bool) → eqb g.weight 1 ≡ c → cond c true (leb g.weight g.magnitude) ≡ true → Seen 128 9 t j h x → h.magnitude ≡ g.magnitude → e - i ≤ x - j
      go true q p o v =
          let z : r.before ≡ 0 = none_before (sym (eqb-true g.weight 1 q) ∙ r.weighs) in
          omega (arith, r.ends, at_least_one o)
      go false q p o v =
          let l : g.weight ≤ g.magnitude = leb-true g.weight g.magnitude p in
          omega (arith, r.ends, as_many 128 r.before g.magnitude (omega (arith, r.weighs)) o v)

  unsigned-shorter : plain_unsigned g.magnitude g.weight ≡ false → Shorter noted_unsigned g.magnitude (e - i)
  unfolding noted_unsigned
  unsigned-shorter p = go (eqb g.weight 1) refl p
    where
      made : (n : ℕ) → r.before ≡ suc n → g.magnitude < 128 * 128 ^ n → Shorter noted_unsigned g.magnitude (e - i)
      made n b l = record {
        shorter = encode 128 0 n g.magnitude;
        bytes = encoded-bytes 128 0 (lit< tt) (lit≤ tt) n g.magnitude l;
        from = 0;
        other = unsigned_noted (record { magnitude = g.magnitude; sign = 0; weight = 128 ^ n });
        behind = 0 + n + 1;
        reads = rw (encoded 128 0 (lit< tt) (lit≤ tt) n g.magnitude 9 (encode 128 0 n g.magnitude) 0 (omega (arith, r.few)) l refl);
        same = refl;
        fewer = omega (arith, r.ends);
      }

      go : (c : Bool) → eqb g.weight 1 ≡ c → cond c true (leb g.weight g.magnitude) ≡ false → Shorter noted_unsigned g.magnitude (e - i)
      go true q p = absurd (let z : ◌≡◌ {A = ℕ} 0 1 = cc in omega arith)
      go false q p =
          let l : g.magnitude < g.weight = leb-false g.weight g.magnitude p in
          let o = one_less r.before (λ z. eqb-false g.weight 1 q (r.weighs ∙ z)) in
          made o.less o.is (omega (arith, r.weighs, o.power))

pub unsigned-plain : (s : List ℕ) (i : ℕ) (n : Noted ℕ) (e : ℕ) → noted_unsigned s i ≡ ok n e → UnsignedPlain i n e
unfolding noted_unsigned
unsigned-plain s i n e h =
    let u = parts 128 unsigned_noted s i n e h in
    let r = seen 128 9 s i u.group e (lit< tt) u.first in
    subst (λ (n : Noted ℕ). UnsignedPlain i n e) u.is (record {
      if-plain = unsigned-least s i u.group e r;
      if-not = unsigned-shorter s i u.group e r;
    })

module _ (s : List ℕ) (i : ℕ) (g : Groups) (e : ℕ) (r : Seen 64 9 s i g e) where
  signed-least : plain_signed g.magnitude g.sign g.weight ≡ true → NoneShorter noted_signed (signed_of g.magnitude g.sign) (e - i)
  unfolding noted_signed
  signed-least p t j k x f same =
      let u = parts 64 signed_noted t j k x f in
      let o = seen 64 9 t j u.group x (lit< tt) u.first in
      let q : signed_of u.group.magnitude u.group.sign ≡ signed_of g.magnitude g.sign = ap (λ (n : Noted ℤ). n.value) u.is ∙ same in
      let v : u.group.magnitude ≡ g.magnitude = sym (abs-signed u.group.magnitude u.group.sign) ∙ ap nat_abs q ∙ abs-signed g.magnitude g.sign in
      go (eqb g.weight 1) refl p o v
    where
      go : {t : List ℕ} {j : ℕ} {h : Groups} {x : ℕ} (c : Bool) → eqb g.weight 1 ≡ c → cond c (cond (eqb g.magnitude 0) (eqb g.sign 0) true) (leb g.weight (2 * g.magnitude)) ≡ true → Seen 64 9 t j h x → h.magnitude ≡ g.magnitude → e - i ≤ x - j
      go true q p o v =
          let z : r.before ≡ 0 = none_before (sym (eqb-true g.weight 1 q) ∙ r.weighs) in
          omega (arith, r.ends, at_least_one o)
      go false q p o v =
          let l : g.weight ≤ 2 * g.magnitude = leb-true g.weight (2 * g.magnitude) p in
          omega (arith, r.ends, as_many 64 r.before g.magnitude (omega (arith, r.weighs)) o v)

  -- the one byte 40 has the weight 1, no data and a sign
  signed-not-minus-zero : plain_signed g.magnitude g.sign g.weight ≡ true → MinusZero s i e → ⊥
  signed-not-minus-zero p z =
      let b : r.before ≡ 0 = omega (arith, r.ends, z.one) in
      let o = r.single b in
      let l : r.last ≡ 64 = o.0 ∙ z.forty in
      let w : g.weight ≡ 1 = r.weighs ∙ ap (λ (n : ℕ). 128 ^ n) b in
      let v : g.magnitude ≡ 0 = o.1 ∙ ap (λ (n : ℕ). n % 64) l in
      let n : g.sign ≡ 1 = r.signs ∙ ap (λ (n : ℕ). n / 64) l in
      let f : plain_signed g.magnitude g.sign g.weight ≡ false = rw (w, v, n) in
      let a : true ≡ false = sym p ∙ f in
      absurd (let y : ◌≡◌ {A = ℕ} 0 1 = cc in omega arith)

  signed-shorter : plain_signed g.magnitude g.sign g.weight ≡ false → Shorter noted_signed (signed_of g.magnitude g.sign) (e - i) ⊎ MinusZero s i e
  unfolding noted_signed
  signed-shorter p = go (eqb g.weight 1) refl p
    where
      made : (n : ℕ) → r.before ≡ suc n → g.magnitude < 64 * 128 ^ n → Shorter noted_signed (signed_of g.magnitude g.sign) (e - i)
      made n b l =
          let q : 64 + 64 * g.sign ≤ 128 = omega (arith, r.signs, r.low) in
          record {
            shorter = encode 64 g.sign n g.magnitude;
            bytes = encoded-bytes 64 g.sign (lit< tt) q n g.magnitude l;
            from = 0;
            other = signed_noted (record { magnitude = g.magnitude; sign = g.sign; weight = 128 ^ n });
            behind = 0 + n + 1;
            reads = rw (encoded 64 g.sign (lit< tt) q n g.magnitude 9 (encode 64 g.sign n g.magnitude) 0 (omega (arith, r.few)) l refl);
            same = refl;
            fewer = omega (arith, r.ends);
          }

      single : (c : Bool) → eqb g.magnitude 0 ≡ c → eqb g.weight 1 ≡ true → cond c (eqb g.sign 0) true ≡ false → MinusZero s i e
      single true v q p =
          let b : r.before ≡ 0 = none_before (sym (eqb-true g.weight 1 q) ∙ r.weighs) in
          let o = r.single b in
          let m : r.last % 64 ≡ 0 = sym o.1 ∙ eqb-true g.magnitude 0 v in
          let n : r.last / 64 ≢ 0 = λ z. eqb-false g.sign 0 p (r.signs ∙ z) in
          let l : r.last ≡ 64 = omega (arith, r.low) in
          record { one = omega (arith, r.ends); forty = sym o.0 ∙ l }
      single false v q p = absurd (let z : ◌≡◌ {A = ℕ} 0 1 = cc in omega arith)

      go : (c : Bool) → eqb g.weight 1 ≡ c → cond c (cond (eqb g.magnitude 0) (eqb g.sign 0) true) (leb g.weight (2 * g.magnitude)) ≡ false → Shorter noted_signed (signed_of g.magnitude g.sign) (e - i) ⊎ MinusZero s i e
      go true q p = inr (single (eqb g.magnitude 0) refl q p)
      go false q p =
          let l : 2 * g.magnitude < g.weight = leb-false g.weight (2 * g.magnitude) p in
          let o = one_less r.before (λ z. eqb-false g.weight 1 q (r.weighs ∙ z)) in
          inl (made o.less o.is (omega (arith, r.weighs, o.power)))

pub signed-plain : (s : List ℕ) (i : ℕ) (n : Noted ℤ) (e : ℕ) → noted_signed s i ≡ ok n e → SignedPlain s i n e
unfolding noted_signed
signed-plain s i n e h =
    let u = parts 64 signed_noted s i n e h in
    let r = seen 64 9 s i u.group e (lit< tt) u.first in
    subst (λ (n : Noted ℤ). SignedPlain s i n e) u.is (record {
      if-plain = λ p. (signed-least s i u.group e r p, signed-not-minus-zero s i u.group e r p);
      if-not = signed-shorter s i u.group e r;
    })

pub plain-means : PlainMeans
plain-means = record { of-unsigned = unsigned-plain; of-signed = signed-plain }
