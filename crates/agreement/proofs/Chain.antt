-- Successes of one parser, one behind the other: what `many` gives, and the first of them.
use mathlib.Core.Path.{◌≡◌, refl, ap}
use mathlib.Core.List.{List, [], ◌∷◌}
use Prim.Native.Nat.{ℕ, zero, suc, ◌+◌, ◌≤◌, max, zero-le}
use native.Mathlib.Nat.{le_refl, le_trans, le_of_suc-le-suc, not-suc-le-zero}
use native.Mathlib.Omega.{arith}
use lib.ListN.{length, take}
use Rattle.parsing.specs.Parse.{ok, Parser, bind, return, many}
use Rattle.parsing.specs.Good.{Good, Strict, split, ok-val, ok_at, total}

pub data Chain {A : Type 0} (p : Parser A) (m : List ℕ) : ℕ → List A → ℕ → Type 0 where
  stop : {i : ℕ} → Chain p m i [] i
  link : {i x e : ℕ} {a : A} {l : List A} → p m i ≡ ok a x → Chain p m x l e → Chain p m i (a ∷ l) e

pub record Many {A : Type 0} (p : Parser A) (m : List ℕ) (n i : ℕ) (l : List A) (e : ℕ) : Type 0 where
  pub chain : Chain p m i l e
  pub count : length l ≡ n

-- under other names
renamed : {A : Type 0} {p : Parser A} {m : List ℕ} {n i e e' : ℕ} {l l' : List A} → Many p m n i l e → ok l e ≡ ok l' e' → Many p m n i l' e'
renamed c h = rw (← (ok-val h), ← (ok_at h)) c

pub many-chain : {A : Type 0} (p : Parser A) (m : List ℕ) (n i : ℕ) (l : List A) (e : ℕ) → many p n m i ≡ ok l e → Many p m n i l e
many-chain p m zero i l e h = renamed record { chain = stop; count = refl } h
many-chain p m (suc n) i l e h =
    let s = split (p m i) (λ a x. bind (many p n) (λ r. return (a ∷ r)) m x) l e h in
    let t = split (many p n m s.mid) (λ r x. ok (s.val ∷ r) x) l e s.second in
    let ih = many-chain p m n s.mid t.val t.mid t.first in
    renamed record { chain = link s.first ih.chain; count = ap suc ih.count } t.second

pub forth : {A : Type 0} {p : Parser A} {m : List ℕ} {i e : ℕ} {l : List A} → Good p → Chain p m i l e → i ≤ e
forth g stop = le_refl _
forth g (link h c) = le_trans (g.forth _ _ _ _ h) (forth g c)

pub bound : {A : Type 0} {p : Parser A} {m : List ℕ} {i e : ℕ} {l : List A} → Good p → Chain p m i l e → e ≤ max i (length m)
bound g stop = omega arith
bound g (link h c) = let u = g.bound _ _ _ _ h in omega (arith, bound g c)

-- each value has at least a byte, so there are no more than the map has bytes
longs : {A : Type 0} {p : Parser A} {m : List ℕ} {i e : ℕ} {l : List A} → Strict p → Chain p m i l e → i + length l ≤ e
longs s stop = omega arith
longs s (link h c) = let u = s.more _ _ _ _ h in omega (arith, longs s c)

pub count-le : {A : Type 0} {p : Parser A} {m : List ℕ} {i e : ℕ} {l : List A} → Good p → Strict p → Chain p m i l e → length l ≤ length m
count-le {m = m} {i = i} {l = l} g s c = omega (arith, longs s c, bound g c)

-- the first n of them, read alone
pub record Front {A : Type 0} (p : Parser A) (m : List ℕ) (n i : ℕ) (l : List A) (e : ℕ) : Type 0 where
  pub last : ℕ
  pub chain : Chain p m i (take n l) last
  pub reads : many p n m i ≡ ok (take n l) last
  pub within : last ≤ e

pub front : {A : Type 0} {p : Parser A} {m : List ℕ} {i e : ℕ} {l : List A} → Good p → (n : ℕ) → n ≤ length l → Chain p m i l e → Front p m n i l e
front g zero b c = record { last = _; chain = stop; reads = refl; within = forth g c }
front g (suc n) b stop = absurd (not-suc-le-zero b)
front g (suc n) b (link h c) =
    let r = front g n (le_of_suc-le-suc b) c in
    record { last = r.last; chain = link h r.chain; reads = rw (h, r.reads); within = r.within }

-- a front of rows counts no more than all
pub total-take : {A : Type 0} (f : A → ℕ) (n : ℕ) (l : List A) → total f (take n l) ≤ total f l
total-take f zero l = zero-le
total-take f (suc n) [] = zero-le
total-take f (suc n) (a ∷ l) = omega (arith, total-take f n l)
