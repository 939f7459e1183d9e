-- Parsers of a fixed number of bytes: each passes as a chunk of them does, and is refused where it is.
use Prim.Native.Nat.{ℕ, zero, suc, ◌+◌, ◌*◌, ◌≤◌, ◌<◌}
use native.Mathlib.Nat.{add-zero, zero-add, suc-add, mul-zero, mul-suc, add_comm}
use native.Mathlib.Numerals.{add-one}
use native.Mathlib.Omega.{arith}
use mathlib.Core.Path.{◌≡◌, refl, sym, ap, ◌∙◌}
use mathlib.Core.Bool.{Bool, true, false, cond}
use mathlib.Core.List.{List, [], ◌∷◌}
use lib.Dec.{leb}
use lib.ListN.{length, get_or, take, drop}
use borrow.Author.Tests.{le-leb, lt-leb, leb-false}
use Rattle.parsing.specs.Parse.{Res, ok, no, Parser, and_then, passed, bind, return, many, byte, chunk, Part, part}
use Rattle.parsing.specs.Good.{ok_at, no_ok}
use Rattle.parsing.proofs.Steps.{fits_not}

pub record Sized {A : Type 0} (p : Parser A) (n : ℕ) : Type 0 where
  pub passes : (m : List ℕ) (i : ℕ) → passed (p m i) ≡ passed (chunk n m i)

-- a test and a place, whatever the value
alike : {A B : Type 0} (c : Bool) (a : A) (b : B) (e : ℕ) → passed (cond c (ok a e) (no 1 [])) ≡ passed (cond c (ok b e) (no 1 []))
alike true a b e = refl
alike false a b e = refl

-- where a chunk ends
pub chunk-ends : (n : ℕ) (m : List ℕ) (i e : ℕ) → passed (chunk n m i) ≡ ok tt e → e ≡ i + n
chunk-ends zero m i e q = sym (ok_at q) ∙ sym (add-zero i)
chunk-ends (suc n) m i e q = go (leb (i + suc n) (length m)) q
  where
    go : (c : Bool) → passed (cond c (ok (take (suc n) (drop i m)) (i + suc n)) (no 1 [])) ≡ ok tt e → e ≡ i + suc n
    go true q = sym (ok_at q)
    go false q = no_ok q

-- two chunks, one behind the other
chunk-join : (a b : ℕ) (m : List ℕ) (i e : ℕ) → passed (chunk a m i) ≡ ok tt e → passed (chunk b m e) ≡ passed (chunk (a + b) m i)
chunk-join zero b m i e q = rw (← ok_at q, zero-add b)
chunk-join (suc a) zero m i e q = rw (add-zero (suc a)) (sym q)
chunk-join (suc a) (suc b) m i e q =
    let z : e + suc b ≡ i + suc (a + suc b) = omega (arith, chunk-ends (suc a) m i e q) in
    rw (suc-add a (suc b))
    (ap (λ k. passed (cond (leb k (length m)) (ok (take (suc b) (drop e m)) k) (no 1 []))) z
    ∙ alike (leb (i + suc (a + suc b)) (length m)) _ _ (i + suc (a + suc b)))

chunk-stop : (a b : ℕ) (m : List ℕ) (i k : ℕ) (v : List ℕ) → passed (chunk a m i) ≡ no k v → no k v ≡ passed (chunk (a + b) m i)
chunk-stop zero b m i k v q = no_ok (sym q)
chunk-stop (suc a) b m i k v q = go (leb (i + suc a) (length m)) refl q
  where
    go : (c : Bool) → leb (i + suc a) (length m) ≡ c → passed (cond c (ok (take (suc a) (drop i m)) (i + suc a)) (no 1 [])) ≡ no k v → no k v ≡ passed (chunk (suc a + b) m i)
    go true t q = no_ok (sym q)
    go false t q =
        let h : length m < i + suc a = leb-false (i + suc a) (length m) t in
        rw (suc-add a b, lt-leb (i + suc (a + b)) (length m) (omega arith)) (sym q)

pub chunk-sized : (n : ℕ) → Sized (chunk n) n
chunk-sized n = record { passes = λ m i. refl }

pub return-sized : {A : Type 0} (a : A) → Sized (return a) 0
return-sized a = record { passes = λ m i. refl }

pub byte-sized : Sized byte 1
byte-sized = record {
  passes = λ m i.
      ap (λ k. passed (cond (leb k (length m)) (ok (get_or m i 0) (i + 1)) (no 1 []))) (sym (add-one i))
      ∙ alike (leb (i + 1) (length m)) _ _ (i + 1);
}

pub bind-sized : {A B : Type 0} {p : Parser A} {f : A → Parser B} {a b : ℕ} → Sized p a → ((x : A) → Sized (f x) b) → Sized (bind p f) (a + b)
bind-sized {A = A} {p = p} {f = f} {a = a} {b = b} s t = record { passes = λ m i. go m i (p m i) (s.passes m i) }
  where
    go : (m : List ℕ) (i : ℕ) (r : Res A) → passed r ≡ passed (chunk a m i) → passed (and_then r (λ x e. f x m e)) ≡ passed (chunk (a + b) m i)
    go m i (ok x e) q = (t x).passes m e ∙ chunk-join a b m i e (sym q)
    go m i (no k v) q = chunk-stop a b m i k v (sym q)

pub many-sized : {A : Type 0} {p : Parser A} {a : ℕ} → Sized p a → (n : ℕ) → Sized (many p n) (a * n)
many-sized {a = a} s zero = rw (mul-zero a) (return-sized [])
many-sized {a = a} s (suc n) =
    rw (mul-suc a n, add_comm (a * n) a, ← add-zero (a * n)) (bind-sized s (λ x. bind-sized (many-sized s n) (λ l. return-sized (x ∷ l))))

pub part-sized : (n : ℕ) → Sized (part n) n
unfolding part
part-sized n = record { passes = λ m i. go m i (chunk n m i) }
  where
    go : (m : List ℕ) (i : ℕ) (r : Res (List ℕ)) → passed {A = Part} (and_then r (λ b e. ok (record { start = i; size = n; bytes = b }) e)) ≡ passed r
    go m i (ok b e) = refl
    go m i (no k v) = refl

-- such a read by the map's length
module _ {A : Type 0} {p : Parser A} {n : ℕ} (s : Sized p n) (m : List ℕ) (i : ℕ) where
  pub sized-end : {a : A} {e : ℕ} → p m i ≡ ok a e → e ≡ i + n
  sized-end {e = e} q = chunk-ends n m i e (sym (s.passes m i) ∙ ap passed q)

  pub sized-whole : i + n ≤ length m → passed (p m i) ≡ ok tt (i + n)
  sized-whole h = s.passes m i ∙ go n h
    where
      go : (n : ℕ) → i + n ≤ length m → passed (chunk n m i) ≡ ok tt (i + n)
      go zero h = rw (add-zero i)
      go (suc n) h = rw (le-leb (i + suc n) (length m) h)

  pub sized-short : 1 ≤ n → length m < i + n → no 1 [] ≡ p m i
  sized-short b h = refusal (p m i) (s.passes m i ∙ sym (ap passed (fits_not m i n b h)))
    where
      refusal : (r : Res A) → passed r ≡ no 1 [] → no 1 [] ≡ r
      refusal (ok a e) q = no_ok (sym q)
      refusal (no k v) q = cc
