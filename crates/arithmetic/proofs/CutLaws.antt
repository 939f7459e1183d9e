-- Laws of numbers and places cut at 2 ^ 64 - 1.
use Rattle.std.proofs.Common.{◌≡◌, ℕ, ◌+◌, ◌-◌, ◌^◌, ◌<◌, ◌≤◌, Bool, true, false, cond, ltb, List, [], ◌∷◌, length, sym, refl, ap, ◌∙◌, arith, ltb-false, ltb-true, lt-ltb}
use Rattle.parsing.specs.Parse.{no, Parser, bind, instead}
use Rattle.parsing.proofs.Ends.{PastEnd}
use Rattle.arithmetic.specs.Cut.{cut}

pub cut_fits : (n : ℕ) → n < 2 ^ 64 → cut n ≡ n
cut_fits n h = rw (lt-ltb n (2 ^ 64) h)

pub cut-over : (n : ℕ) → 2 ^ 64 - 1 ≤ n → cut n ≡ 2 ^ 64 - 1
cut-over n h = go (ltb n (2 ^ 64)) refl
  where
    go : (x : Bool) → ltb n (2 ^ 64) ≡ x → cond x n (2 ^ 64 - 1) ≡ 2 ^ 64 - 1
    go true e = omega (arith, ltb-true n (2 ^ 64) e)
    go false e = refl

pub cut-add : (a b : ℕ) → cut (cut a + b) ≡ cut (a + b)
cut-add a b = go (ltb a (2 ^ 64)) refl
  where
    go : (x : Bool) → ltb a (2 ^ 64) ≡ x → cut (cond x a (2 ^ 64 - 1) + b) ≡ cut (a + b)
    go true e = refl
    go false e =
        let h : 2 ^ 64 ≤ a = ltb-false a (2 ^ 64) e in
        cut-over (2 ^ 64 - 1 + b) (omega arith) ∙ sym (cut-over (a + b) (omega arith))

pub cut_small : (n k : ℕ) → k ≡ cut n → k < 2 ^ 64
cut_small n k e = go (ltb n (2 ^ 64)) refl
  where
    go : (x : Bool) → ltb n (2 ^ 64) ≡ x → k < 2 ^ 64
    go true q = omega (arith, ltb-true n (2 ^ 64) q, e ∙ cut_fits n (ltb-true n (2 ^ 64) q))
    go false q = let h : 2 ^ 64 ≤ n = ltb-false n (2 ^ 64) q in omega (arith, e ∙ cut-over n (omega arith))

-- a map is shorter than 2 ^ 64 bytes, so a read of one or more bytes is refused at a cut place as at the true one
pub at_cut : {A : Type 0} {p : Parser A} → PastEnd p → (m : List ℕ) (i : ℕ) → length m < 2 ^ 64 → p m (cut i) ≡ p m i
at_cut {p = p} e m i h = go (ltb i (2 ^ 64)) refl
  where
    go : (c : Bool) → ltb i (2 ^ 64) ≡ c → p m (cond c i (2 ^ 64 - 1)) ≡ p m i
    go true t = refl
    go false t = let l : 2 ^ 64 ≤ i = ltb-false i (2 ^ 64) t in e.stops m (2 ^ 64 - 1) (omega arith) ∙ sym (e.stops m i (omega arith))

-- the same, of a parser whose refusal there may say where it is
pub record Cuts {A : Type 0} (p : Parser A) : Type 0 where
  pub at : (m : List ℕ) (i : ℕ) → length m < 2 ^ 64 → p m (cut i) ≡ p m i

pub cut-cut : (i : ℕ) → cut (cut i) ≡ cut i
cut-cut i = cut_fits (cut i) (cut_small i (cut i) refl)

pub cuts-bind : {A B : Type 0} {p : Parser A} (f : A → Parser B) → Cuts p → Cuts (bind p f)
cuts-bind f c = record { at = λ m i h. rw (c.at m i h) }

-- refused behind the map by a number and the place
pub cuts-past : {A : Type 0} {p : Parser A} (n : ℕ) → ((m : List ℕ) (i : ℕ) → length m ≤ i → p m i ≡ no n (cut i ∷ [])) → Cuts p
cuts-past {p = p} n f = record { at = λ m i h. go m i h (ltb i (2 ^ 64)) refl }
  where
    go : (m : List ℕ) (i : ℕ) → length m < 2 ^ 64 → (c : Bool) → ltb i (2 ^ 64) ≡ c → p m (cond c i (2 ^ 64 - 1)) ≡ p m i
    go m i h true t = refl
    go m i h false t =
        let l : 2 ^ 64 ≤ i = ltb-false i (2 ^ 64) t in
        f m (2 ^ 64 - 1) (omega arith) ∙ ap (λ x. no n (x ∷ [])) (cut-over (2 ^ 64 - 1) (omega arith) ∙ sym (cut-over i (omega arith))) ∙ sym (f m i (omega arith))

pub cuts-instead : {A : Type 0} {p : Parser A} (n : ℕ) → PastEnd p → Cuts (instead n (λ m i. cut i) p)
cuts-instead n e = cuts-past n (λ m i h. rw (e.stops m i h))
