-- Laws of specs/Good.antt that an edit of its definitions must break.
use Rattle.std.specs.Prelude.{◌≡◌, refl, Bool, true, false, cond, List, [], ◌∷◌, ◌++◌, ℕ, zero, suc, ◌+◌, ◌-◌, ◌≤◌, ◌<◌, max, T, leb, ltb, eqb, length, get_or, take, drop}
use Rattle.std.proofs.Common.{sym, ap, ◌∙◌, subst, le_refl, le_trans, le-add_right, lt_of_lt_of_le, arith, leb→le, le→leb, ltb→lt, lt→ltb, length-take, length-drop, ext_get_or, get_or-take, get_or-drop}
use Rattle.parsing.specs.Parse.{Res, ok, no, Parser, and_then, bind, return, fail, pick, many, here, seek, byte, chunk, renumbered, instead, Part, part, Maybe, none, some, optional}
use Rattle.parsing.specs.Good.{Agree, Good, Strict, narrow, ok-val, ok_at, no_ok, split, bind-good, return-good, fail-good, pick_good, here-good, optional-good, instead-good, instead-strict, strict-left, strict-right, strict-pick, strict-fail, Weight, total}

pub many-good : {A : Type 0} {p : Parser A} → Good p → (n : ℕ) → Good (many p n)
many-good gp zero = return-good []
many-good gp (suc n) = bind-good gp (λ a. bind-good (many-good gp n) (λ l. return-good (a ∷ l)))

-- a test that guards one success
record Guarded {A : Type 0} (c : Bool) (a : A) (x : ℕ) (b : A) (e : ℕ) : Type 0 where
  passed : T c
  value : a ≡ b
  next : x ≡ e

guarded : {A : Type 0} (c : Bool) (a : A) (x : ℕ) (b : A) (e : ℕ) → cond c (ok a x) (no 1 []) ≡ ok b e → Guarded c a x b e
guarded true a x b e h = record { passed = tt; value = ok-val h; next = ok_at h }
guarded false a x b e h = no_ok h

guards : {A : Type 0} (c : Bool) {a b : A} {x e : ℕ} → T c → a ≡ b → x ≡ e → cond c (ok a x) (no 1 []) ≡ ok b e
guards true t p q = cc
guards false t p q = absurd t

pub byte-good : Good byte
byte-good = record {
  forth = λ m i a e h. let r = guarded (ltb i (length m)) (get_or m i 0) (i + 1) a e h in omega (arith, r.next);
  bound = λ m i a e h. let r = guarded (ltb i (length m)) (get_or m i 0) (i + 1) a e h in omega (arith, r.next, ltb→lt i (length m) r.passed);
  near = λ m m' i a e g h.
      let r = guarded (ltb i (length m)) (get_or m i 0) (i + 1) a e h in
      let b = ltb→lt i (length m) r.passed in
      guards (ltb i (length m')) (lt→ltb i (length m') (omega (arith, g.long))) (sym (g.same i (le_refl i) (omega (arith, r.next))) ∙ r.value) r.next;
}

same-part : (m m' : List ℕ) (n i : ℕ) → i + n ≤ length m → Agree m m' i (i + n) → take n (drop i m) ≡ take n (drop i m')
same-part m m' n i l g =
    let q = g.long in
    ext_get_or 0 (take n (drop i m)) (take n (drop i m')) (simp (length-take, length-drop) (omega arith))
    (λ j b.
    let b' : j < n = omega (arith, simp (length-take, length-drop) at b) in
    rw (get_or-take n (drop i m) j 0 b', get_or-take n (drop i m') j 0 b', get_or-drop, get_or-drop) (g.same (i + j) (omega arith) (omega arith)))

pub chunk-good : (n : ℕ) → Good (chunk n)
chunk-good zero = return-good []
chunk-good (suc n) = record {
  forth = λ m i a e h. let r = guarded (leb (i + suc n) (length m)) (take (suc n) (drop i m)) (i + suc n) a e h in omega (arith, r.next);
  bound = λ m i a e h.
      let r = guarded (leb (i + suc n) (length m)) (take (suc n) (drop i m)) (i + suc n) a e h in
      omega (arith, r.next, leb→le (i + suc n) (length m) r.passed);
  near = λ m m' i a e g h.
      let r = guarded (leb (i + suc n) (length m)) (take (suc n) (drop i m)) (i + suc n) a e h in
      let b = leb→le (i + suc n) (length m) r.passed in
      let q = r.next in
      guards (leb (i + suc n) (length m')) (le→leb (i + suc n) (length m') (omega (arith, g.long)))
      (sym (same-part m m' (suc n) i b (narrow (le_refl i) (omega arith) g)) ∙ r.value) q;
}

pub part-good : (n : ℕ) → Good (part n)
unfolding part
part-good n = bind-good here-good (λ i. bind-good (chunk-good n) (λ b. return-good _))

pub byte-strict : Strict byte
byte-strict = record { more = λ m i a e h. let r = guarded (ltb i (length m)) (get_or m i 0) (i + 1) a e h in omega (arith, r.next) }

pub ruleset goods = (bind-good, return-good, fail-good, pick_good, many-good, here-good, byte-good, chunk-good, part-good, optional-good, instead-good)

pub ruleset stricts = (goods, byte-strict, strict-left, strict-right, strict-pick, strict-fail, instead-strict)

pub many-weight : {A : Type 0} {p : Parser A} {f : A → ℕ} → Weight p f → (n : ℕ) → Weight (many p n) (total f)
many-weight {p = p} {f = f} w n = record { weighs = go n }
  where
    go : (n : ℕ) (m : List ℕ) (i : ℕ) (a : List _) (e : ℕ) → many p n m i ≡ ok a e → i + total f a ≤ e
    go zero m i a e h =
        let z : i ≡ e = ok_at h in
        rw (← (ok-val h)) (omega arith)
    go (suc n) m i a e h =
        let s = split (p m i) (λ a x. and_then (many p n m x) (λ l y. ok (a ∷ l) y)) a e h in
        let t = split (many p n m s.mid) (λ l y. ok (s.val ∷ l) y) a e s.second in
        let u = w.weighs m i s.val s.mid s.first in
        let v = go n m s.mid t.val t.mid t.first in
        let z : t.mid ≡ e = ok_at t.second in
        subst (λ (l : List _). i + total f l ≤ e) (ok-val t.second) (omega arith)
