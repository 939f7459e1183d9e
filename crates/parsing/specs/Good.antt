-- Laws that every parser of the format has: `Good` and `Strict`, and what they say of each combinator, so that
-- `search goods` and `search stricts` prove them of any parser written with `do`.
use Rattle.std.specs.Prelude.{◌≡◌, refl, Bool, true, false, cond, List, [], ◌∷◌, ◌++◌, ℕ, zero, suc, ◌+◌, ◌-◌, ◌≤◌, ◌<◌, max, T, leb, ltb, eqb, length, get_or, take, drop}
use Rattle.std.proofs.Common.{sym, ap, ◌∙◌, subst, le_refl, le_trans, le-add_right, lt_of_lt_of_le, arith, leb→le, le→leb, ltb→lt, lt→ltb, length-take, length-drop, ext_get_or, get_or-take, get_or-drop}
use Rattle.parsing.specs.Parse.{Res, ok, no, Parser, and_then, bind, return, fail, pick, many, here, seek, byte, chunk, renumbered, instead, Part, part, Maybe, none, some, optional}

-- two maps of one length have the same bytes from f up to t
pub record Agree (m m' : List ℕ) (f t : ℕ) : Type 0 where
  pub long : length m ≡ length m'
  pub same : (i : ℕ) → f ≤ i → i < t → get_or m i 0 ≡ get_or m' i 0

-- a success never goes back, never ends past the map (unless it started there), and depends only on the bytes it passed
pub record Good {A : Type 0} (p : Parser A) : Type 0 where
  pub forth : (m : List ℕ) (i : ℕ) (a : A) (e : ℕ) → p m i ≡ ok a e → i ≤ e
  pub bound : (m : List ℕ) (i : ℕ) (a : A) (e : ℕ) → p m i ≡ ok a e → e ≤ max i (length m)
  pub near : (m m' : List ℕ) (i : ℕ) (a : A) (e : ℕ) → Agree m m' i e → p m i ≡ ok a e → p m' i ≡ ok a e

-- a success passes at least one byte
pub record Strict {A : Type 0} (p : Parser A) : Type 0 where
  pub more : (m : List ℕ) (i : ℕ) (a : A) (e : ℕ) → p m i ≡ ok a e → i < e

-- what holds of a success's value and of the place behind it
pub record Post {A : Type 0} (p : Parser A) (Q : A → ℕ → Type 0) : Type 0 where
  pub holds : (m : List ℕ) (i : ℕ) (a : A) (e : ℕ) → p m i ≡ ok a e → Q a e

pub narrow : {m m' : List ℕ} {f t f' t' : ℕ} → f ≤ f' → t' ≤ t → Agree m m' f t → Agree m m' f' t'
narrow hf ht g = record {
  long = g.long;
  same = λ i a b. g.same i (omega arith) (omega arith);
}

pub ok-val : {A : Type 0} {a b : A} {e f : ℕ} → ok a e ≡ ok b f → a ≡ b
ok-val h = cc

pub ok_at : {A : Type 0} {a b : A} {e f : ℕ} → ok a e ≡ ok b f → e ≡ f
ok_at h = cc

pub no_ok : {A : Type 0} {C : Type 0} {a : A} {e n : ℕ} {v : List ℕ} → no n v ≡ ok a e → C
no_ok h = absurd (let z : ◌≡◌ {A = ℕ} 0 1 = cc in omega arith)

-- a success of a chain is a success of both links
pub record Split {A B : Type 0} (r : Res A) (k : A → ℕ → Res B) (b : B) (e : ℕ) : Type 0 where
  pub val : A
  pub mid : ℕ
  pub first : r ≡ ok val mid
  pub second : k val mid ≡ ok b e

pub split : {A B : Type 0} (r : Res A) (k : A → ℕ → Res B) (b : B) (e : ℕ) → and_then r k ≡ ok b e → Split r k b e
split (ok a x) k b e h = record { val = a; mid = x; first = refl; second = h }
split (no n v) k b e h = no_ok h

pub bind-good : {A B : Type 0} {p : Parser A} {f : A → Parser B} → Good p → ((a : A) → Good (f a)) → Good (bind p f)
bind-good {p = p} {f = f} gp gf = record {
  forth = λ m i b e h.
      let s = split (p m i) (λ a x. f a m x) b e h in
      le_trans (gp.forth m i s.val s.mid s.first) ((gf s.val).forth m s.mid b e s.second);
  bound = λ m i b e h.
      let s = split (p m i) (λ a x. f a m x) b e h in
      let u = gp.bound m i s.val s.mid s.first in
      let v = (gf s.val).bound m s.mid b e s.second in
      omega arith;
  near = λ m m' i b e g h.
      let s = split (p m i) (λ a x. f a m x) b e h in
      let l₁ = gp.forth m i s.val s.mid s.first in
      let l₂ = (gf s.val).forth m s.mid b e s.second in
      let h₁ = gp.near m m' i s.val s.mid (narrow (le_refl i) l₂ g) s.first in
      let h₂ = (gf s.val).near m m' s.mid b e (narrow l₁ (le_refl e) g) s.second in
      rw h₁ h₂;
}

pub return-good : {A : Type 0} (a : A) → Good (return a)
return-good a = record {
  forth = λ m i b e h. let z : i ≡ e = cc in omega arith;
  bound = λ m i b e h. let z : i ≡ e = cc in omega arith;
  near = λ m m' i b e g h. h;
}

pub fail-good : {A : Type 0} (n : ℕ) (v : List ℕ) → Good {A = A} (fail n v)
fail-good n v = record {
  forth = λ m i b e h. no_ok h;
  bound = λ m i b e h. no_ok h;
  near = λ m m' i b e g h. no_ok h;
}

pub pick_good : {A : Type 0} {p q : Parser A} (c : Bool) → Good p → Good q → Good (pick c p q)
pick_good true gp gq = gp
pick_good false gp gq = gq

pub here-good : Good here
here-good = record {
  forth = λ m i b e h. let z : i ≡ e = cc in omega arith;
  bound = λ m i b e h. let z : i ≡ e = cc in omega arith;
  near = λ m m' i b e g h. h;
}

pub optional-good : {A : Type 0} (c : Bool) {p : Parser A} → Good p → Good (optional c p)
unfolding optional
optional-good true g = bind-good g (λ a. return-good (some a))
optional-good false g = return-good none

-- a success is the same under another number
pub renumbered-ok : {A : Type 0} (n w : ℕ) (r : Res A) (a : A) (e : ℕ) → renumbered n w r ≡ ok a e → r ≡ ok a e
renumbered-ok n w (ok b x) a e h = h
renumbered-ok n w (no k v) a e h = go (eqb k 1) h
  where
    go : {C : Type 0} (c : Bool) → cond c (no n (w ∷ [])) (no k v) ≡ ok a e → C
    go true h = no_ok h
    go false h = no_ok h

pub instead-good : {A : Type 0} (n : ℕ) (w : List ℕ → ℕ → ℕ) {p : Parser A} → Good p → Good (instead n w p)
instead-good n w {p} g = record {
  forth = λ m i a e h. g.forth m i a e (renumbered-ok n (w m i) (p m i) a e h);
  bound = λ m i a e h. g.bound m i a e (renumbered-ok n (w m i) (p m i) a e h);
  near = λ m m' i a e s h. let k = g.near m m' i a e s (renumbered-ok n (w m i) (p m i) a e h) in rw k;
}

pub instead-strict : {A : Type 0} (n : ℕ) (w : List ℕ → ℕ → ℕ) {p : Parser A} → Strict p → Strict (instead n w p)
instead-strict n w {p} s = record { more = λ m i a e h. s.more m i a e (renumbered-ok n (w m i) (p m i) a e h) }

pub strict-left : {A B : Type 0} {p : Parser A} {f : A → Parser B} → Strict p → ((a : A) → Good (f a)) → Strict (bind p f)
strict-left {p = p} {f = f} sp gf = record {
  more = λ m i b e h.
      let s = split (p m i) (λ a x. f a m x) b e h in
      let u = sp.more m i s.val s.mid s.first in
      let v = (gf s.val).forth m s.mid b e s.second in
      omega arith;
}

pub strict-right : {A B : Type 0} {p : Parser A} {f : A → Parser B} → Good p → ((a : A) → Strict (f a)) → Strict (bind p f)
strict-right {p = p} {f = f} gp sf = record {
  more = λ m i b e h.
      let s = split (p m i) (λ a x. f a m x) b e h in
      let u = gp.forth m i s.val s.mid s.first in
      let v = (sf s.val).more m s.mid b e s.second in
      omega arith;
}

pub strict-pick : {A : Type 0} {p q : Parser A} (c : Bool) → Strict p → Strict q → Strict (pick c p q)
strict-pick true sp sq = sp
strict-pick false sp sq = sq

pub strict-fail : {A : Type 0} (n : ℕ) (v : List ℕ) → Strict {A = A} (fail n v)
strict-fail n v = record { more = λ m i b e h. no_ok h }

-- what the last link leaves
pub bind-post : {A B : Type 0} (p : Parser A) {f : A → Parser B} {Q : B → ℕ → Type 0} → ((a : A) → Post (f a) Q) → Post (bind p f) Q
bind-post p {f = f} h = record {
  holds = λ m i b e k.
      let s = split (p m i) (λ a x. f a m x) b e k in
      (h s.val).holds m s.mid b e s.second;
}

-- what the first link leaves, handed on
pub then-post : {A B : Type 0} {p : Parser A} {f : A → Parser B} {P : A → ℕ → Type 0} {Q : B → ℕ → Type 0} → Post p P → ((a : A) (x : ℕ) → P a x → Post (f a) Q) → Post (bind p f) Q
then-post {p = p} {f = f} g h = record {
  holds = λ m i b e k.
      let s = split (p m i) (λ a x. f a m x) b e k in
      (h s.val s.mid (g.holds m i s.val s.mid s.first)).holds m s.mid b e s.second;
}

pub return_post : {A : Type 0} (a : A) (Q : A → Type 0) → Q a → Post (return a) (λ b e. Q b)
return_post a Q q = record { holds = λ m i b e k. subst Q (ok-val k) q }

pub fail-post : {A : Type 0} (n : ℕ) (v : List ℕ) (Q : A → ℕ → Type 0) → Post (fail n v) Q
fail-post n v Q = record { holds = λ m i b e k. no_ok k }

pub pick_post : {A : Type 0} {p q : Parser A} {Q : A → ℕ → Type 0} (c : Bool) → (c ≡ true → Post p Q) → (c ≡ false → Post q Q) → Post (pick c p q) Q
pick_post true gp gq = gp refl
pick_post false gp gq = gq refl

-- a success takes as many bytes as f says at least, so that counts of what was read fit
pub record Weight {A : Type 0} (p : Parser A) (f : A → ℕ) : Type 0 where
  pub weighs : (m : List ℕ) (i : ℕ) (a : A) (e : ℕ) → p m i ≡ ok a e → i + f a ≤ e

abbrev pub total : {A : Type 0} → (A → ℕ) → List A → ℕ
total f [] = 0
total f (a ∷ l) = f a + total f l

-- one byte at least
pub strict-weight : {A : Type 0} {p : Parser A} → Strict p → Weight p (λ a. 1)
strict-weight s = record { weighs = λ m i a e h. let u = s.more m i a e h in omega arith }

pub bind-weight : {A B : Type 0} {p : Parser A} {f : A → Parser B} {g : B → ℕ} → Strict p → ((a : A) → Weight (f a) g) → Weight (bind p f) (λ b. suc (g b))
bind-weight {p = p} {f = f} sp wf = record {
  weighs = λ m i b e h.
      let s = split (p m i) (λ a x. f a m x) b e h in
      let u = sp.more m i s.val s.mid s.first in
      let v = (wf s.val).weighs m s.mid b e s.second in
      omega arith;
}

pub pick-weight : {A : Type 0} {p q : Parser A} {g : A → ℕ} (c : Bool) → Weight p g → Weight q g → Weight (pick c p q) g
pick-weight true u v = u
pick-weight false u v = v

pub fail-weight : {A : Type 0} (n : ℕ) (v : List ℕ) (g : A → ℕ) → Weight (fail n v) g
fail-weight n v g = record { weighs = λ m i b e h. no_ok h }

pub more-weight : {A : Type 0} {p : Parser A} {f g : A → ℕ} → Weight p f → ((a : A) → g a ≤ f a) → Weight p g
more-weight w l = record { weighs = λ m i a e h. let u = w.weighs m i a e h in let v = l a in omega arith }
