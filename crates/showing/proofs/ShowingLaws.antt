-- Laws of rules and of what a checked table shows, for `search`.
use Prim.Native.Nat.{ℕ, zero, suc, ◌+◌, ◌*◌, ◌/◌, ◌%◌, ◌^◌, ◌<◌, ◌≤◌, ◌-◌, min, max}
use native.Mathlib.Numerals.{add-one}
use native.Mathlib.Omega.{arith}
use mathlib.Core.Path.{◌≡◌, refl, sym, ap, ◌∙◌}
use mathlib.Core.Bool.{Bool, true, false, cond, not, ◌&&◌}
use mathlib.Core.List.{List, [], ◌∷◌}
use borrow.Author.Rules.{rules}
use borrow.Author.Tests.{ltb-true, ltb-false, leb-true, eqb-true, eqb-false, eq-eqb, ne_eqb, lt-ltb, le-ltb, le-leb, lt-leb}
use lib.Dec.{eqb, leb, ltb}
use lib.ListN.{length, length-take, get_or, set, take, drop, drop_of_length-le, get_or-eq_default}
use lib.Seq.{drop-cons, get_or-set_same, get_or-set_other}
use Rattle.std.specs.Prelude.{Option, Some, None}
use Rattle.std.specs.Option.{unwrap_or}
use Rattle.std.specs.List.{position_or_len}
use Rattle.parsing.specs.Parse.{ok, no}
use Rattle.error.specs.Refusals.{lengths}
use Rattle.showing.specs.declared.Rule.{Rule}
use Rattle.showing.specs.Showing.{word_at, rule_of, rule_at, well_formed, first_formed, formed, zoom_of, class_in, shown, names, namings, first_from, overlaps, gaps, class_at, Filled, checked}
use Rattle.showing.specs.Steps.{Small, one_more, changed_in, changed_by, Changed, Counted, always, joined}

-- the parts of 32 bits, from the upper half x and two bytes
module _ (x c d : ℕ) (hc : c < 256) (hd : d < 256) where
  id-of : x ≡ (65536 * x + 256 * c + d) / 2 ^ 16
  id-of = omega arith

  low_of : c / 8 ≡ (65536 * x + 256 * c + d) / 2 ^ 11 % 32
  low_of = let e : (65536 * x + 256 * c + d) / 2 ^ 11 ≡ 32 * x + c / 8 = omega arith in rw e (omega arith)

  high-of : c % 8 * 4 + d / 64 ≡ (65536 * x + 256 * c + d) / 2 ^ 6 % 32
  high-of = let e : (65536 * x + 256 * c + d) / 2 ^ 6 ≡ 1024 * x + 4 * c + d / 64 = omega arith in rw e (omega arith)

  class_of : d % 64 ≡ (65536 * x + 256 * c + d) % 64
  class_of = omega arith

  parts : ◌≡◌ {A = Rule} (record { id = x; lowest = c / 8; highest = c % 8 * 4 + d / 64; class = d % 64 }) (rule_of (65536 * x + 256 * c + d))
  parts = cc (id-of, low_of, high-of, class_of)

-- four bytes as a rule
pub rule-bytes : (l : List ℕ) (k a b c d w : ℕ) → a ≡ get_or l (4 * k) 0 → b ≡ get_or l (4 * k + 1) 0 → c ≡ get_or l (4 * k + 2) 0 → d ≡ get_or l (4 * k + 3) 0
    → w ≡ d → c < 256 → w < 256
    → ◌≡◌ {A = Rule} (record { id = a * 256 + b; lowest = c / 8; highest = c % 8 * 4 + w / 64; class = d % 64 }) (rule_at l k)
unfolding rule_at
rule-bytes l k a b c d w ea eb ec ed ew hc hw =
    let e : word_at l k ≡ 65536 * (a * 256 + b) + 256 * c + d = omega arith in
    rw ew (parts (a * 256 + b) c d hc (omega arith) ∙ ap rule_of (sym e))

and-false : (a : Bool) → (a && false) ≡ false
and-false true = refl
and-false false = refl

module _ (tags : ℕ) (l : List ℕ) where
  pub no-multiple : (length l % 4 ≡ 0 → ⊥) → false ≡ formed tags l
  unfolding formed
  no-multiple h = rw (ne_eqb (length l % 4) 0 h)

  pub none-formed : true ≡ first_formed tags l 0
  unfolding first_formed
  none-formed = refl

  pub more-formed : (k : ℕ) (r : Rule) → true ≡ first_formed tags l k → r ≡ rule_at l k → true ≡ well_formed tags r → true ≡ first_formed tags l (k + 1)
  unfolding first_formed
  more-formed k r f e w = rw (add-one k, ← f, ← e, ← w)

  bad : (k n : ℕ) → k < n → false ≡ well_formed tags (rule_at l k) → first_formed tags l n ≡ false
  unfolding first_formed
  bad k zero h w = absurd (omega arith)
  bad k (suc n) h w = by (eqb k n) refl (λ g. bad k n (omega arith) w)
    where
      by : (c : Bool) → eqb k n ≡ c → ((k ≡ n → ⊥) → first_formed tags l n ≡ false) → (first_formed tags l n && well_formed tags (rule_at l n)) ≡ false
      by true e r = rw (← eqb-true k n e, ← w) (and-false (first_formed tags l k))
      by false e r = rw (r (eqb-false k n e))

  pub one-bad : (k : ℕ) (r : Rule) → k < length l / 4 → r ≡ rule_at l k → false ≡ well_formed tags r → false ≡ formed tags l
  unfolding formed
  one-bad k r h e w = rw (bad k (length l / 4) h (w ∙ ap (well_formed tags) e), and-false)

  pub all-formed : (k : ℕ) → length l % 4 ≡ 0 → k ≡ length l / 4 → true ≡ first_formed tags l k → true ≡ formed tags l
  unfolding formed
  all-formed k m e f = rw (eq-eqb (length l % 4) 0 m, ← e, ← f)

module _ (l : List ℕ) (zoom i : ℕ) where
  pub class-behind : length l ≤ 32 * i + zoom_of zoom → 0 ≡ class_in l zoom i
  unfolding class_in
  class-behind h = sym (get_or-eq_default l 0 h)

  pub class-here : (at : ℕ) → at ≡ 32 * i + zoom_of zoom → get_or l at 0 ≡ class_in l zoom i
  unfolding class_in
  class-here at e = rw e

module _ (l : List ℕ) (zoom : ℕ) (ids : List ℕ) (i : ℕ) (e : shown l zoom (drop i ids) ≡ shown l zoom ids) where
  module _ (c : ℕ) (h : i < length ids) (g : c ≡ class_in l zoom (get_or ids i 0)) where
    pub shown-here : (c ≡ 0 → ⊥) → true ≡ shown l zoom ids
    unfolding shown
    shown-here n = rw (drop-cons ids i 0 h, ← g, ne_eqb c 0 n) at e

    pub shown-later : c ≡ 0 → shown l zoom (drop (i + 1) ids) ≡ shown l zoom ids
    unfolding shown
    shown-later n = rw (add-one i) (rw (drop-cons ids i 0 h, ← g, eq-eqb c 0 n) at e)

  pub shown-nowhere : length ids ≤ i → false ≡ shown l zoom ids
  unfolding shown
  shown-nowhere h = rw (drop_of_length-le ids h) at e

-- a range of entries put through f
module _ (f : ℕ → ℕ) (l : List ℕ) (s e j : ℕ) where
  in-range : s ≤ j → j < e → changed_in f s e l j ≡ f (get_or l j 0)
  unfolding changed_in
  in-range g h = rw (le-leb s j g, lt-ltb j e h)

  below-range : j < s → changed_in f s e l j ≡ get_or l j 0
  unfolding changed_in
  below-range g = rw (lt-leb s j g)

  above-range : e ≤ j → changed_in f s e l j ≡ get_or l j 0
  unfolding changed_in
  above-range h = rw (le-ltb j e h, and-false)

same-range : (f : ℕ → ℕ) (l : List ℕ) (s e e' j : ℕ) → (s ≤ j → j < e → j < e') → (s ≤ j → j < e' → j < e) → changed_in f s e l j ≡ changed_in f s e' l j
same-range f l s e e' j g h = by (ltb j s) refl (ltb j e) refl
  where
    by : (a : Bool) → ltb j s ≡ a → (b : Bool) → ltb j e ≡ b → changed_in f s e l j ≡ changed_in f s e' l j
    by true p b q = below-range f l s e j (ltb-true j s p) ∙ sym (below-range f l s e' j (ltb-true j s p))
    by false p true q = let x = ltb-false j s p in let y = ltb-true j e q in in-range f l s e j x y ∙ sym (in-range f l s e' j x (g x y))
    by false p false q = let x = ltb-false j s p in let y = ltb-false j e q in above-range f l s e j y ∙ sym (above-range f l s e' j (out x y (ltb j e') refl))
      where
        out : s ≤ j → e ≤ j → (c : Bool) → ltb j e' ≡ c → e' ≤ j
        out x y true r = let z = h x (ltb-true j e' r) in absurd (omega arith)
        out x y false r = ltb-false j e' r

module _ (f : ℕ → ℕ) (l : List ℕ) (s : ℕ) where
  pub range_none : (j : ℕ) → get_or l j 0 ≡ changed_in f s s l j
  range_none j = by (ltb j s) refl
    where
      by : (a : Bool) → ltb j s ≡ a → get_or l j 0 ≡ changed_in f s s l j
      by true p = sym (below-range f l s s j (ltb-true j s p))
      by false p = sym (above-range f l s s j (ltb-false j s p))

  pub range-more : (m : List ℕ) (i v : ℕ) → i < length m → s ≤ i → v ≡ f (get_or m i 0) → ((j : ℕ) → get_or m j 0 ≡ changed_in f s i l j) → (j : ℕ) → get_or (set m i v) j 0 ≡ changed_in f s (i + 1) l j
  range-more m i v h g e inv j = by (eqb j i) refl
    where
      by : (a : Bool) → eqb j i ≡ a → get_or (set m i v) j 0 ≡ changed_in f s (i + 1) l j
      by true p = let q = eqb-true j i p in rw q (get_or-set_same m i v 0 h ∙ e ∙ ap f (inv i ∙ above-range f l s i i (omega arith)) ∙ sym (in-range f l s (i + 1) i g (omega arith)))
      by false p = let q : j ≡ i → ⊥ = eqb-false j i p in get_or-set_other m i j v 0 q ∙ inv j ∙ same-range f l s i (i + 1) j (λ x y. omega arith) (λ x y. omega arith)

  pub range-done : (m : List ℕ) (i e : ℕ) → e ≤ i → i ≤ max s e → ((j : ℕ) → get_or m j 0 ≡ changed_in f s i l j) → (j : ℕ) → get_or m j 0 ≡ changed_in f s e l j
  range-done m i e g h inv j = inv j ∙ same-range f l s i e j (λ x y. omega arith) (λ x y. omega arith)

iff : (a b : Bool) → (a ≡ true → b ≡ true) → (b ≡ true → a ≡ true) → a ≡ b
iff true b g h = sym (g refl)
iff false true g h = h refl
iff false false g h = refl

pub both : (a b : Bool) → (a && b) ≡ true → (a ≡ true) × (b ≡ true)
both true b e = (refl, e)
both false b e = absurd (let z : ◌≡◌ {A = ℕ} 0 1 = cc in omega arith)

-- the cells that a rule names stand one behind the other
module _ (r : Rule) (small : Small r) (cell : ℕ) where
  row : names r cell ≡ (leb (32 * r.id + r.lowest) cell && ltb cell (32 * r.id + r.highest + 1))
  unfolding names
  row =
      iff _ _
      (λ e.
      let p = both (eqb r.id (cell / 32)) _ e in
      let q = both (leb r.lowest (cell % 32)) _ p.1 in
      let x = eqb-true r.id (cell / 32) p.0 in
      let y = leb-true r.lowest (cell % 32) q.0 in
      let z = leb-true (cell % 32) r.highest q.1 in
      rw (le-leb (32 * r.id + r.lowest) cell (omega arith), lt-ltb cell (32 * r.id + r.highest + 1) (omega arith)))
      (λ e.
      let p = both (leb (32 * r.id + r.lowest) cell) _ e in
      let x = leb-true (32 * r.id + r.lowest) cell p.0 in
      let y = ltb-true cell (32 * r.id + r.highest + 1) p.1 in
      let s = small.lowest in
      let t = small.highest in
      rw (eq-eqb r.id (cell / 32) (omega arith), le-leb r.lowest (cell % 32) (omega arith), le-leb (cell % 32) r.highest (omega arith)))

pub by-rule : (f : ℕ → ℕ) (r : Rule) (from : ℕ) (l : List ℕ) (s e j : ℕ) → Small r → s ≡ 32 * r.id + r.lowest - from → e ≡ min (32 * r.id + r.highest + 1 - from) (length l) → j < length l
    → changed_in f s e l j ≡ changed_by f r from l j
unfolding changed_in changed_by
by-rule f r from l s e j small es ee h = rw (row r small (from + j)) (ap (λ (c : Bool). cond c (f (get_or l j 0)) (get_or l j 0)) tests)
  where
    tests : (leb s j && ltb j e) ≡ (leb (32 * r.id + r.lowest) (from + j) && ltb (from + j) (32 * r.id + r.highest + 1))
    tests =
        iff _ _
        (λ p.
        let q = both (leb s j) _ p in
        let x = leb-true s j q.0 in
        let y = ltb-true j e q.1 in
        rw (le-leb (32 * r.id + r.lowest) (from + j) (omega arith), lt-ltb (from + j) (32 * r.id + r.highest + 1) (omega arith)))
        (λ p.
        let q = both (leb (32 * r.id + r.lowest) (from + j)) _ p in
        let x = leb-true (32 * r.id + r.lowest) (from + j) q.0 in
        let y = ltb-true (from + j) (32 * r.id + r.highest + 1) q.1 in
        rw (le-leb s j (omega arith), lt-ltb j e (omega arith)))

-- a rule of another stretch names no cell of this one
pub elsewhere : (f : ℕ → ℕ) (r : Rule) (s : ℕ) (l : List ℕ) → (r.id / 256 ≡ s → ⊥) → length l ≡ 8192 → Changed f r (8192 * s) l l
unfolding changed_by names
elsewhere f r s l h g = record { long = refl; at = λ j b. let x : r.id ≡ (8192 * s + j) / 32 → ⊥ = λ e. h (omega arith) in rw (ne_eqb r.id ((8192 * s + j) / 32) x) }

-- the counts after k rules
pub counted_none : (l : List ℕ) (from : ℕ) (m : List ℕ) → ((j : ℕ) → j < length m → get_or m j 0 ≡ 0) → Counted l 0 from m
unfolding namings
counted_none l from m z = record { at = z }

pub counted-more : {l : List ℕ} {k from : ℕ} {m m' : List ℕ} {r : Rule} → r ≡ rule_at l k → Changed one_more r from m m' → Counted l k from m → Counted l (k + 1) from m'
unfolding namings changed_by
counted-more {l} {k} {from} {m} {m'} {r} e f inv = record { at = λ j h. let g = f.long in f.at j (omega arith) ∙ rw (add-one k, inv.at j (omega arith), ← e) (by (names r (from + j)) (namings l k (from + j))) }
  where
    by : (c : Bool) (x : ℕ) → cond c (min 2 (min 2 x + 1)) (min 2 x) ≡ min 2 (x + cond c 1 0)
    by true x = omega arith
    by false x = omega arith

-- a search in counts and in cells
pub first-shift : (f g : ℕ → Bool) (from n i : ℕ) → ((j : ℕ) → i ≤ j → j < i + n → f j ≡ g (from + j)) → from + first_from f n i ≡ first_from g n (from + i)
unfolding first_from
first-shift f g from zero i h = refl
first-shift f g from (suc n) i h =
    rw (← h i (omega arith) (omega arith)) (by (f i) (first-shift f g from n (suc i) (λ j a b. h j (omega arith) (omega arith)) ∙ ap (λ (x : ℕ). first_from g n x) (omega arith)))
  where
    by : (c : Bool) → from + first_from f n (suc i) ≡ first_from g n (suc (from + i)) → from + cond c i (first_from f n (suc i)) ≡ cond c (from + i) (first_from g n (suc (from + i)))
    by true e = refl
    by false e = e

-- the same search by std's word
pub position_is : (p : ℕ → Bool) (m : List ℕ) (n i : ℕ) → i + n ≤ length m → i + position_or_len p (take n (drop i m)) ≡ first_from (λ j. p (get_or m j 0)) n i
unfolding first_from
position_is p m zero i h = omega arith
position_is p m (suc n) i h =
    rw (drop-cons m i 0 (omega arith)) (by (p (get_or m i 0)) (position_is p m n (suc i) (omega arith)))
  where
    by : (c : Bool) → suc i + position_or_len p (take n (drop (suc i) m)) ≡ first_from (λ j. p (get_or m j 0)) n (suc i) → i + cond (not c) (1 + position_or_len p (take n (drop (suc i) m))) 0 ≡ cond c i (first_from (λ j. p (get_or m j 0)) n (suc i))
    by true e = omega arith
    by false e = omega (arith, e)

pub position-le : (p : ℕ → Bool) (l : List ℕ) → position_or_len p l ≤ length l
position-le p [] = omega arith
position-le p (x ∷ l) = by (p x) (position-le p l)
  where
    by : (c : Bool) → position_or_len p l ≤ length l → cond (not c) (1 + position_or_len p l) 0 ≤ suc (length l)
    by true e = omega arith
    by false e = omega arith

-- what `position` gives, or the length where it gives none
pub unwrapped : (r : Option ℕ) (k n x : ℕ) → k ≤ n → r ≡ cond (ltb k n) (Some k) None → x ≡ unwrap_or r n → x ≡ k
unwrapped r k n x h e q = q ∙ ap (λ (o : Option ℕ). unwrap_or o n) e ∙ by (ltb k n) refl
  where
    by : (c : Bool) → ltb k n ≡ c → unwrap_or (cond c (Some k) None) n ≡ k
    by true t = refl
    by false t = let g = ltb-false k n t in omega arith

at-start : (g : ℕ → Bool) (from n : ℕ) {x : ℕ} → x ≡ first_from g n (from + 0) → x ≡ first_from g n from
at-start g from n e = e ∙ ap (first_from g n) (omega arith)

twice_cut : (x : ℕ) → leb 2 (min 2 x) ≡ leb 2 x
twice_cut x = iff _ _ (λ e. let y = leb-true 2 (min 2 x) e in le-leb 2 x (omega arith)) (λ e. let y = leb-true 2 x e in le-leb 2 (min 2 x) (omega arith))

none-cut : (x : ℕ) → eqb (min 2 x) 0 ≡ eqb x 0
none-cut x = iff _ _ (λ e. let y = eqb-true (min 2 x) 0 e in eq-eqb x 0 (omega arith)) (λ e. let y = eqb-true x 0 e in eq-eqb (min 2 x) 0 (omega arith))

front_is : (p : ℕ → Bool) (m : List ℕ) (n r : ℕ) → n ≤ length m → r ≡ position_or_len p (take n m) → r ≡ first_from (λ j. p (get_or m j 0)) n 0
front_is p m n r h e = omega (arith, position_is p m n 0 (omega arith))

module _ (l : List ℕ) (from n : ℕ) (m : List ℕ) (h : n ≤ length m) (inv : Counted l (length l / 4) from m) where
  pub twice_found : (r : ℕ) → r ≡ position_or_len (leb 2) (take n m) → from + r ≡ first_from (overlaps l) n from
  twice_found r e = rw (front_is (leb 2) m n r h e) (at-start (overlaps l) from n (first-shift (λ j. leb 2 (get_or m j 0)) (overlaps l) from n 0 (λ j a b. ap (leb 2) (inv.at j (omega arith)) ∙ twice_cut (namings l (length l / 4) (from + j)))))

  pub none_found : (r : ℕ) → r ≡ position_or_len (λ x. eqb x 0) (take n m) → from + r ≡ first_from (gaps l) n from
  none_found r e = rw (front_is (λ x. eqb x 0) m n r h e) (at-start (gaps l) from n (first-shift (λ j. eqb (get_or m j 0) 0) (gaps l) from n 0 (λ j a b. ap (λ (x : ℕ). eqb x 0) (inv.at j (omega arith)) ∙ none-cut (namings l (length l / 4) (from + j)))))

pub found_le : (p : ℕ → Bool) (m : List ℕ) (n r : ℕ) → r ≡ position_or_len p (take n m) → r ≤ n
found_le p m n r e = omega (arith, position-le p (take n m), length-take n m)

-- a search in parts
pub found_first : (o a n : ℕ) → o < a → o ≡ joined o a n
found_first o a n h = rw (lt-ltb o a h)

pub found-next : (o a n : ℕ) → a ≤ o → n ≡ joined o a n
found-next o a n h = rw (le-ltb o a h)

pub first-zero : (f : ℕ → Bool) → 0 ≡ first_from f 0 0
unfolding first_from
first-zero f = refl

in_parts : (f : ℕ → Bool) (a b i : ℕ) → first_from f (a + b) i ≡ joined (first_from f a i) (i + a) (first_from f b (i + a))
unfolding first_from
in_parts f zero b i =
    let e : 0 + b ≡ b = omega arith in
    let g : i + 0 ≡ i = omega arith in
    rw (e, g) (found-next i i (first_from f b i) (omega arith))
in_parts f (suc a) b i =
    let e : suc a + b ≡ suc (a + b) = omega arith in
    let g : suc i + a ≡ i + suc a = omega arith in
    rw e (by (f i) (rw g at (in_parts f a b (suc i))))
  where
    by : (c : Bool) → first_from f (a + b) (suc i) ≡ joined (first_from f a (suc i)) (i + suc a) (first_from f b (i + suc a))
        → cond c i (first_from f (a + b) (suc i)) ≡ joined (cond c i (first_from f a (suc i))) (i + suc a) (first_from f b (i + suc a))
    by true h = found_first i (i + suc a) (first_from f b (i + suc a)) (omega arith)
    by false h = h

pub joined-more : (f : ℕ → Bool) (a b a' o n r : ℕ) → a ≡ a' → o ≡ first_from f a 0 → n ≡ first_from f b a' → r ≡ joined o a n → r ≡ first_from f (a + b) 0
joined-more f a b a' o n r ea eo en er =
    let g : 0 + a ≡ a = omega arith in
    er ∙ rw (eo, en, ← ea) (sym (rw g at (in_parts f a b 0)))

-- the table after k rules
pub filled_none : (l m : List ℕ) → Filled l 0 m m
unfolding class_at
filled_none l m = record { long = refl; at = λ j h. refl }

pub filled_more : {l : List ℕ} {k : ℕ} {m₀ m m' : List ℕ} {r : Rule} → r ≡ rule_at l k → Changed (always r.class) r 0 m m' → Filled l k m₀ m → Filled l (k + 1) m₀ m'
unfolding class_at changed_by
filled_more {l} {k} {m₀} {m} {m'} {r} e f inv = record { long = f.long ∙ inv.long; at = λ j h. let g = inv.long in let z : 0 + j ≡ j = omega arith in rw z at (f.at j (omega arith)) ∙ rw (add-one k, inv.at j h, ← e) }

-- the tests of a check, one behind the other
module _ (tags : ℕ) (l : List ℕ) (lent : ℕ) (w : Bool) (ew : w ≡ formed tags l) where
  pub malformed : w ≡ false → no 22 [] ≡ checked tags l lent
  unfolding checked
  malformed h = rw (← ew, h)

  module _ (h : w ≡ true) (o : ℕ) (eo : o ≡ first_from (overlaps l) (32 * tags) 0) where
    pub overlapping : o < 32 * tags → no 23 (o / 32 ∷ o % 32 ∷ []) ≡ checked tags l lent
    unfolding checked
    overlapping p = rw (← ew, h, ← eo, lt-ltb o (32 * tags) p)

    module _ (p : 32 * tags ≤ o) (g : ℕ) (eg : g ≡ first_from (gaps l) (32 * tags) 0) where
      pub gaping : g < 32 * tags → no 24 (g / 32 ∷ g % 32 ∷ []) ≡ checked tags l lent
      unfolding checked
      gaping q = rw (← ew, h, ← eo, le-ltb o (32 * tags) p, ← eg, lt-ltb g (32 * tags) q)

      pub too_short : 32 * tags ≤ g → lent < 32 * tags → no 15 (lengths (32 * tags) 0 0 0 0 0) ≡ checked tags l lent
      unfolding checked
      too_short q r = rw (← ew, h, ← eo, le-ltb o (32 * tags) p, ← eg, le-ltb g (32 * tags) q, lt-ltb lent (32 * tags) r)

      pub passed : 32 * tags ≤ g → 32 * tags ≤ lent → ok tt 0 ≡ checked tags l lent
      unfolding checked
      passed q r = rw (← ew, h, ← eo, le-ltb o (32 * tags) p, ← eg, le-ltb g (32 * tags) q, le-ltb lent (32 * tags) r)

pub ruleset showing = (rules, no-multiple, none-formed, more-formed, one-bad, all-formed, class-here, shown-here, shown-later, shown-nowhere, range_none, found_first, found-next, first-zero, filled_none)
