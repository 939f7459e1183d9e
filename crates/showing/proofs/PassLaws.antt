-- Theorems of request 9: a table passes exactly when every tag and zoom has one rule and nothing else turns it away; where a refusal
-- stands is the smallest such place; a filled table has the class of the one rule, and decides as the rules do.
use Prim.Native.Nat.{ℕ, zero, suc, ◌+◌, ◌*◌, ◌/◌, ◌%◌, ◌<◌, ◌≤◌}
use native.Mathlib.Omega.{arith}
use mathlib.Core.Path.{◌≡◌, refl, sym, ap, ◌∙◌}
use mathlib.Core.Bool.{Bool, true, false, cond, not, ◌&&◌, ◌||◌}
use mathlib.Core.List.{List, [], ◌∷◌}
use borrow.Author.Tests.{ltb-true, ltb-false, leb-true, leb-false, eqb-true, eqb-false, ne_eqb}
use lib.Dec.{eqb, leb, ltb}
use lib.ListN.{length, get_or}
use Rattle.parsing.specs.Parse.{ok, no}
use Rattle.showing.specs.Showing.{rule_at, well_formed, first_formed, formed, names, namings, class_at, first_from, overlaps, gaps, checked, Passes, First, Filled, After, zoom_of, class_in, shown, ruled_in, shown_by, below}
use Rattle.showing.proofs.ShowingLaws.{malformed, overlapping, gaping, too_short, passed, both}

pub first-is : (f : ℕ → Bool) (n i : ℕ) → First f n i (first_from f n i)
unfolding first_from
first-is f zero i = record { start = omega arith; end = omega arith; before = λ k a b. absurd (omega arith); holds = λ h. absurd (omega arith) }
first-is f (suc n) i = by (f i) refl (first-is f n (suc i))
  where
    here : (r : ℕ) → f i ≡ false → First f n (suc i) r → (k : ℕ) → i ≤ k → k < r → (c : Bool) → eqb k i ≡ c → f k ≡ false
    here r e t k a b true g = ap f (eqb-true k i g) ∙ e
    here r e t k a b false g = let x : k ≡ i → ⊥ = eqb-false k i g in t.before k (omega arith) b

    by : (c : Bool) → f i ≡ c → First f n (suc i) (first_from f n (suc i)) → First f (suc n) i (cond c i (first_from f n (suc i)))
    by true e t = record { start = omega arith; end = omega arith; before = λ k a b. absurd (omega arith); holds = λ h. e }
    by false e t =
        let x = t.start in
        let y = t.end in
        record { start = omega arith; end = omega arith; before = λ k a b. here (first_from f n (suc i)) e t k a b (eqb k i) refl; holds = λ h. t.holds (omega arith) }

one : (n : ℕ) → leb 2 n ≡ false → eqb n 0 ≡ false → n ≡ 1
one n a b = let x = leb-false 2 n a in let y : n ≡ 0 → ⊥ = eqb-false n 0 b in omega arith

module _ (tags : ℕ) (l : List ℕ) (lent : ℕ) where
  -- the first overlap and the first gap
  o : ℕ
  o = first_from (overlaps l) (32 * tags) 0

  g : ℕ
  g = first_from (gaps l) (32 * tags) 0

  pub passes : checked tags l lent ≡ ok tt 0 → Passes tags l lent
  unfolding o g
  passes e = by_form (formed tags l) refl
    where
      by-lent : formed tags l ≡ true → 32 * tags ≤ o → 32 * tags ≤ g → (c : Bool) → ltb lent (32 * tags) ≡ c → Passes tags l lent
      by-lent w p q true h = absurd (let x = too_short tags l lent (formed tags l) refl w o refl p g refl q (ltb-true lent (32 * tags) h) in let z : ◌≡◌ {A = ℕ} 0 1 = cc in omega arith)
      by-lent w p q false h = record {
        well_made = w;
        once = λ cell b. one (namings l (length l / 4) cell) ((first-is (overlaps l) (32 * tags) 0).before cell (omega arith) (omega arith)) ((first-is (gaps l) (32 * tags) 0).before cell (omega arith) (omega arith));
        long = ltb-false lent (32 * tags) h;
      }

      by-gap : formed tags l ≡ true → 32 * tags ≤ o → (c : Bool) → ltb g (32 * tags) ≡ c → Passes tags l lent
      by-gap w p true h = absurd (let x = gaping tags l lent (formed tags l) refl w o refl p g refl (ltb-true g (32 * tags) h) in let z : ◌≡◌ {A = ℕ} 0 1 = cc in omega arith)
      by-gap w p false h = by-lent w p (ltb-false g (32 * tags) h) (ltb lent (32 * tags)) refl

      by_over : formed tags l ≡ true → (c : Bool) → ltb o (32 * tags) ≡ c → Passes tags l lent
      by_over w true h = absurd (let x = overlapping tags l lent (formed tags l) refl w o refl (ltb-true o (32 * tags) h) in let z : ◌≡◌ {A = ℕ} 0 1 = cc in omega arith)
      by_over w false h = by-gap w (ltb-false o (32 * tags) h) (ltb g (32 * tags)) refl

      by_form : (c : Bool) → formed tags l ≡ c → Passes tags l lent
      by_form true w = by_over w (ltb o (32 * tags)) refl
      by_form false w = absurd (let x = malformed tags l lent (formed tags l) refl w in let z : ◌≡◌ {A = ℕ} 0 1 = cc in omega arith)

  pub passes-if : Passes tags l lent → checked tags l lent ≡ ok tt 0
  unfolding o g
  passes-if p = sym (passed tags l lent (formed tags l) refl p.well_made o refl (none o (first-is (overlaps l) (32 * tags) 0) over (ltb o (32 * tags)) refl) g refl (none g (first-is (gaps l) (32 * tags) 0) gap (ltb g (32 * tags)) refl) p.long)
    where
      over : (cell : ℕ) → cell < 32 * tags → overlaps l cell ≡ true → ⊥
      over cell b t = let x = p.once cell b in let y = leb-true 2 (namings l (length l / 4) cell) t in omega arith

      gap : (cell : ℕ) → cell < 32 * tags → gaps l cell ≡ true → ⊥
      gap cell b t = let x = p.once cell b in let y = eqb-true (namings l (length l / 4) cell) 0 t in omega arith

      none : {f : ℕ → Bool} (r : ℕ) → First f (32 * tags) 0 r → ((cell : ℕ) → cell < 32 * tags → f cell ≡ true → ⊥) → (c : Bool) → ltb r (32 * tags) ≡ c → 32 * tags ≤ r
      none r t never true h = let x = ltb-true r (32 * tags) h in absurd (never r x (t.holds (omega arith)))
      none r t never false h = ltb-false r (32 * tags) h

-- one rule among the first n names the cell
module _ (l : List ℕ) (cell : ℕ) where
  named : (k n : ℕ) → k < n → names (rule_at l k) cell ≡ true → 1 ≤ namings l n cell
  unfolding namings
  named k zero h e = absurd (omega arith)
  named k (suc n) h e = by (eqb k n) refl (λ x. named k n (omega arith) e)
    where
      by : (c : Bool) → eqb k n ≡ c → ((k ≡ n → ⊥) → 1 ≤ namings l n cell) → 1 ≤ namings l n cell + cond (names (rule_at l n) cell) 1 0
      by true g r = rw (← eqb-true k n g, e) (omega arith)
      by false g r = let x = r (eqb-false k n g) in omega arith

  -- its class is the cell's, whatever stood there
  pub class-is : (k n other : ℕ) → k < n → names (rule_at l k) cell ≡ true → namings l n cell ≡ 1 → class_at l n cell other ≡ (rule_at l k).class
  unfolding namings class_at
  class-is k zero other h e s = absurd (omega arith)
  class-is k (suc n) other h e s = by (eqb k n) refl (λ x y. class-is k n other (omega arith) e y) (λ x. named k n (omega arith) e)
    where
      last : (c : Bool) → names (rule_at l n) cell ≡ c → 1 ≤ namings l n cell → (namings l n cell ≡ 1 → class_at l n cell other ≡ (rule_at l k).class)
          → cond (names (rule_at l n) cell) (rule_at l n).class (class_at l n cell other) ≡ (rule_at l k).class
      last true g m r = absurd (let z = rw g at s in omega arith)
      last false g m r = let z = rw g at s in rw g (r (omega arith))

      by : (c : Bool) → eqb k n ≡ c → ((k ≡ n → ⊥) → namings l n cell ≡ 1 → class_at l n cell other ≡ (rule_at l k).class) → ((k ≡ n → ⊥) → 1 ≤ namings l n cell)
          → cond (names (rule_at l n) cell) (rule_at l n).class (class_at l n cell other) ≡ (rule_at l k).class
      by true g r m = rw (← eqb-true k n g, e)
      by false g r m = let x = eqb-false k n g in last (names (rule_at l n) cell) refl (m x) (r x)

-- what a filled table says of a tag and a zoom is the class of the rule that names them
pub class-shown : (tags : ℕ) (l m m' : List ℕ) (zoom id k : ℕ) → Passes tags l (length m) → Filled l (length l / 4) m m' → id < tags → k < length l / 4
    → names (rule_at l k) (32 * id + zoom_of zoom) ≡ true → class_in m' zoom id ≡ (rule_at l k).class
unfolding class_in
class-shown tags l m m' zoom id k p f h g e =
    let x = p.long in
    f.at (32 * id + zoom_of zoom) (omega arith) ∙ class-is l (32 * id + zoom_of zoom) k (length l / 4) _ g e (p.once (32 * id + zoom_of zoom) (omega arith))

-- where just one rule names the cell, its class tells whether one shows it
module _ (l : List ℕ) (cell other : ℕ) where
  nobody : (n : ℕ) → namings l n cell ≡ 0 → ruled_in l n cell ≡ false
  unfolding namings ruled_in
  nobody zero e = refl
  nobody (suc n) e = by (names (rule_at l n) cell) refl (λ z. nobody n z)
    where
      by : (c : Bool) → names (rule_at l n) cell ≡ c → (namings l n cell ≡ 0 → ruled_in l n cell ≡ false) → (names (rule_at l n) cell && not (eqb (rule_at l n).class 0) || ruled_in l n cell) ≡ false
      by true g r = absurd (let z = rw g at e in omega arith)
      by false g r = let z = rw g at e in rw g (r (omega arith))

  or-false : (a : Bool) → (a || false) ≡ a
  or-false true = refl
  or-false false = refl

  one-tells : (n : ℕ) → namings l n cell ≡ 1 → not (eqb (class_at l n cell other) 0) ≡ ruled_in l n cell
  unfolding namings ruled_in class_at
  one-tells zero e = absurd (omega arith)
  one-tells (suc n) e = by (names (rule_at l n) cell) refl (λ z. one-tells n z)
    where
      by : (c : Bool) → names (rule_at l n) cell ≡ c → (namings l n cell ≡ 1 → not (eqb (class_at l n cell other) 0) ≡ ruled_in l n cell)
          → not (eqb (cond (names (rule_at l n) cell) (rule_at l n).class (class_at l n cell other)) 0) ≡ (names (rule_at l n) cell && not (eqb (rule_at l n).class 0) || ruled_in l n cell)
      by true g r = let z = rw g at e in rw (g, nobody n (omega arith)) (sym (or-false (not (eqb (rule_at l n).class 0))))
      by false g r = let z = rw g at e in rw g (r (omega arith))

-- a table that a check filled decides by the rules: a way is accepted exactly if one of its tags has a rule with a class other than 0 at
-- the zoom asked for
pub decides : (tags : ℕ) (l m m' : List ℕ) (zoom : ℕ) (ids : List ℕ) → checked tags l (length m) ≡ ok tt 0 → After (ok tt 0) l m m' → below tags ids ≡ true
    → shown m' zoom ids ≡ shown_by l zoom ids
unfolding shown shown_by below class_in
decides tags l m m' zoom ids e f b = go ids b
  where
    p : Passes tags l (length m)
    p = passes tags l (length m) e

    go : (ids : List ℕ) → below tags ids ≡ true → shown m' zoom ids ≡ shown_by l zoom ids
    go [] b = refl
    go (id ∷ ids) b =
        let cell = 32 * id + zoom_of zoom in
        let q = both (ltb id tags) _ b in
        let h = ltb-true id tags q.0 in
        let x = p.long in
        rw (f.at cell (omega arith), one-tells l cell (get_or m cell 0) (length l / 4) (p.once cell (omega arith)), go ids q.1) refl

-- entries behind the table keep their values
module _ (tags : ℕ) (l : List ℕ) (cell other : ℕ) (h : 32 * tags ≤ cell) where
  outside-all : (n : ℕ) → first_formed tags l n ≡ true → class_at l n cell other ≡ other
  unfolding first_formed class_at well_formed names
  outside-all zero e = refl
  outside-all (suc n) e =
      let p = both (first_formed tags l n) _ e in
      let q = both (ltb (rule_at l n).id tags) _ p.1 in
      let x = ltb-true (rule_at l n).id tags q.0 in
      let y : (rule_at l n).id ≡ cell / 32 → ⊥ = λ z. omega arith in
      rw (ne_eqb (rule_at l n).id (cell / 32) y) (outside-all n p.0)

  pub behind : formed tags l ≡ true → class_at l (length l / 4) cell other ≡ other
  unfolding formed
  behind e = outside-all (length l / 4) (both (eqb (length l % 4) 0) _ e).1

-- there is only one first cell
module _ {f : ℕ → Bool} {n i : ℕ} where
  differ : {r s : ℕ} → First f n i r → First f n i s → r < s → ⊥
  differ {r} {s} a b h =
      let x = a.start in
      let y = b.end in
      let e = a.holds (omega arith) in
      let g = b.before r x h in
      let q : ◌≡◌ {A = ℕ} 0 1 = cc in
      omega arith

  same_first : (r s : ℕ) → First f n i r → First f n i s → r ≡ s
  same_first r s a b = by (ltb r s) refl (ltb s r) refl
    where
      by : (c : Bool) → ltb r s ≡ c → (d : Bool) → ltb s r ≡ d → r ≡ s
      by true p d q = absurd (differ a b (ltb-true r s p))
      by false p true q = absurd (differ b a (ltb-true s r q))
      by false p false q = let x = ltb-false r s p in let y = ltb-false s r q in omega arith

-- 23 stands at the smallest tag and zoom that two rules name; where there is none, 24 at the smallest that none does
module _ (tags : ℕ) (l : List ℕ) (lent : ℕ) (w : formed tags l ≡ true) (r : ℕ) (over : First (overlaps l) (32 * tags) 0 r) where
  pub overlap-first : r < 32 * tags → checked tags l lent ≡ no 23 (r / 32 ∷ r % 32 ∷ [])
  overlap-first h = sym (overlapping tags l lent (formed tags l) refl w r (same_first r _ over (first-is (overlaps l) (32 * tags) 0)) h)

  pub gap-first : 32 * tags ≤ r → (s : ℕ) → First (gaps l) (32 * tags) 0 s → s < 32 * tags → checked tags l lent ≡ no 24 (s / 32 ∷ s % 32 ∷ [])
  gap-first p s gap h =
      sym
      (gaping tags l lent (formed tags l) refl w r (same_first r _ over (first-is (overlaps l) (32 * tags) 0)) p s
      (same_first s _ gap (first-is (gaps l) (32 * tags) 0)) h)
