-- Words that a loop writes from the front, five for each tag.
use Prim.Native.Nat.{ℕ, ◌+◌, ◌*◌, ◌≤◌, ◌<◌}
use native.Mathlib.Numerals.{add-one}
use native.Mathlib.Omega.{arith}
use mathlib.Core.Path.{◌≡◌, refl, sym, ap, ◌∙◌}
use mathlib.Core.List.{List, [], ◌∷◌, ◌++◌, append_assoc}
use lib.ListN.{length, set, take, get_or, length-append, length-take, drop_of_length-le}
use lib.Seq.{take-suc, take_all}
use mathlib.Core.List.{append-nil}
use borrow.Author.Rules.{rules}
use Rattle.format.specs.Lent.{front}
use Rattle.types.proofs.FillLaws.{front-more}
use Rattle.fetched.specs.declared.TagText.{TagText}
use Rattle.feature_wire.specs.Features.{tag_words}

-- one word behind those that are there
put : (xs l out : List ℕ) (k v : ℕ) → out ≡ front xs l → length xs ≡ k → k < length l → set out k v ≡ front (xs ++ (v ∷ [])) l
put xs l out k v e n h =
    ap (λ o. set o k v) e ∙ ap (λ j. set (front xs l) j v) (sym n) ∙ sym (front-more xs v l (omega (arith, n, h)))

next : {A : Type 0} (l : List A) (i : ℕ) (d : A) → i < length l → take (i + 1) l ≡ take i l ++ (get_or l i d ∷ [])
next l i d h = rw (add-one i) (take-suc l i d h)

-- five words for a tag
abbrev five : TagText → List ℕ
five t = t.len ∷ t.tag.key_len ∷ t.tag.value_len ∷ t.tag.key_code ∷ t.tag.value_code ∷ []

tags-append : (xs : List TagText) (t : TagText) → tag_words (xs ++ (t ∷ [])) ≡ tag_words xs ++ five t
unfolding tag_words
tags-append [] t = refl
tags-append (x ∷ xs) t = ap (λ l. x.len ∷ x.tag.key_len ∷ x.tag.value_len ∷ x.tag.key_code ∷ x.tag.value_code ∷ l) (tags-append xs t)

tags-length : (xs : List TagText) → length (tag_words xs) ≡ 5 * length xs
unfolding tag_words
tags-length [] = refl
tags-length (x ∷ xs) = let h = tags-length xs in omega arith

pub tags-none : (tags : List TagText) (lent : List ℕ) → lent ≡ front (tag_words (take 0 tags)) lent
unfolding tag_words
tags-none tags lent = refl

module _ (tags : List TagText) (n : length tags ≡ 15) (lent out : List ℕ) (z : length lent ≡ 75) (i : ℕ) (e : out ≡ front (tag_words (take i tags)) lent) where
  so_far : i ≤ 15 → length (tag_words (take i tags)) ≡ 5 * i
  so_far h = tags-length (take i tags) ∙ ap (λ k. 5 * k) (omega (arith, length-take i tags))

  pub tags-more : (d : TagText) → i < 15 →
      set (set (set (set (set out (5 * i) (get_or tags i d).len) (5 * i + 1) (get_or tags i d).tag.key_len) (5 * i + 2) (get_or tags i d).tag.value_len) (5 * i + 3) (get_or tags i d).tag.key_code) (5 * i + 4) (get_or tags i d).tag.value_code
      ≡ front (tag_words (take (i + 1) tags)) lent
  tags-more d h =
      let t = get_or tags i d in
      let w = tag_words (take i tags) in
      let c = so_far (omega arith) in
      let a1 = put w lent out (5 * i) t.len e c (omega arith) in
      let w1 = w ++ (t.len ∷ []) in
      let a2 = put w1 lent _ (5 * i + 1) t.tag.key_len a1 (omega (arith, length-append w (t.len ∷ []))) (omega arith) in
      let w2 = w1 ++ (t.tag.key_len ∷ []) in
      let a3 = put w2 lent _ (5 * i + 2) t.tag.value_len a2 (omega (arith, length-append w (t.len ∷ []), length-append w1 (t.tag.key_len ∷ []))) (omega arith) in
      let w3 = w2 ++ (t.tag.value_len ∷ []) in
      let a4 = put w3 lent _ (5 * i + 3) t.tag.key_code a3 (omega (arith, length-append w (t.len ∷ []), length-append w1 (t.tag.key_len ∷ []), length-append w2 (t.tag.value_len ∷ []))) (omega arith) in
      let w4 = w3 ++ (t.tag.key_code ∷ []) in
      let a5 = put w4 lent _ (5 * i + 4) t.tag.value_code a4 (omega (arith, length-append w (t.len ∷ []), length-append w1 (t.tag.key_len ∷ []), length-append w2 (t.tag.value_len ∷ []), length-append w3 (t.tag.key_code ∷ []))) (omega arith) in
      let s : w4 ++ (t.tag.value_code ∷ []) ≡ tag_words (take (i + 1) tags) = simp append_assoc (sym (ap tag_words (next tags i d (omega arith)) ∙ tags-append (take i tags) t)) in
      a5 ∙ ap (λ x. front x lent) s

  pub tags-done : 15 ≤ i → out ≡ tag_words tags
  tags-done h = e ∙ ap (λ x. front (tag_words x) lent) (take_all i tags (omega arith)) ∙ ap (λ x. tag_words tags ++ x) (drop_of_length-le lent {i = length (tag_words tags)} (omega (arith, tags-length tags))) ∙ append-nil (tag_words tags)

pub ruleset filled = (rules, tags-none, tags-more, tags-done)
