-- Laws of a tag's key, value and letter, by the tests that the code makes.
use Prim.Native.Nat.{ℕ, suc, ◌+◌, ◌-◌, ◌<◌, ◌≤◌}
use native.Mathlib.Numerals.{add-one}
use native.Mathlib.Omega.{arith}
use mathlib.Core.Path.{◌≡◌, refl, sym, ap, ◌∙◌}
use mathlib.Core.List.{List, [], ◌∷◌}
use mathlib.Core.Bool.{Bool, true, false, cond}
use lib.Dec.{eqb, ltb}
use lib.ListN.{length, take, drop, get_or, drop_of_length-le, length-drop}
use lib.Seq.{length-take-le, take_all}
use borrow.Author.Rules.{rules}
use Rattle.parsing.proofs.Steps.{eqb_yes, eqb_no}
use borrow.Author.Tests.{ltb-true, ltb-false}
use Rattle.std.specs.Prelude.{Option, Some, None}
use Rattle.std.specs.List.{position_or_len}
use Rattle.std.proofs.lemmas.List.Recursion.{is_position_or_len}
use Rattle.arithmetic.specs.Cut.{cut}
use Rattle.text.specs.Utf8.{code_points, replaced}
use Rattle.text.specs.Hash.{hash}
use Rattle.text.proofs.Utf8Laws.{drop_here}
use Rattle.tag.specs.declared.Tag.{Tag}
use Rattle.tag.specs.declared.TextKey.{TextKey}
use Rattle.tag.specs.declared.TextKey.TheVariants.{Name, HouseNumber, Ref}
use Rattle.tag.specs.declared.Kind.{Kind}
use Rattle.tag.specs.Tag.{equals_at, value_of, new_tag, tag_of, key_bytes, mark, letter_after, kind_of, kind}
use Rattle.tag.proofs.RawLaws.{key-raw, value-raw, kind-raw}

-- the first `=` as `position` finds it
pub equals-is : (s : List ℕ) → equals_at s ≡ position_or_len (λ b. eqb b 61) s
unfolding equals_at
equals-is s = is_position_or_len equals_at (λ b. eqb b 61) refl (λ b r. ap (λ (n : ℕ). cond (eqb b 61) 0 n) (omega arith)) s

pub found_at : (k n at : ℕ) (r : Option ℕ) → r ≡ cond (ltb k n) (Some k) None → r ≡ Some at → (at ≡ k) × (k < n)
found_at k n at r e h = by (ltb k n) refl (sym e ∙ h)
  where
    by : (b : Bool) → ltb k n ≡ b → cond b (Some k) None ≡ Some at → (at ≡ k) × (k < n)
    by true t q = (cc, ltb-true k n t)
    by false t q = cc

pub found_none : (k n : ℕ) (r : Option ℕ) → r ≡ cond (ltb k n) (Some k) None → r ≡ None → n ≤ k
found_none k n r e h = by (ltb k n) refl (sym e ∙ h)
  where
    by : (b : Bool) → ltb k n ≡ b → cond b (Some k) None ≡ None → n ≤ k
    by true t q = cc
    by false t q = ltb-false k n t

-- the place of the first `=`, or of the end, is no further than the end
pub equals-le : (s : List ℕ) → equals_at s ≤ length s
unfolding equals_at
equals-le [] = omega arith
equals-le (b ∷ s) = go (eqb b 61) (equals-le s)
  where
    go : (x : Bool) → equals_at s ≤ length s → cond x 0 (suc (equals_at s)) ≤ suc (length s)
    go true h = omega arith
    go false h = omega arith

pub split-in : (s : List ℕ) (n : ℕ) → n ≡ equals_at s → n ≤ length s
split-in s n e = rw e (equals-le s)

pub split-count : (s : List ℕ) (n : ℕ) → n ≡ equals_at s → n ≡ length (take n s)
split-count s n e = sym (length-take-le n s (split-in s n e))

-- the letter, from a place on
drop-two : (s : List ℕ) (at : ℕ) → at + 1 < length s → drop at s ≡ get_or s at 0 ∷ get_or s (at + 1) 0 ∷ drop (at + 2) s
drop-two s at h =
    let e : at + 1 + 1 ≡ at + 2 = omega arith in
    let d : drop (at + 1) s ≡ get_or s (at + 1) 0 ∷ drop (at + 2) s = rw e at (drop_here s (at + 1) (get_or s (at + 1) 0) h refl) in
    drop_here s at (get_or s at 0) (omega arith) refl ∙ ap (λ r. get_or s at 0 ∷ r) d

module _ (s : List ℕ) (at t n : ℕ) (x : Bool) (q : x ≡ mark (get_or s at 0) (get_or s (at + 1) 0)) (l : n ≡ length s) where
  pub letter-here : at < n - 2 → x ≡ true → letter_after (drop at s) ≡ t → get_or s (at + 2) 0 ≡ t
  unfolding letter_after
  letter-here h e f =
      let d : drop (at + 2) s ≡ get_or s (at + 2) 0 ∷ drop (at + 2 + 1) s = drop_here s (at + 2) (get_or s (at + 2) 0) (omega arith) refl in
      rw (drop-two s at (omega arith), sym q ∙ e, d) at f

  pub letter-more : at < n - 2 → x ≡ false → letter_after (drop at s) ≡ t → letter_after (drop (at + 1) s) ≡ t
  unfolding letter_after
  letter-more h e f =
      let d : drop (at + 1) s ≡ get_or s (at + 1) 0 ∷ drop (at + 1 + 1) s = drop_here s (at + 1) (get_or s (at + 1) 0) (omega arith) refl in
      rw (d) (rw (drop_here s at (get_or s at 0) (omega arith) refl, d, sym q ∙ e) at f)

short : (s : List ℕ) → length s ≤ 2 → letter_after s ≡ 0
unfolding letter_after
short [] h = refl
short (b ∷ []) h = refl
short (b ∷ d ∷ []) h = go (mark b d)
  where
    go : (x : Bool) → ◌≡◌ {A = ℕ} (cond x 0 0) 0
    go true = refl
    go false = refl
short (b ∷ d ∷ g ∷ s) h = absurd (omega arith)

pub letter-end : (s : List ℕ) (at t n : ℕ) → n ≡ length s → n - 2 ≤ at → letter_after (drop at s) ≡ t → 0 ≡ t
letter-end s at t n l h f = sym (short (drop at s) (rw length-drop (omega arith))) ∙ f

pub letter-none : (s : List ℕ) (n : ℕ) → n ≡ length s → n < 3 → 0 ≡ letter_after s
letter-none s n l h = sym (short s (omega arith))

-- the tag of a key and a value
pub tag-new : (k v : List ℕ) (kl vl kc vc : ℕ) → kl ≡ cut (length k) → vl ≡ cut (length v) → kc ≡ hash (code_points k) → vc ≡ hash (code_points v)
    → ◌≡◌ {A = Tag} (record { key_len = kl; value_len = vl; key_code = kc; value_code = vc }) (new_tag k v)
tag-new k v kl vl kc vc a b c d = rw (a, b, c, d)

pub key-short : (k : TextKey) (n : ℕ) → n ≡ length (key_bytes k) → n ≡ cut (length (key_bytes k))
key-short Name n e = e
key-short HouseNumber n e = e
key-short Ref n e = e

-- a key that is known
pub code_at : (k k' : TextKey) (n : ℕ) → k ≡ k' → n ≡ hash (code_points (key_bytes k')) → n ≡ hash (code_points (key_bytes k))
code_at k k' n e h = h ∙ ap (λ x. hash (code_points (key_bytes x))) (sym e)

-- the stored text's key and value, replaced
module _ (s : List ℕ) (n : ℕ) (r : Tag) (e : n ≡ equals_at s) where
  split-up : (m : ℕ) → drop m s ≡ value_of s → r ≡ new_tag (replaced (take n s)) (replaced (take (length s - m) (drop m s))) → r ≡ tag_of s
  split-up m h q =
      let all : take (length s - m) (drop m s) ≡ drop m s = take_all (length s - m) (drop m s) (omega (arith, length-drop m s)) in
      rw (key-raw s, value-raw s, ← h, ← e) (rw all at q)

  pub tag-both : r ≡ new_tag (replaced (take n s)) (replaced (take (length s - (n + 1)) (drop (n + 1) s))) → r ≡ tag_of s
  tag-both q = split-up (n + 1) (rw (e, add-one (equals_at s))) q

module _ (s : List ℕ) (r : Option ℕ) (t : Tag) (e : r ≡ cond (ltb (position_or_len (λ b. eqb b 61) s) (length s)) (Some (position_or_len (λ b. eqb b 61) s)) None) where
  pub tag-at : (at : ℕ) → r ≡ Some at → t ≡ new_tag (replaced (take at s)) (replaced (take (length s - (at + 1)) (drop (at + 1) s))) → t ≡ tag_of s
  tag-at at h q = tag-both s at t ((found_at _ _ _ _ e h).0 ∙ sym (equals-is s)) q

  pub tag-none : r ≡ None → t ≡ new_tag (replaced s) (replaced []) → t ≡ tag_of s
  tag-none h q =
      let z : length s ≤ equals_at s = omega (arith, found_none _ _ _ e h, equals-is s) in
      rw (key-raw s, value-raw s, take_all (equals_at s) s z, drop_of_length-le s {i = suc (equals_at s)} (omega arith)) q

-- the kind, by the stored letter
pub kind-stored : (s : List ℕ) (l : ℕ) (k : Kind) → l ≡ letter_after s → k ≡ kind_of l → k ≡ kind (replaced s)
kind-stored s l k e q = q ∙ ap kind_of e ∙ sym (kind-raw s)

pub ruleset tags = (
  rules,
  eqb_yes,
  eqb_no,
  letter-here,
  letter-more,
  letter-end,
  letter-none,
  tag-new,
  key-short,
  code_at,
  kind-stored,
)
