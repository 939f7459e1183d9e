-- The tags' strings filled into an array from the front, and the feature's own texts.
use Prim.Native.Nat.{ℕ, ◌+◌, ◌≤◌, ◌<◌, min}
use native.Mathlib.Numerals.{add-one}
use native.Mathlib.Omega.{arith}
use mathlib.Core.Path.{◌≡◌, refl, sym, ap, ◌∙◌}
use mathlib.Core.Bool.{Bool, true, false}
use mathlib.Core.List.{List, [], ◌∷◌, ◌++◌}
use lib.ListN.{length, get_or, take, set, replicate}
use lib.Dec.{leb}
use lib.Seq.{take-suc, take_all, take-length, length-take-le}
use borrow.Author.Tests.{leb-true, leb-false}
use Rattle.types.specs.declared.TagRange.{TagRange}
use Rattle.types.proofs.FillLaws.{front-map-more}
use Rattle.fetched.specs.Fetched.{started_name, tag_string, no_text, filled_texts}
use Rattle.fetched.specs.declared.FeatureTexts.{FeatureTexts}
use Rattle.feature_texts.specs.declared.TextParts.{TextParts}
use Rattle.feature_tags.specs.FeatureTags.{strings_of, own_texts, texts_of}
use Rattle.fetched.specs.declared.TagText.{TagText}

-- the first 15 ids
take-15 : (ids : List ℕ) (n : ℕ) → n ≡ min (length ids) 15 → take n ids ≡ take 15 ids
take-15 ids n h = go (leb (length ids) 15) refl
  where
    go : (t : Bool) → leb (length ids) 15 ≡ t → take n ids ≡ take 15 ids
    go true q =
        let l = leb-true (length ids) 15 q in
        let e : n ≡ length ids = omega arith in
        ap (λ x. take x ids) e ∙ take-length ids ∙ sym (take_all 15 ids l)
    go false q =
        let l = leb-false (length ids) 15 q in
        let e : n ≡ 15 = omega arith in
        ap (λ x. take x ids) e

-- a feature's own texts, with other strings of tags
abbrev pub tags_of : FeatureTexts → List TagText → FeatureTexts
tags_of x l = record { tags = l; name = x.name; house_number = x.house_number; reference = x.reference }

-- the strings of the first i of n ids are in the record
pub record Telling (starts : List ℕ) (t : TagRange) (m ids : List ℕ) (n : ℕ) (x₀ x : FeatureTexts) (i : ℕ) : Type 0 where
  pub within : i ≤ n
  pub most : n ≡ min (length ids) 15
  pub told : x ≡ tags_of x₀ (strings_of starts t m (take i ids))

module _ (starts : List ℕ) (p : TextParts) (m ids : List ℕ) (n : ℕ) (x₀ : FeatureTexts) where
  pub telling-none : x₀ ≡ own_texts p m → n ≡ min (length ids) 15 → Telling starts p.tags m ids n x₀ x₀ 0
  unfolding filled_texts strings_of
  telling-none e h = record { within = omega arith; most = h; told = ap (λ (y : FeatureTexts). tags_of x₀ y.tags) e }

  grown : (i d : ℕ) → i < length ids → i < 15 → strings_of starts p.tags m (take i ids ++ (get_or ids i d ∷ [])) ≡ set (strings_of starts p.tags m (take i ids)) i (tag_string (started_name starts p.tags m (get_or ids i d)))
  unfolding filled_texts strings_of
  grown i d b f =
      let k : length (take i ids) ≡ i = length-take-le i ids (omega arith) in
      let l : length (take i ids) < 15 = omega arith in
      front-map-more (λ i. tag_string (started_name starts p.tags m i)) (take i ids) (get_or ids i d) (replicate 15 no_text) l
      ∙ ap (λ x. set (strings_of starts p.tags m (take i ids)) x (tag_string (started_name starts p.tags m (get_or ids i d)))) k

  module _ (x : FeatureTexts) (i : ℕ) (h : Telling starts p.tags m ids n x₀ x i) where
    pub telling-within : i < n → i < length ids
    telling-within b = let k = h.most in omega arith

    pub telling-few : i < n → i < 15
    telling-few b = let k = h.most in omega arith

    pub telling-more : (d : ℕ) (v : TagText) (s : List ℕ) → i < n → s ≡ started_name starts p.tags m (get_or ids i d) → v ≡ tag_string s → Telling starts p.tags m ids n x₀ (tags_of x (set x.tags i v)) (i + 1)
    telling-more d v s b e q = record {
      within = omega arith;
      most = h.most;
      told =
          ap (λ y. tags_of y (set y.tags i v)) h.told
          ∙ ap (λ w. tags_of x₀ (set (strings_of starts p.tags m (take i ids)) i w)) (q ∙ ap tag_string e)
          ∙ ap (tags_of x₀) (sym (grown i d (telling-within b) (telling-few b)))
          ∙ ap (λ l. tags_of x₀ (strings_of starts p.tags m l)) (sym (take-suc ids i d (telling-within b)) ∙ ap (λ y. take y ids) (sym (add-one i)));
    }

    pub telling-done : n ≤ i → x₀ ≡ own_texts p m → x ≡ texts_of starts p m ids
    unfolding strings_of
    telling-done b e =
        let w = h.within in
        let k : i ≡ min (length ids) 15 = (let q : i ≡ n = omega arith in q ∙ h.most) in
        h.told ∙ ap (λ y. tags_of y (strings_of starts p.tags m (take i ids))) e ∙ ap (λ l. tags_of (own_texts p m) (strings_of starts p.tags m l)) (take-15 ids i k)
