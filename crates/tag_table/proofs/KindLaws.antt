-- What the listed tag strings say of a tag.
use Prim.Native.Nat.{ℕ, zero, suc, ◌+◌, ◌≤◌, ◌<◌}
use native.Mathlib.Omega.{arith}
use mathlib.Core.Path.{◌≡◌, refl, sym, ap, ◌∙◌}
use mathlib.Core.Bool.{Bool, true, false, cond}
use mathlib.Core.List.{List, [], ◌∷◌}
use lib.Dec.{ltb}
use lib.ListN.{length, get_or}
use borrow.Author.Tests.{ltb-true, ltb-false}
use Rattle.parsing.specs.Parse.{no}
use Rattle.utils.specs.Vbe.{text}
use Rattle.tag.specs.Tag.{kind_of}
use Rattle.tag.specs.declared.Kind.{Kind}
use Rattle.tag.specs.declared.Kind.TheVariants.{Nothing}
use Rattle.format.specs.Kinds.{upto}
use Rattle.format.specs.TagLists.{kinds_in, listed_text}
use Rattle.format.specs.Tile.{kind_at}
use Rattle.std.specs.Prelude.{Some, None}
use Rattle.tag_table.specs.Tables.{entry}

-- one kind for each tag
length-upto : {A : Type 0} (n : ℕ) (f : ℕ → A) → length (upto n f) ≡ n
length-upto zero f = refl
length-upto (suc n) f = ap suc (length-upto n (λ k. f (suc k)))

pub length-kinds : (s : List ℕ) (first n : ℕ) → length (kinds_in s first n) ≡ n
unfolding kinds_in
length-kinds s first n = length-upto n _

kind_at-upto : (n : ℕ) (f : ℕ → Kind) (i : ℕ) → i < n → kind_at (upto n f) i ≡ f i
kind_at-upto zero f i h = absurd (omega arith)
kind_at-upto (suc n) f zero h = refl
kind_at-upto (suc n) f (suc i) h = kind_at-upto n (λ k. f (suc k)) i (omega arith)

kind_at-past : (n : ℕ) (f : ℕ → Kind) (i : ℕ) → n ≤ i → kind_at (upto n f) i ≡ Nothing
kind_at-past zero f i h = refl
kind_at-past (suc n) f zero h = absurd (omega arith)
kind_at-past (suc n) f (suc i) h = kind_at-past n (λ k. f (suc k)) i (omega arith)

-- behind the end of a list stands nothing
get_d_past : (s : List ℕ) (i : ℕ) → length s ≤ i → get_or s i 0 ≡ 0
get_d_past [] i h = refl
get_d_past (x ∷ s) zero h = absurd (omega arith)
get_d_past (x ∷ s) (suc i) h = get_d_past s i (omega arith)

module _ (s : List ℕ) (first n k : ℕ) where
  -- the kind of a tag, also of an id that no tag has
  pub kind-past : n ≤ k → Nothing ≡ kind_at (kinds_in s first n) k
  unfolding kinds_in
  kind-past h = sym (kind_at-past n _ k h)

  pub kind-there : (x : Kind) → k < n → x ≡ kind_of (get_or s (first + k) 0) → x ≡ kind_at (kinds_in s first n) k
  unfolding kinds_in
  kind-there x h e = e ∙ sym (kind_at-upto n _ k h)

  kind-behind : k < n → length s ≤ first + k → Nothing ≡ kind_at (kinds_in s first n) k
  unfolding kinds_in
  kind-behind h l = sym (kind_at-upto n _ k h ∙ ap kind_of (get_d_past s (first + k) l))

  -- what is listed of a tag, by its entry
  pub kind-listed : (i : ℕ) → Some i ≡ entry (length s) (record { first = first; count = n }) k → kind_of (get_or s i 0) ≡ kind_at (kinds_in s first n) k
  kind-listed i h = go (ltb k n) (ltb (first + k) (length s)) refl h
    where
      go : (a b : Bool) → ltb k n ≡ a → Some i ≡ cond a (cond b (Some (first + k)) None) None → kind_of (get_or s i 0) ≡ kind_at (kinds_in s first n) k
      go true true p h = let e : i ≡ first + k = cc in rw e (kind-there _ (ltb-true k n p) refl)
      go true false p h = absurd cc
      go false b p h = absurd cc

  pub kind-none : None ≡ entry (length s) (record { first = first; count = n }) k → Nothing ≡ kind_at (kinds_in s first n) k
  kind-none h = go (ltb k n) (ltb (first + k) (length s)) refl refl h
    where
      go : (a b : Bool) → ltb k n ≡ a → ltb (first + k) (length s) ≡ b → None ≡ cond a (cond b (Some (first + k)) None) None → Nothing ≡ kind_at (kinds_in s first n) k
      go true true p q h = absurd cc
      go true false p q h = kind-behind (ltb-true k n p) (ltb-false (first + k) (length s) q)
      go false b p q h = kind-past (ltb-false k n p)

  module _ (m : List ℕ) where
    pub text-listed : (i : ℕ) → Some i ≡ entry (length s) (record { first = first; count = n }) k → text m (get_or s i 0) ≡ listed_text s first n k m
    unfolding listed_text
    text-listed i h = go (ltb k n) (ltb (first + k) (length s)) h
      where
        go : (a b : Bool) → Some i ≡ cond a (cond b (Some (first + k)) None) None → text m (get_or s i 0) ≡ cond a (cond b (text m (get_or s (first + k) 0)) (no 7 (k ∷ []))) (no 7 (k ∷ []))
        go true true h = let e : i ≡ first + k = cc in rw e
        go true false h = absurd cc
        go false b h = absurd cc

    pub text-none : None ≡ entry (length s) (record { first = first; count = n }) k → no 7 (k ∷ []) ≡ listed_text s first n k m
    unfolding listed_text
    text-none h = go (ltb k n) (ltb (first + k) (length s)) h
      where
        go : (a b : Bool) → None ≡ cond a (cond b (Some (first + k)) None) None → no 7 (k ∷ []) ≡ cond a (cond b (text m (get_or s (first + k) 0)) (no 7 (k ∷ []))) (no 7 (k ∷ []))
        go true true h = absurd cc
        go true false h = refl
        go false b h = refl
