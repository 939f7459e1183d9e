-- What the second pass reads are the values of what the format defines.
use Prim.Native.Nat.{ℕ, zero, suc, ◌^◌}
use mathlib.Core.Path.{◌≡◌, refl, ap, ◌∙◌}
use mathlib.Core.Bool.{Bool, true, false, cond, ◌&&◌}
use mathlib.Core.List.{List, [], ◌∷◌}
use lib.Dec.{leb}
use lib.IntN.{ℤ}
use Rattle.parsing.specs.Parse.{Res, ok, no, Parser, and_then, map_res, many}
use Rattle.utils.specs.Vbe.{Noted, noted, values_of, noted_unsigned, noted_coordinate, unsigned, coordinate}
use Rattle.format.specs.WayData.{Node, node, counted, block, data_block}
use Rattle.way_data.specs.Writes.{node_alone, block_alone, data_block_alone}

abbrev pub Alone : {A : Type 0} → Parser (Noted A) → Parser A → Type 0
Alone p q = (m : List ℕ) (i : ℕ) → map_res (λ v. v.value) (p m i) ≡ q m i

pub many-alone : {A : Type 0} (p : Parser (Noted A)) (q : Parser A) → Alone p q → (n : ℕ) (m : List ℕ) (i : ℕ) → map_res values_of (many p n m i) ≡ many q n m i
many-alone p q h zero m i = refl
many-alone {A = A} p q h (suc n) m i = go (p m i) (λ e. many-alone p q h n m e) ∙ ap (λ (r : Res A). and_then r (λ a e. and_then (many q n m e) (λ l x. ok (a ∷ l) x))) (h m i)
  where
    cons : (a : Noted A) (r : Res (List (Noted A))) → map_res values_of (and_then r (λ l x. ok (a ∷ l) x)) ≡ and_then (map_res values_of r) (λ l x. ok (a.value ∷ l) x)
    cons a (ok l x) = refl
    cons a (no k v) = refl

    go : (r : Res (Noted A)) → ((e : ℕ) → map_res values_of (many p n m e) ≡ many q n m e) → map_res values_of (and_then r (λ a e. and_then (many p n m e) (λ l x. ok (a ∷ l) x))) ≡ and_then (map_res (λ v. v.value) r) (λ a e. and_then (many q n m e) (λ l x. ok (a ∷ l) x))
    go (ok a e) ih = cons a (many p n m e) ∙ ap (λ (r : Res (List A)). and_then r (λ l x. ok (a.value ∷ l) x)) (ih e)
    go (no k v) ih = refl

node-alone : Alone node node_alone
unfolding node node_alone coordinate
node-alone m i = go (noted_coordinate m i)
  where
    two : (a : Noted ℤ) (r : Res (Noted ℤ)) → map_res (λ v. v.value) (and_then r (λ o e. ok (noted {A = Node} (record { latitude = a.value; longitude = o.value }) (a.plain && o.plain)) e)) ≡ and_then (map_res (λ v. v.value) r) (λ o e. ok (record { latitude = a.value; longitude = o }) e)
    two a (ok o e) = refl
    two a (no k v) = refl

    go : (r : Res (Noted ℤ)) → map_res (λ v. v.value) (and_then r (λ a x. and_then (noted_coordinate m x) (λ o e. ok (noted {A = Node} (record { latitude = a.value; longitude = o.value }) (a.plain && o.plain)) e))) ≡ and_then (map_res (λ v. v.value) r) (λ a x. and_then (map_res (λ v. v.value) (noted_coordinate m x)) (λ o e. ok (record { latitude = a; longitude = o }) e))
    go (ok a x) = two a (noted_coordinate m x)
    go (no k v) = refl

-- a number, and that many of them
counted-alone : {A : Type 0} (n : Noted ℕ) (r : Res (List (Noted A))) → map_res (λ v. v.value) (map_res (counted n) r) ≡ map_res values_of r
counted-alone n (ok l e) = refl
counted-alone n (no k v) = refl

block-alone : Alone block block_alone
unfolding block block_alone unsigned
block-alone m i = go (noted_unsigned m i)
  where
    by : (t : Bool) (n : Noted ℕ) (x : ℕ) → map_res (λ v. v.value) (cond t (map_res (counted n) (many node n.value m x)) (no 10 [])) ≡ cond t (many node_alone n.value m x) (no 10 [])
    by true n x = counted-alone n (many node n.value m x) ∙ many-alone node node_alone node-alone n.value m x
    by false n x = refl

    go : (r : Res (Noted ℕ)) → map_res (λ v. v.value) (and_then r (λ n x. cond (leb n.value (2 ^ 20)) (map_res (counted n) (many node n.value m x)) (no 10 []))) ≡ and_then (map_res (λ v. v.value) r) (λ n x. cond (leb n (2 ^ 20)) (many node_alone n m x) (no 10 []))
    go (ok n x) = by (leb n.value (2 ^ 20)) n x
    go (no k v) = refl

pub data_block-alone : Alone data_block data_block_alone
unfolding data_block data_block_alone unsigned
data_block-alone m i = go (noted_unsigned m i)
  where
    go : (r : Res (Noted ℕ)) → map_res (λ v. v.value) (and_then r (λ n x. map_res (counted n) (many block n.value m x))) ≡ and_then (map_res (λ v. v.value) r) (λ n x. many block_alone n m x)
    go (ok n x) = counted-alone n (many block n.value m x) ∙ many-alone block block_alone block-alone n.value m x
    go (no k v) = refl
