-- An array that a loop fills from the front with what it reads: the values read so far, and behind them what was there.
use Prim.Native.Nat.{ℕ, suc, ◌+◌, ◌≤◌, ◌<◌}
use native.Mathlib.Numerals.{add-one}
use native.Mathlib.Omega.{arith}
use mathlib.Core.Path.{◌≡◌, refl, ap, ◌∙◌}
use mathlib.Core.List.{List, [], ◌∷◌, ◌++◌, append_assoc}
use mathlib.Core.List.{map as mapped}
use lib.ListN.{length, drop, set, length-append, length-map}
use lib.Seq.{set_at, drop-cons}
use Rattle.parsing.specs.Parse.{ok, Parser, map_res, many}
use Rattle.parsing.specs.Good.{split, ok-val, ok_at}
use Rattle.parsing.proofs.Loops.{many_more, many-count}
use Rattle.format.specs.Lent.{front}

pub map-append : {A C : Type 0} (f : A → C) (xs ys : List A) → mapped f (xs ++ ys) ≡ mapped f xs ++ mapped f ys
map-append f [] ys = refl
map-append f (x ∷ xs) ys = ap (λ l. f x ∷ l) (map-append f xs ys)

-- one value more
pub front-more : {A : Type 0} (xs : List A) (v : A) (l : List A) → length xs < length l → front (xs ++ (v ∷ [])) l ≡ set (front xs l) (length xs) v
front-more xs v l h =
    let n : length (xs ++ (v ∷ [])) ≡ suc (length xs) = length-append xs (v ∷ []) ∙ add-one (length xs) in
    rw (n, append_assoc, drop-cons l (length xs) v h, set_at xs _ (drop (suc (length xs)) l) v (length xs) refl)

pub front-map-more : {A C : Type 0} (g : A → C) (xs : List A) (a : A) (l : List C) → length xs < length l → front (mapped g (xs ++ (a ∷ []))) l ≡ set (front (mapped g xs) l) (length xs) (g a)
front-map-more g xs a l h =
    let n : length (mapped g xs) ≡ length xs = length-map xs g in
    rw (map-append g xs (a ∷ [])) (front-more (mapped g xs) (g a) l (omega arith) ∙ rw n)

-- fill is what is held of these values, of N values at most; g is what is held of one, and put adds it
module _ {A C D : Type 0} (fill : List A → D) (g : A → C) (put : D → ℕ → C → D) (N : ℕ) (grows : (xs : List A) (a : A) → length xs < N → fill (xs ++ (a ∷ [])) ≡ put (fill xs) (length xs) (g a)) where
  module _ (p : Parser A) (m : List ℕ) (i at n : ℕ) (l : D) where
    pub held_more : (e : ℕ) (v : C) → map_res fill (many p i m at) ≡ ok l n → map_res g (p m n) ≡ ok v e → i < N → map_res fill (many p (i + 1) m at) ≡ ok (put l i v) e
    held_more e v h q b =
        let s = split (many p i m at) (λ xs y. ok (fill xs) y) l n h in
        let t = split (p m n) (λ a y. ok (g a) y) v e q in
        more s.val s.mid t.val t.mid s.first (ok-val s.second) (ok_at s.second) t.first (ok-val t.second) (ok_at t.second)
      where
        more : (xs : List A) (y : ℕ) (a : A) (x : ℕ) → many p i m at ≡ ok xs y → fill xs ≡ l → y ≡ n → p m n ≡ ok a x → g a ≡ v → x ≡ e → map_res fill (many p (i + 1) m at) ≡ ok (put l i v) e
        more xs y a x f w o f' w' o' =
            let c : length xs ≡ i = many-count p m i at xs y f in
            let one : p m y ≡ ok a x = rw o f' in
            let stored : fill (xs ++ (a ∷ [])) ≡ put l i v = grows xs a (omega arith) ∙ rw (w, w', c) in
            rw (many_more p m i at f one, stored, o')

-- an array
module _ {A C : Type 0} (fill : List A → List C) (g : A → C) (N : ℕ) (grows : (xs : List A) (a : A) → length xs < N → fill (xs ++ (a ∷ [])) ≡ set (fill xs) (length xs) (g a)) where
  module _ (p : Parser A) (m : List ℕ) (i at n : ℕ) (l : List C) where
    pub fill_more : (e : ℕ) (v : C) → map_res fill (many p i m at) ≡ ok l n → map_res g (p m n) ≡ ok v e → i < N → map_res fill (many p (i + 1) m at) ≡ ok (set l i v) e
    fill_more e v h q b = held_more fill g set N grows p m i at n l e v h q b

-- a loop that filled it to its end, beside the number of values
module _ {A C D : Type 0} (fill : List A → List C) (made : List C → ℕ → D) (p : Parser A) (m : List ℕ) (i at n k : ℕ) (l : List C) where
  pub fill_done : map_res fill (many p i m at) ≡ ok l n → i ≤ k → k ≤ i → ok (made l k) n ≡ map_res (λ xs. made (fill xs) (length xs)) (many p k m at)
  fill_done h b c =
      let w : i ≡ k = omega arith in
      let s = split (many p k m at) (λ xs y. ok (fill xs) y) l n (rw w at h) in
      done s.val s.mid s.first (ok-val s.second) (ok_at s.second)
    where
      done : (xs : List A) (y : ℕ) → many p k m at ≡ ok xs y → fill xs ≡ l → y ≡ n → ok (made l k) n ≡ map_res (λ xs. made (fill xs) (length xs)) (many p k m at)
      done xs y f w z = rw (f, ← w, z, many-count p m k at xs y f)
