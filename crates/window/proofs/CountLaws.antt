-- Wish 10: how many tiles there are, and the k-th of them without walking the list.
use Prim.Native.Nat.{ℕ, zero, suc, ◌+◌, ◌*◌, ◌/◌, ◌%◌, ◌≤◌, ◌<◌}
use native.Mathlib.Nat.{le_trans, mul_comm, mul-zero, mul-le-mul_left, mul-le-mul_right, le-div_iff_mul-le, div-add-mod', mod-lt}
use native.Mathlib.Omega.{arith}
use mathlib.Core.Bool.{true}
use mir.Syntax.{w64}
use mir.Val.{Fits}
use mathlib.Core.Path.{◌≡◌, refl, sym, ap, ◌∙◌}
use mathlib.Core.List.{List, [], ◌∷◌, ◌++◌}
use lib.ListN.{length, length-append}
use Rattle.parsing.specs.Parse.{Maybe, none, some, nth}
use Rattle.format.specs.Index.{Grid, width, good_grid, grid_tiles, answer}
use Rattle.index.proofs.GridLaws.{counted-grid, good-size}
use Rattle.byte_source.proofs.ReadLaws.{went-on}
use Rattle.format.specs.Kinds.{upto}
use Rattle.format.specs.WayData.{concat}
use Rattle.window.specs.Window.{Rectangle, Touched, count_of, rows_of, columns_of, touched_tile, touched, window_count, window_tile}
use Rattle.window.specs.Biased.{Place}
use Rattle.window.specs.Answers.{touched_of}
use Rattle.window.specs.declared.WindowTile.{WindowTile}

pub length-upto : {A : Type 0} (n : ℕ) (f : ℕ → A) → length (upto n f) ≡ n
length-upto zero f = refl
length-upto (suc n) f = ap suc (length-upto n (λ k. f (suc k)))

-- rows of one length
length-rows : {A : Type 0} (n c : ℕ) (f : ℕ → List A) → ((j : ℕ) → length (f j) ≡ c) → length (concat (upto n f)) ≡ n * c
length-rows zero c f h = omega arith
length-rows (suc n) c f h =
    let a = length-append (f 0) (concat (upto n (λ k. f (suc k)))) in
    let b = length-rows n c (λ k. f (suc k)) (λ j. h (suc j)) in
    let d = h 0 in
    omega arith

pub touched-count : (g : Grid) (r : Rectangle) → length (touched g r) ≡ count_of g.y_min g.y_max r.top r.bottom * count_of g.x_min g.x_max r.left r.right
touched-count g r =
    length-rows (count_of g.y_min g.y_max r.top r.bottom) (count_of g.x_min g.x_max r.left r.right) _
    (λ j. length-upto (count_of g.x_min g.x_max r.left r.right) (λ i. touched_tile g r i j))

pub nth-upto : {A : Type 0} (n k : ℕ) (f : ℕ → A) → k < n → nth (upto n f) k ≡ some (f k)
nth-upto zero k f h = absurd (omega arith)
nth-upto (suc n) zero f h = refl
nth-upto (suc n) (suc k) f h = nth-upto n k (λ i. f (suc i)) (omega arith)

nth-first : {A : Type 0} (a b : List A) (k : ℕ) → k < length a → nth (a ++ b) k ≡ nth a k
nth-first [] b k h = absurd (omega arith)
nth-first (x ∷ a) b zero h = refl
nth-first (x ∷ a) b (suc k) h = nth-first a b k (omega arith)

nth-later : {A : Type 0} (a b : List A) (k : ℕ) → nth (a ++ b) (length a + k) ≡ nth b k
nth-later [] b k = let e : 0 + k ≡ k = omega arith in rw e
nth-later (x ∷ a) b k = let e : suc (length a) + k ≡ suc (length a + k) = omega arith in rw e (nth-later a b k)

-- tile j * c + i of rows of length c
nth-rows : {A : Type 0} (n c j i : ℕ) (f : ℕ → ℕ → A) → j < n → i < c → nth (concat (upto n (λ y. upto c (λ x. f x y)))) (j * c + i) ≡ some (f i j)
nth-rows zero c j i f h k = absurd (omega arith)
nth-rows (suc n) c zero i f h k =
    let e : 0 * c + i ≡ i = omega arith in
    let l : i < length (upto c (λ x. f x 0)) = omega (arith, length-upto c (λ x. f x 0)) in
    rw e (nth-first (upto c (λ x. f x 0)) _ i l ∙ nth-upto c i (λ x. f x 0) k)
nth-rows (suc n) c (suc j) i f h k =
    let e : suc j * c + i ≡ length (upto c (λ x. f x 0)) + (j * c + i) = omega (arith, length-upto c (λ x. f x 0)) in
    rw e (nth-later (upto c (λ x. f x 0)) _ (j * c + i) ∙ nth-rows n c j i (λ x y. f x (suc y)) (omega arith) k)

-- so the code takes j = k / c and i = k % c
pub touched-nth : (g : Grid) (r : Rectangle) (j i : ℕ) → j < count_of g.y_min g.y_max r.top r.bottom → i < count_of g.x_min g.x_max r.left r.right
    → nth (touched g r) (j * count_of g.x_min g.x_max r.left r.right + i) ≡ some (touched_tile g r i j)
touched-nth g r j i h k =
    nth-rows (count_of g.y_min g.y_max r.top r.bottom) (count_of g.x_min g.x_max r.left r.right) j i (touched_tile g r) h k

-- how many there are fits, in a good grid
pub product_small : (g : Grid) (rows columns : ℕ) → good_grid g ≡ true → rows ≤ width g.y_min g.y_max → columns ≤ width g.x_min g.x_max → rows * columns ≤ 4294967295
product_small g rows columns o h k =
    le_trans (mul-le-mul_left rows k)
    (le_trans (mul-le-mul_right (width g.x_min g.x_max) h)
    (rw (mul_comm (width g.y_min g.y_max) (width g.x_min g.x_max)) (good-size g o)))

module _ (n : ℕ) (g : Grid) (e : answer n ≡ grid_tiles g) where
  pub grid-good : good_grid g ≡ true
  grid-good = (counted-grid g n e).good

  pub product-fits : (rows columns : ℕ) → rows ≤ width g.y_min g.y_max → columns ≤ width g.x_min g.x_max → Fits w64 (rows * columns)
  product-fits rows columns a b = record { fits = omega (arith, product_small g rows columns grid-good a b) }

module _ (n : ℕ) (g : Grid) (r : Rectangle) (e : answer n ≡ grid_tiles g) where
  pub count-answer : (rows columns : ℕ) → rows ≡ rows_of g r → columns ≡ columns_of g r → answer (rows * columns) ≡ window_count g r
  unfolding window_count
  count-answer rows columns a b =
      went-on n 0 (grid_tiles g) (λ _ _. answer (length (touched g r))) (answer (rows * columns)) e
      (ap answer (rw (a, b) (sym (touched-count g r))))

  nth-none : {A : Type 0} (l : List A) (k : ℕ) → length l ≤ k → nth l k ≡ none
  nth-none [] k h = refl
  nth-none (x ∷ l) zero h = absurd (omega arith)
  nth-none (x ∷ l) (suc k) h = nth-none l k (omega arith)

  tile-answer : (k : ℕ) (t : Maybe Touched) → nth (touched g r) k ≡ t → answer t ≡ window_tile g r k
  unfolding window_tile
  tile-answer k t p = went-on n 0 (grid_tiles g) (λ _ _. answer (nth (touched g r) k)) (answer t) e (ap answer (sym p))

  -- none behind the last
  module _ (rows columns k : ℕ) (a : rows ≡ rows_of g r) (b : columns ≡ columns_of g r) where
    pub no-columns : columns < 1 → answer none ≡ window_tile g r k
    no-columns c =
        let z : columns_of g r ≡ 0 = omega arith in
        let s : rows_of g r * columns_of g r ≡ 0 = rw z (mul-zero (rows_of g r)) in
        tile-answer k none (nth-none (touched g r) k (omega (arith, touched-count g r)))

    pub no_row : 1 ≤ columns → rows ≤ k / columns → answer none ≡ window_tile g r k
    no_row c d =
        let s : rows * columns ≤ k = (le-div_iff_mul-le c).0 d in
        let u : rows_of g r * columns_of g r ≤ k = rw (← a, ← b) s in
        tile-answer k none (nth-none (touched g r) k (omega (arith, touched-count g r)))

    pub place_is : 1 ≤ columns → k / columns < rows → Place g r (k % columns) (k / columns)
    place_is c d = record { good = grid-good n g e; column = rw (← b) (mod-lt k c); row = rw (← a) d }

    pub tile-found : (t : WindowTile) → 1 ≤ columns → k / columns < rows → touched_of t ≡ touched_tile g r (k % columns) (k / columns) → answer (some (touched_of t)) ≡ window_tile g r k
    tile-found t c d p =
        let u : nth (touched g r) (k / columns * columns_of g r + k % columns) ≡ some (touched_tile g r (k % columns) (k / columns)) = touched-nth g r (k / columns) (k % columns) (rw (← a) d) (rw (← b) (mod-lt k c)) in
        let v : k / columns * columns_of g r + k % columns ≡ k = rw (← b) (div-add-mod' k columns) in
        tile-answer k (some (touched_of t)) (ap (nth (touched g r)) (sym v) ∙ u ∙ ap some (sym p))
