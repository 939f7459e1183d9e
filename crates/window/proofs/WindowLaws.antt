-- The tiles of a window: exactly those of the grid that the rectangle touches, each one time, row by row from the top, left to right.
use Prim.Native.Nat.{ℕ, zero, suc, ◌+◌, ◌*◌, ◌/◌, ◌%◌, ◌≤◌, ◌<◌}
use native.Mathlib.Nat.{mul_comm, mul-zero, zero-mul, mod-lt, div-add-mod', div-lt_iff_lt-mul, mul-le-mul_right}
use native.Mathlib.Omega.{arith}
use mathlib.Core.Path.{◌≡◌, refl, sym, ap, ◌∙◌}
use mathlib.Core.Bool.{Bool, true, false, ◌&&◌, and-eq-true_iff}
use mathlib.Core.List.{List, [], ◌∷◌}
use lib.Dec.{ltb}
use lib.IntN.{ℤ, pos, negsuc, ◌+ℤ◌}
use lib.ListN.{length}
use lib.Signed.{mag, le_z, lt_z}
use borrow.Author.Tests.{lt-ltb, ltb-true, ltb-false}
use Rattle.parsing.specs.Parse.{some, nth}
use Rattle.format.specs.Header.{between}
use Rattle.format.specs.Index.{Grid, good_grid, grid_tiles, in_grid, answer}
use Rattle.window.specs.Window.{Rectangle, Touched, first_of, columns_of, rows_of, tile_of, touched_tile, touched, window_count, window_tile}
use Rattle.window.specs.WindowSays.{columns, rows, Touching, Somewhere, Comes, Before, higher, beside}
use Rattle.window.specs.Biased.{biased}
use Rattle.window.proofs.SignedLaws.{sum-biased}
use Rattle.window.proofs.CountLaws.{length-upto, touched-count, touched-nth}
use Rattle.window.proofs.TouchLaws.{listed, listed-touches}

-- a good grid is not refused
pub count-good : (g : Grid) (r : Rectangle) → good_grid g ≡ true → window_count g r ≡ answer (length (columns g r) * length (rows g r))
unfolding window_count grid_tiles
count-good g r h =
    rw h
    (ap answer (
    touched-count g r ∙ mul_comm (rows_of g r) (columns_of g r)
    ∙ rw (length-upto (columns_of g r) (λ i. first_of g.x_min r.left +ℤ pos i), length-upto (rows_of g r) (λ j. first_of g.y_min r.top +ℤ pos j)) refl
    ))

pub tile-good : (g : Grid) (r : Rectangle) (k : ℕ) → good_grid g ≡ true → window_tile g r k ≡ answer (nth (touched g r) k)
unfolding window_tile grid_tiles
tile-good g r k h = rw h

-- a rectangle with a low end above its high end gives no tiles
no-entries : {A : Type 0} (l : List A) → length l ≡ 0 → l ≡ []
no-entries [] h = refl
no-entries (x ∷ l) h = absurd (omega arith)

pub none-across : (g : Grid) (r : Rectangle) → le_z r.left r.right ≡ false → touched g r ≡ []
none-across g r h =
    let z : columns_of g r ≡ 0 = rw h in
    no-entries (touched g r) (touched-count g r ∙ ap (λ n. rows_of g r * n) z ∙ mul-zero (rows_of g r))

pub none-down : (g : Grid) (r : Rectangle) → le_z r.top r.bottom ≡ false → touched g r ≡ []
none-down g r h =
    let z : rows_of g r ≡ 0 = rw h in
    no-entries (touched g r) (touched-count g r ∙ ap (λ n. n * columns_of g r) z ∙ zero-mul (columns_of g r))

-- an entry is within the length
pub nth-low : {A : Type 0} (l : List A) (k : ℕ) (a : A) → nth l k ≡ some a → k < length l
nth-low [] k a e = absurd (let z : ◌≡◌ {A = ℕ} 0 1 = cc in omega arith)
nth-low (x ∷ l) zero a e = omega arith
nth-low (x ∷ l) (suc k) a e = omega (arith, nth-low l k a e)

-- an entry by its column and row
pub record Entry (g : Grid) (r : Rectangle) (k : ℕ) (t : Touched) : Type 0 where
  pub column : k % columns_of g r < columns_of g r
  pub row : k / columns_of g r < rows_of g r
  pub is : t ≡ touched_tile g r (k % columns_of g r) (k / columns_of g r)

pub some_is : {A : Type 0} (a b : A) → some a ≡ some b → a ≡ b
some_is a b e = cc

pub entry_of : (g : Grid) (r : Rectangle) (k : ℕ) (t : Touched) → nth (touched g r) k ≡ some t → Entry g r k t
entry_of g r k t e = go (columns_of g r) refl
  where
    low : k < rows_of g r * columns_of g r
    low = omega (arith, nth-low (touched g r) k t e, touched-count g r)

    go : (c : ℕ) → columns_of g r ≡ c → Entry g r k t
    go zero z =
        let s : rows_of g r * columns_of g r ≡ 0 = rw z (mul-zero (rows_of g r)) in
        absurd (omega (arith, low))
    go (suc n) z =
        let p : 0 < columns_of g r = omega arith in
        let c : k % columns_of g r < columns_of g r = mod-lt k p in
        let d : k / columns_of g r < rows_of g r = (div-lt_iff_lt-mul p).1 low in
        let v : k / columns_of g r * columns_of g r + k % columns_of g r ≡ k = div-add-mod' k (columns_of g r) in
        let u = touched-nth g r (k / columns_of g r) (k % columns_of g r) d c in
        record { column = c; row = d; is = some_is _ _ (sym e ∙ ap (nth (touched g r)) (sym v) ∙ u) }

-- what is listed lies in the grid and is touched, with its number and its cells
both : (a b : Bool) → a ≡ true → b ≡ true → a && b ≡ true
both a b h k = rw (h, k)

tile-right : (g : Grid) (r : Rectangle) (i j : ℕ) → i < columns_of g r → j < rows_of g r → Comes g r (touched_tile g r i j)
tile-right g r i j h k =
    let a = listed-touches g.x_min g.x_max r.left r.right (first_of g.x_min r.left +ℤ pos i) (record { index = i; few = h; at = refl }) in
    let b = listed-touches g.y_min g.y_max r.top r.bottom (first_of g.y_min r.top +ℤ pos j) (record { index = j; few = k; at = refl }) in
    record { inside = both _ _ a.0 b.0; across = a.1; down = b.1; number = refl; mask = refl }

pub only-touched : (g : Grid) (r : Rectangle) (k : ℕ) (t : Touched) → nth (touched g r) k ≡ some t → Comes g r t
only-touched g r k t e =
    let n = entry_of g r k t e in
    rw n.is (tile-right g r (k % columns_of g r) (k / columns_of g r) n.column n.row)

-- and what lies in the grid and is touched is listed
pub all-touched : (g : Grid) (r : Rectangle) (x y : ℤ) → in_grid g x y ≡ true → Touching r.left r.right x → Touching r.top r.bottom y → Somewhere (touched g r) (tile_of g r x y)
all-touched g r x y h a b =
    let d = (and-eq-true_iff (between g.x_min g.x_max x) (between g.y_min g.y_max y)).0 h in
    let i = listed g.x_min g.x_max r.left r.right x d.0 a in
    let j = listed g.y_min g.y_max r.top r.bottom y d.1 b in
    let u = touched-nth g r j.index i.index j.few i.few in
    record {
      place = j.index * columns_of g r + i.index;
      there =
          u
          ∙ ap (λ (z : ℤ). some (tile_of g r z (first_of g.y_min r.top +ℤ pos j.index))) i.at
          ∙ ap (λ (z : ℤ). some (tile_of g r x z)) j.at;
    }

-- more steps on is farther
order-less : (half : ℕ) (a b : ℤ) → biased half a < biased half b → lt_z a b ≡ true
order-less half (pos a) (pos b) h = lt-ltb a b (omega arith)
order-less half (pos a) (negsuc b) h = absurd (omega arith)
order-less half (negsuc a) (pos b) h = refl
order-less half (negsuc a) (negsuc b) h = lt-ltb b a (omega arith)

pub farther : (z : ℤ) (i j : ℕ) → i < j → lt_z (z +ℤ pos i) (z +ℤ pos j) ≡ true
farther z i j h =
    order-less (mag z + 1) (z +ℤ pos i) (z +ℤ pos j)
    (omega (arith, sum-biased (mag z + 1) z i (omega arith), sum-biased (mag z + 1) z j (omega arith)))

tiles-order : (g : Grid) (r : Rectangle) (i j i' j' : ℕ) (a b : Touched) → a ≡ touched_tile g r i j → b ≡ touched_tile g r i' j' → j < j' → Before a b
tiles-order g r i j i' j' a b p q h = rw (p, q) (higher (farther (first_of g.y_min r.top) j j' h))

tiles-beside : (g : Grid) (r : Rectangle) (i j i' j' : ℕ) (a b : Touched) → a ≡ touched_tile g r i j → b ≡ touched_tile g r i' j' → j ≡ j' → i < i' → Before a b
tiles-beside g r i j i' j' a b p q e h =
    rw (p, q) (beside (ap (λ n. first_of g.y_min r.top +ℤ pos n) e) (farther (first_of g.x_min r.left) i i' h))

split-order : (c a b i j : ℕ) → j < c → a * c + i < b * c + j → b ≤ a → (a ≡ b) × (i < j)
split-order c a b i j h l o = go (ltb b a) refl
  where
    go : (t : Bool) → ltb b a ≡ t → (a ≡ b) × (i < j)
    go true e =
        let m : suc b * c ≤ a * c = mul-le-mul_right c (ltb-true b a e) in
        absurd (omega arith)
    go false e =
        let z : a ≡ b = omega (arith, ltb-false b a e) in
        let m : a * c ≡ b * c = ap (λ n. n * c) z in
        (z, omega arith)

pub in_order : (g : Grid) (r : Rectangle) (k k' : ℕ) (a b : Touched) → nth (touched g r) k ≡ some a → nth (touched g r) k' ≡ some b → k < k' → Before a b
in_order g r k k' a b p q h = go (entry_of g r k a p) (entry_of g r k' b q) (ltb (k / columns_of g r) (k' / columns_of g r)) refl
  where
    go : Entry g r k a → Entry g r k' b → (t : Bool) → ltb (k / columns_of g r) (k' / columns_of g r) ≡ t → Before a b
    go m n true e = tiles-order g r _ _ _ _ a b m.is n.is (ltb-true _ _ e)
    go m n false e =
        let u = div-add-mod' k (columns_of g r) in
        let v = div-add-mod' k' (columns_of g r) in
        let s = split-order (columns_of g r) (k / columns_of g r) (k' / columns_of g r) (k % columns_of g r) (k' % columns_of g r) n.column (omega arith) (ltb-false _ _ e) in
        tiles-beside g r _ _ _ _ a b m.is n.is s.0 s.1

-- each tile comes one time
less-not : (a b : ℤ) → a ≡ b → lt_z a b ≡ true → ⊥
less-not a b e h = go b (rw e at h)
  where
    go : (z : ℤ) → lt_z z z ≡ true → ⊥
    go (pos n) h = omega (arith, ltb-true n n h)
    go (negsuc n) h = omega (arith, ltb-true n n h)

not-before : (a b : Touched) → a.x ≡ b.x → a.y ≡ b.y → Before a b → ⊥
not-before a b p q (higher h) = less-not a.y b.y q h
not-before a b p q (beside e h) = less-not a.x b.x p h

pub once : (g : Grid) (r : Rectangle) (k k' : ℕ) (a b : Touched) → nth (touched g r) k ≡ some a → nth (touched g r) k' ≡ some b → a.x ≡ b.x → a.y ≡ b.y → k ≡ k'
once g r k k' a b p q e d = go (ltb k k') (ltb k' k) refl refl
  where
    go : (s t : Bool) → ltb k k' ≡ s → ltb k' k ≡ t → k ≡ k'
    go true t h l = absurd (not-before a b e d (in_order g r k k' a b p q (ltb-true k k' h)))
    go false true h l = absurd (not-before b a (sym e) (sym d) (in_order g r k' k b a q p (ltb-true k' k l)))
    go false false h l = omega (arith, ltb-false k k' h, ltb-false k' k l)
