-- What request 10 (document 02) says of a window, sentence by sentence, of any grid and any rectangle of whole numbers. That the definitions of
-- Window.antt meet it is the theorem `window-says` in proofs/Says.antt.
use Rattle.std.specs.Prelude.{ℕ, zero, suc, ◌*◌, ◌-◌, ◌/◌, ◌%◌, ◌<◌, ◌≡◌, true, false, cond, List, [], ℤ, pos, ◌+ℤ◌, length}
use Rattle.std.specs.Int.Signed.{le_z, lt_z}
use Rattle.parsing.specs.Parse.{no, some, nth}
use Rattle.format.specs.Header.{between}
use Rattle.format.specs.Index.{Grid, good_grid, in_grid, row_major, answer}
use Rattle.format.specs.Kinds.{upto}
use Rattle.window.specs.Window.{Rectangle, Touched, quarter, four, first_of, count_of, cell_touched, mask_of, tile_of, touched, window_count, window_tile, shares_cell}

-- column or row x is touched: a sub tile between the ends, divided by 4 and rounded down, is x
pub record Touching (low high x : ℤ) : Type 0 where
  pub sub : ℤ
  pub within : between low high sub ≡ true
  pub in-tile : quarter sub ≡ x

-- the touched columns or rows of a grid, as a list: exactly those that lie in the grid and are touched, each one time, ascending
abbrev pub lined : (grid_low grid_high low high : ℤ) → List ℤ
lined grid_low grid_high low high = upto (count_of grid_low grid_high low high) (λ i. first_of grid_low low +ℤ pos i)

pub record Somewhere {A : Type 0} (l : List A) (a : A) : Type 0 where
  pub place : ℕ
  pub there : nth l place ≡ some a

pub record Lined (grid_low grid_high low high : ℤ) : Type 0 where
  pub only : (i : ℕ) (x : ℤ) → nth (lined grid_low grid_high low high) i ≡ some x → (between grid_low grid_high x ≡ true) × Touching low high x
  pub all : (x : ℤ) → between grid_low grid_high x ≡ true → Touching low high x → Somewhere (lined grid_low grid_high low high) x
  pub ascending : (i j : ℕ) (x y : ℤ) → nth (lined grid_low grid_high low high) i ≡ some x → nth (lined grid_low grid_high low high) j ≡ some y → i < j → lt_z x y ≡ true

abbrev pub columns : Grid → Rectangle → List ℤ
columns g r = lined g.x_min g.x_max r.left r.right

abbrev pub rows : Grid → Rectangle → List ℤ
rows g r = lined g.y_min g.y_max r.top r.bottom

-- a tile that comes: it lies in the grid, a sub tile of the rectangle lies in it, and it has its number and its cells
pub record Comes (g : Grid) (r : Rectangle) (t : Touched) : Type 0 where
  pub inside : in_grid g t.x t.y ≡ true
  pub across : Touching r.left r.right t.x
  pub down : Touching r.top r.bottom t.y
  pub number : t.number ≡ row_major g t.x t.y
  pub mask : t.mask ≡ mask_of r t.x t.y

-- a stands before b: in a row above it, or in its row and left of it
pub data Before (a b : Touched) : Type 0 where
  higher : lt_z a.y b.y ≡ true → Before a b
  beside : a.y ≡ b.y → lt_z a.x b.x ≡ true → Before a b

-- a number without its lowest n bits, and bit n of it, counted from the lowest
abbrev pub shifted : ℕ → ℕ → ℕ
shifted zero a = a
shifted (suc n) a = shifted n (a / 2)

abbrev pub bit : ℕ → ℕ → ℕ
bit n a = shifted n a % 2

-- a cell of the tile x, y that is in the way's bitmap and that the rectangle touches
pub record SharedCell (r : Rectangle) (x y : ℤ) (bitmap : ℕ) : Type 0 where
  pub cell : ℕ
  pub few : cell < 16
  pub in-bitmap : bit (15 - cell) bitmap ≡ 1
  pub in_window : cell_touched r x y cell ≡ true

-- a sub tile is a step of at most 3 into tile x
pub record StepInto (sub x : ℤ) : Type 0 where
  pub step : ℕ
  pub short : step < 4
  pub is : four x +ℤ pos step ≡ sub

pub record WindowSays (g : Grid) (r : Rectangle) : Type 0 where
  -- a bad grid is 14, before all else
  pub bad-count : good_grid g ≡ false → window_count g r ≡ no 14 []
  pub bad-tile : (k : ℕ) → good_grid g ≡ false → window_tile g r k ≡ no 14 []
  -- the number of the tiles is the touched columns times the touched rows, both counted within the grid
  pub counted : good_grid g ≡ true → window_count g r ≡ answer (length (columns g r) * length (rows g r))
  pub listed : (k : ℕ) → good_grid g ≡ true → window_tile g r k ≡ answer (nth (touched g r) k)
  pub across : Lined g.x_min g.x_max r.left r.right
  pub down : Lined g.y_min g.y_max r.top r.bottom
  -- a rectangle with a low end above its high end gives no tiles
  pub none-across : le_z r.left r.right ≡ false → touched g r ≡ []
  pub none-down : le_z r.top r.bottom ≡ false → touched g r ≡ []
  -- exactly the tiles that lie in the grid and that the rectangle touches, row by row from the top, left to right, each one time
  pub only : (k : ℕ) (t : Touched) → nth (touched g r) k ≡ some t → Comes g r t
  pub all : (x y : ℤ) → in_grid g x y ≡ true → Touching r.left r.right x → Touching r.top r.bottom y → Somewhere (touched g r) (tile_of g r x y)
  pub in_order : (k k' : ℕ) (a b : Touched) → nth (touched g r) k ≡ some a → nth (touched g r) k' ≡ some b → k < k' → Before a b
  pub once : (k k' : ℕ) (a b : Touched) → nth (touched g r) k ≡ some a → nth (touched g r) k' ≡ some b → a.x ≡ b.x → a.y ≡ b.y → k ≡ k'
  -- the cells of a tile are the sub tiles that lie in it
  pub cell_in : (x : ℤ) (step : ℕ) → step < 4 → quarter (four x +ℤ pos step) ≡ x
  pub in_cell : (sub x : ℤ) → quarter sub ≡ x → StepInto sub x
  -- bit 15 - c of a mask is 1 exactly if cell c is touched, and no tile comes with the mask 0
  pub cells : (x y : ℤ) (c : ℕ) → c < 16 → bit (15 - c) (mask_of r x y) ≡ cond (cell_touched r x y c) 1 0
  pub marked : (k : ℕ) (t : Touched) → nth (touched g r) k ≡ some t → t.mask ≡ 0 → ⊥
  -- a way is accepted exactly if its bitmap shares a cell with the mask, and declined otherwise
  pub accepted : (x y : ℤ) (bitmap : ℕ) → shares_cell bitmap (mask_of r x y) ≡ true → SharedCell r x y bitmap
  pub declined : (x y : ℤ) (bitmap : ℕ) → shares_cell bitmap (mask_of r x y) ≡ false → SharedCell r x y bitmap → ⊥
