-- A zoom table that the map ends in.
use Prim.Native.Nat.{ℕ, ◌^◌, ◌≤◌, ◌<◌, max}
use native.Mathlib.Omega.{arith}
use mathlib.Core.Path.{◌≡◌, refl, sym, ap, ◌∙◌}
use mathlib.Core.Bool.{Bool, true, false, cond}
use mathlib.Core.List.{List, []}
use lib.Dec.{leb}
use lib.ListN.{length}
use borrow.Author.Rules.{rules}
use Rattle.parsing.specs.Parse.{no, map_res, many, renumbered}
use Rattle.arithmetic.proofs.CutLaws.{cut_fits}
use Rattle.byte_source.proofs.CutOffLaws.{renumbered-map}
use Rattle.utils.specs.Vbe.{Noted, values_of}
use Rattle.zoom_table.specs.Blocks.{rows_of}
use Rattle.format.specs.CutOff.{where_byte}
use Rattle.format.specs.Tile.{Row, row, zoom_table}
use Rattle.format.specs.Rows.{rows_of_interval, numbers_of_table, interval_table}

-- the missing byte's place
module _ (m : List ℕ) (at : ℕ) (f : at < 2 ^ 64) (g : length m < 2 ^ 64) where
  pub missing-first : length m < at → at ≡ where_byte m at
  missing-first h = let e : max at (length m) ≡ at = omega arith in rw e (sym (cut_fits at f))

  pub missing-behind : at ≤ length m → length m ≡ where_byte m at
  missing-behind h = let e : max at (length m) ≡ length m = omega arith in rw e (sym (cut_fits (length m) g))

pub ruleset missing = (rules, missing-first, missing-behind)

-- the test of the interval first, or the number of the refusal first
table_of : (a b : ℕ) (m : List ℕ) (at : ℕ) → renumbered 20 (where_byte m at) (numbers_of_table a b m at) ≡ interval_table a b m at
unfolding numbers_of_table interval_table zoom_table
table_of a b m at = go (leb a b)
  where
    go : (c : Bool) → renumbered 20 (where_byte m at) (cond c (many row (rows_of_interval a b) m at) (no 13 [])) ≡ cond c (renumbered 20 (where_byte m at) (many row (rows_of_interval a b) m at)) (no 13 [])
    go true = refl
    go false = refl

-- in a view of the rows
pub table-cut-off : {B : Type 0} (f : List (Noted Row) → B) (a b : ℕ) (m : List ℕ) (at : ℕ) → renumbered 20 (where_byte m at) (map_res f (numbers_of_table a b m at)) ≡ map_res f (interval_table a b m at)
table-cut-off f a b m at = renumbered-map f 20 (where_byte m at) (numbers_of_table a b m at) ∙ ap (map_res f) (table_of a b m at)

pub rows-cut-off : (a b : ℕ) (m : List ℕ) (at : ℕ) → renumbered 20 (where_byte m at) (map_res rows_of (map_res values_of (numbers_of_table a b m at))) ≡ map_res rows_of (map_res values_of (interval_table a b m at))
rows-cut-off a b m at = renumbered-map rows_of 20 (where_byte m at) (map_res values_of (numbers_of_table a b m at)) ∙ ap (map_res rows_of) (table-cut-off values_of a b m at)
