-- Rows filled into an array from the front, and a table of an interval.
use Prim.Native.Nat.{ℕ, ◌+◌, ◌-◌, ◌≤◌, ◌<◌}
use native.Mathlib.Numerals.{add-one}
use mathlib.Core.Path.{◌≡◌, refl, sym, ap, ◌∙◌}
use mathlib.Core.List.{List, [], ◌∷◌, ◌++◌}
use lib.ListN.{length, set, replicate}
use borrow.Author.Tests.{le-leb, lt-leb}
use Rattle.parsing.specs.Parse.{Res, ok, no, map_res, many}
use Rattle.error.specs.Refusals.{refused}
use Rattle.error.specs.declared.Refusal.{Refusal}
use Rattle.error.specs.declared.Refusal.TheVariants.{ReversedInterval}
use Rattle.byte_source.proofs.ReadLaws.{loop-refused}
use Rattle.utils.specs.Vbe.{Noted, values_of}
use Rattle.utils.specs.declared.Noted.{Noted as Held}
use Rattle.utils.specs.Answers.{noted_by}
use Rattle.format.specs.Tile.{Row, row}
use Rattle.format.specs.Rows.{numbers_of_table}
use Rattle.types.proofs.NotedLaws.{values_length, values-snoc}
use Rattle.types.proofs.FillLaws.{front-map-more, fill_more, fill_done}
use Rattle.zoom_table.specs.Blocks.{zoom_row, stored_row, empty_row, filled_rows, rows_of}
use Rattle.zoom_table.specs.declared.ZoomRow.{ZoomRow}
use Rattle.zoom_table.specs.declared.ZoomTable.{ZoomTable}

-- the array
abbrev pub filled : List (Noted Row) → List ZoomRow
filled rows = filled_rows (values_of rows)

abbrev value_row : Noted Row → ZoomRow
value_row r = zoom_row r.value

pub rows_none : (at : ℕ) → ok (filled []) at ≡ ok (replicate 256 empty_row) at
unfolding filled_rows
rows_none at = refl

filled_more : (xs : List (Noted Row)) (r : Noted Row) → length xs < 256 → filled (xs ++ (r ∷ [])) ≡ set (filled xs) (length xs) (value_row r)
unfolding filled_rows
filled_more xs r h =
    let n = values_length xs in
    rw (values-snoc xs r, ← n) (front-map-more zoom_row (values_of xs) r.value (replicate 256 empty_row) (rw (← n) at h))

rows-shown : (r : Res (List (Noted Row))) → map_res (λ xs. record { rows = filled xs; count = length xs }) r ≡ map_res rows_of (map_res values_of r)
rows-shown (ok l e) = rw (values_length l)
rows-shown (no k v) = refl

-- one read more behind i rows
module _ (m : List ℕ) (i at n : ℕ) (l : List ZoomRow) (h : map_res filled (many row i m at) ≡ ok l n) where
  pub rows_more : (v : Held ZoomRow) (e : ℕ) → ok (noted_by stored_row v) e ≡ row m n → i < 256 → map_res filled (many row (i + 1) m at) ≡ ok (set l i v.value) e
  rows_more v e q b = fill_more filled value_row 256 filled_more row m i at n l e v.value h (ap (map_res value_row) (sym q)) b

  pub rows-no : (e : Refusal) (k : ℕ) → refused e ≡ row m n → i < k → refused e ≡ map_res rows_of (map_res values_of (many row k m at))
  rows-no e k q b = ap (λ r. map_res rows_of (map_res values_of r)) (loop-refused row filled (λ a. a) m i k at n l e (sym h) (ap (map_res (λ a. a)) q) b)

  pub rows-done : (k : ℕ) → i ≤ k → k ≤ i → ◌≡◌ {A = Res ZoomTable} (ok (record { rows = l; count = k }) n) (map_res rows_of (map_res values_of (many row k m at)))
  rows-done k b c = fill_done filled (λ l k. record { rows = l; count = k }) row m i at n k l h b c ∙ rows-shown (many row k m at)

-- the table of an interval from a to b
module _ (m : List ℕ) (a b at : ℕ) where
  pub table-reversed : b < a → refused ReversedInterval ≡ numbers_of_table a b m at
  unfolding numbers_of_table
  table-reversed h = rw (lt-leb a b h)

  pub table_is : a ≤ b → many row (b - a + 1) m at ≡ numbers_of_table a b m at
  unfolding numbers_of_table
  table_is h = rw (le-leb a b h, add-one (b - a))
