-- The zoom table of a tile: behind the signature, in a head that was read, and written to two lists row by row.
use Prim.Native.Nat.{ℕ, zero, suc, ◌+◌, ◌-◌, ◌≤◌, ◌<◌}
use native.Mathlib.Numerals.{add-one}
use native.Mathlib.Nat.{zero-add}
use native.Mathlib.Omega.{arith}
use mathlib.Core.Path.{◌≡◌, refl, sym, ap, subst, ◌∙◌}
use mathlib.Core.Bool.{Bool, true, false, ◌&&◌, cond}
use mathlib.Core.List.{List, [], ◌∷◌, ◌++◌}
use mathlib.Core.List.{map as mapped}
use lib.Dec.{leb}
use lib.ListN.{length, set, drop, replicate, length-map, length-replicate}
use lib.Seq.{sets}
use borrow.Author.Tests.{le-leb}
use Rattle.parsing.specs.Parse.{Res, ok, no, and_then, map_res, many, Part, Maybe}
use Rattle.parsing.specs.Good.{split, ok-val, no_ok, renumbered-ok}
use Rattle.parsing.proofs.Loops.{sets-append, many-count}
use Rattle.error.specs.Refusals.{refused}
use Rattle.error.specs.declared.Refusal.{Refusal}
use Rattle.arithmetic.specs.Cut.{cut}
use Rattle.utils.specs.Vbe.{Noted, values_of, all_plain, noted_unsigned}
use Rattle.format.specs.CutOff.{where_read, where_byte, of_head}
use Rattle.format.specs.Index.{answer}
use Rattle.format.specs.Rows.{rows_of_interval, interval_table, empty_head, marked_head}
use Rattle.format.specs.Tile as format
use Rattle.format.specs.Tile.{Row, row, zoom_table, debug_signature, tile_head}
use Rattle.std.specs.Prelude.{Result, Option}
use Rattle.std.specs.Result.{IsErr, IsErrAnd}
use Rattle.byte_source.specs.declared.Span.{Span}
use Rattle.byte_source.specs.Answers.{read_res}
use Rattle.byte_source.proofs.ReadLaws.{refused-on, handed-up, loop-refused}
use Rattle.byte_source.proofs.CutOffLaws.{renumbered-map}
use Rattle.utils.specs.declared.Noted.{Noted as Held}
use Rattle.utils.specs.Answers.{noted_by}
use Rattle.types.specs.Types.{maybe_part}
use Rattle.types.proofs.NotedLaws.{values_length, values-snoc}
use Rattle.types.proofs.FillLaws.{map-append, fill_more as noted_more}
use Rattle.std.proofs.lemmas.List.Edits.{fill_more}
use Rattle.zoom_table.specs.Blocks.{zoom_row, stored_row, empty_row, filled_rows, rows_of}
use Rattle.zoom_table.specs.declared.ZoomRow.{ZoomRow}
use Rattle.zoom_table.specs.declared.ZoomTable.{ZoomTable}
use Rattle.tile.specs.Tile.{rows_read, RowsPut}

-- the zoom table: zeros, or what stands behind the signature
zero-rows : (n : ℕ) → mapped zoom_row (empty_head n).table ≡ replicate n empty_row
zero-rows zero = refl
zero-rows (suc n) = ap (λ l. empty_row ∷ l) (zero-rows n)

zeros-behind : (n k : ℕ) → n ≤ k → replicate n empty_row ++ drop n (replicate k empty_row) ≡ replicate k empty_row
zeros-behind zero k h = refl
zeros-behind (suc n) zero h = absurd (omega arith)
zeros-behind (suc n) (suc k) h = ap (λ l. empty_row ∷ l) (zeros-behind n k (omega arith))

zeros-filled : (n : ℕ) → n ≤ 256 → filled_rows (empty_head n).table ≡ replicate 256 empty_row
unfolding filled_rows
zeros-filled n h =
    ap (λ l. l ++ drop (length l) (replicate 256 empty_row)) (zero-rows n)
    ∙ ap (λ k. replicate n empty_row ++ drop k (replicate 256 empty_row)) (length-replicate n empty_row)
    ∙ zeros-behind n 256 h

module _ (empty debug : Bool) (low high : ℕ) (m : List ℕ) (at : ℕ) where
  pub rows-zero : empty ≡ true → high - low < 256 → ◌≡◌ {A = Res ZoomTable} (ok (record { rows = replicate 256 empty_row; count = high - low + 1 }) at) (map_res rows_of (rows_read empty debug low high m at))
  unfolding rows_read
  rows-zero h b =
      rw h (same (rows_of_interval low high) (high - low + 1) (add-one (high - low)) (omega arith))
    where
      same : (n k : ℕ) → k ≡ n → n ≤ 256 → ◌≡◌ {A = Res ZoomTable} (ok (record { rows = replicate 256 empty_row; count = k }) at) (ok (rows_of (empty_head n).table) at)
      same n k e b = let c : length (empty_head n).table ≡ n = length-replicate n _ in rw (zeros-filled n b, c, e)

  module _ (f : empty ≡ false) where
    pub rows-no : (g : Result (ZoomTable × ℕ) Refusal) (x : Refusal) → IsErr g × IsErrAnd g (λ y. y ≡ x) → refused x ≡ debug_signature debug m at → read_res g ≡ map_res rows_of (rows_read empty debug low high m at)
    unfolding rows_read
    rows-no g x h q =
        rw f (handed-up (λ a. a) g x _ h (ap (map_res rows_of) (refused-on x (debug_signature debug m at) (λ _ n. map_res values_of (interval_table low high m n)) q)))

    pub rows_then : (v : Option Span) (n : ℕ) (r : Res ZoomTable) → ok (maybe_part m v) n ≡ debug_signature debug m at → r ≡ map_res rows_of (map_res values_of (interval_table low high m n)) → r ≡ map_res rows_of (rows_read empty debug low high m at)
    unfolding rows_read
    rows_then v n r q t = rw f (t ∙ ap (λ s. map_res rows_of (and_then s (λ _ n. map_res values_of (interval_table low high m n)))) q)

-- a table that was read
pub record Table (empty debug : Bool) (low high : ℕ) (m : List ℕ) (at : ℕ) (rows : List Row) : Type 0 where
  pub behind : ℕ
  pub read : rows_read empty debug low high m at ≡ ok rows behind
  pub count : length rows ≡ rows_of_interval low high

-- the zoom table is that of the head
abbrev made : Maybe Part → List (Noted Row) → Noted ℕ → format.TileHead
made a t d = record { signature = a; table = values_of t; offset = d.value; plain = all_plain t && d.plain }

module _ (debug : Bool) (low high : ℕ) (m : List ℕ) (at : ℕ) (o : low ≤ high) where
  table_of : (a : Maybe Part) (x : ℕ) (t : List (Noted Row)) (y : ℕ) → debug_signature debug m at ≡ ok a x → zoom_table (rows_of_interval low high) m x ≡ ok t y → Table false debug low high m at (values_of t)
  unfolding rows_read interval_table zoom_table
  table_of a x t y c d = record {
    behind = y;
    read =
        ap (λ r. and_then r (λ _ n. map_res values_of (cond (leb low high) (zoom_table (rows_of_interval low high) m n) (no 13 [])))) c
        ∙ ap (λ b. map_res values_of (cond b (zoom_table (rows_of_interval low high) m x) (no 13 []))) (le-leb low high o)
        ∙ ap (map_res values_of) d;
    count = values_length t ∙ many-count row m (rows_of_interval low high) x t y (renumbered-ok 20 (where_byte m x) (many row (rows_of_interval low high) m x) t y d);
  }

  stored-table : (k : format.TileHead) (n : ℕ) → tile_head debug (rows_of_interval low high) m at ≡ ok k n → Table false debug low high m at k.table
  unfolding tile_head
  stored-table k n e =
      let s = split (of_head where_read (debug_signature debug) m at) (λ a x. and_then (zoom_table (rows_of_interval low high) m x) (λ c y. and_then (of_head where_byte noted_unsigned m y) (λ d z. ok (made a c d) z))) k n e in
      let u = split (zoom_table (rows_of_interval low high) m s.mid) (λ c y. and_then (of_head where_byte noted_unsigned m y) (λ d z. ok (made s.val c d) z)) k n s.second in
      let p = split (of_head where_byte noted_unsigned m u.mid) (λ d z. ok (made s.val u.val d) z) k n u.second in
      known s.val s.mid u.val u.mid p.val p.mid s.first u.first p.second
    where
      known : (a : Maybe Part) (x : ℕ) (t : List (Noted Row)) (y : ℕ) (d : Noted ℕ) (z : ℕ) → of_head where_read (debug_signature debug) m at ≡ ok a x → zoom_table (rows_of_interval low high) m x ≡ ok t y
          → ◌≡◌ {A = Res format.TileHead} (ok (made a t d) z) (ok k n) → Table false debug low high m at k.table
      known a x t y d z f g h = rw (← (ok-val h)) (table_of a x t y (renumbered-ok 20 (cut at) (debug_signature debug m at) a x f) g)

pub head-table : (empty debug : Bool) (low high : ℕ) (m : List ℕ) (at : ℕ) → low ≤ high → (k : format.TileHead) (n : ℕ) → marked_head empty debug (rows_of_interval low high) m at ≡ ok k n → Table empty debug low high m at k.table
unfolding marked_head rows_read
head-table false debug low high m at o k n e = stored-table debug low high m at o k n e
head-table true debug low high m at o k n e =
    let h : (empty_head (rows_of_interval low high)).table ≡ k.table = ap (λ (a : format.TileHead). a.table) (ok-val e) in
    record { behind = at; read = ap (λ t. ok t at) h; count = ap length (sym h) ∙ length-replicate (rows_of_interval low high) _ }

-- rows written to two lists
abbrev pub put_points : List ℕ → List Row → List ℕ
put_points l rows = sets l 0 (mapped (λ (r : Row). r.points) rows)

abbrev pub put_ways : List ℕ → List Row → List ℕ
put_ways l rows = sets l 0 (mapped (λ (r : Row). r.ways) rows)

put-more : (f : Row → ℕ) (l : List ℕ) (xs : List Row) (r : Row) → sets l 0 (mapped f (xs ++ (r ∷ []))) ≡ set (sets l 0 (mapped f xs)) (length xs) (f r)
put-more f l xs r =
    let n : 0 + length (mapped f xs) ≡ length xs = zero-add (length (mapped f xs)) ∙ length-map xs f in
    ap (sets l 0) (map-append f xs (r ∷ [])) ∙ sets-append (mapped f xs) (f r ∷ []) l 0 ∙ ap (λ k. set (sets l 0 (mapped f xs)) k (f r)) n

put-noted : (f : Row → ℕ) (l : List ℕ) (xs : List (Noted Row)) (r : Noted Row) → sets l 0 (mapped f (values_of (xs ++ (r ∷ [])))) ≡ set (sets l 0 (mapped f (values_of xs))) (length xs) (f r.value)
put-noted f l xs r = rw (values-snoc xs r, ← (values_length xs)) (put-more f l (values_of xs) r.value)

module _ (m : List ℕ) (i at n : ℕ) (l l₀ : List ℕ) (f : Row → ℕ) (h : map_res (λ rows. sets l₀ 0 (mapped f (values_of rows))) (many row i m at) ≡ ok l n) where
  pub row_put : (v : Held ZoomRow) (e : ℕ) → ok (noted_by stored_row v) e ≡ row m n → map_res (λ rows. sets l₀ 0 (mapped f (values_of rows))) (many row (i + 1) m at) ≡ ok (set l i (f (stored_row v.value))) e
  row_put v e q =
      noted_more (λ rows. sets l₀ 0 (mapped f (values_of rows))) (λ r. f r.value) (i + 1) (λ xs r _. put-noted f l₀ xs r) row m i at n l e (f (stored_row v.value)) h (ap (map_res (λ r. f r.value)) (sym q)) (omega arith)

-- what no read gives
put-none : (stored : Res (List Row)) (x : Refusal) (p w p' w' : List ℕ) → refused x ≡ stored → RowsPut stored p w p' w'
put-none stored x p w p' w' h = record { points = λ rows e k. no_ok (h ∙ k); ways = λ rows e k. no_ok (h ∙ k) }

module _ (m : List ℕ) (i at n k : ℕ) (p w p₀ w₀ : List ℕ) (h : map_res (λ rows. put_points p₀ (values_of rows)) (many row i m at) ≡ ok p n) where
  pub put-stops : (e : Refusal) (p' w' : List ℕ) → refused e ≡ row m n → i < k → RowsPut (map_res values_of (many row k m at)) p₀ w₀ p' w'
  put-stops e p' w' q b =
      put-none (map_res values_of (many row k m at)) e p₀ w₀ p' w'
      (ap (map_res values_of) (loop-refused row (λ rows. put_points p₀ (values_of rows)) (λ a. a) m i k at n p e (sym h) (ap (map_res (λ a. a)) q) b))

-- zero rows
zero_more : (n : ℕ) → (empty_head (suc n)).table ≡ (empty_head n).table ++ (record { points = 0; ways = 0 } ∷ [])
zero_more zero = refl
zero_more (suc n) = ap (λ l. record { points = 0; ways = 0 } ∷ l) (zero_more n)

zero-put : (f : Row → ℕ) (l l₀ : List ℕ) (i : ℕ) → l ≡ sets l₀ 0 (mapped f (empty_head i).table) → f (record { points = 0; ways = 0 }) ≡ 0 → set l i 0 ≡ sets l₀ 0 (mapped f (empty_head (i + 1)).table)
zero-put f l l₀ i e h =
    ap (λ x. set x i 0) e ∙ ap (set (sets l₀ 0 (mapped f (empty_head i).table)) i) (sym h)
    ∙ ap (λ k. set (sets l₀ 0 (mapped f (empty_head i).table)) k (f (record { points = 0; ways = 0 }))) (sym (length-replicate i _))
    ∙ sym (put-more f l₀ (empty_head i).table (record { points = 0; ways = 0 }))
    ∙ ap (λ t. sets l₀ 0 (mapped f t)) (sym (zero_more i))
    ∙ ap (λ k. sets l₀ 0 (mapped f (empty_head k).table)) (sym (add-one i))

pub zero-filled : (f : Row → ℕ) (l : List ℕ) (n : ℕ) → n ≤ length l → f (record { points = 0; ways = 0 }) ≡ 0 → replicate n 0 ++ drop n l ≡ sets l 0 (mapped f (empty_head n).table)
zero-filled f l zero b h = refl
zero-filled f l (suc n) b h =
    subst (λ (k : ℕ). replicate k 0 ++ drop k l ≡ sets l 0 (mapped f (empty_head k).table)) (add-one n)
    (sym (fill_more n 0 l (omega arith)) ∙ zero-put f _ l n (zero-filled f l n (omega arith) h) h)

pub zeros-there : (n : ℕ) (p w a b : List ℕ) → n ≤ length p → n ≤ length w → a ≡ replicate n 0 → b ≡ replicate n 0 → RowsPut (answer (empty_head n).table) p w (a ++ drop n p) (b ++ drop n w)
zeros-there n p w a b h k d e = record {
  points = λ rows y z. ap (λ x. x ++ drop n p) d ∙ zero-filled (λ r. r.points) p n h refl ∙ ap (put_points p) (ok-val z);
  ways = λ rows y z. ap (λ x. x ++ drop n w) e ∙ zero-filled (λ r. r.ways) w n k refl ∙ ap (put_ways w) (ok-val z);
}

module _ (empty debug : Bool) (low high : ℕ) (m : List ℕ) (at : ℕ) (p w p' w' : List ℕ) where
  pub zeros-put : (k : ℕ) → empty ≡ true → k ≡ high - low + 1 → RowsPut (answer (empty_head k).table) p w p' w' → RowsPut (rows_read empty debug low high m at) p w p' w'
  unfolding rows_read
  zeros-put k h e r = rw h (same (rows_of_interval low high) (e ∙ add-one (high - low)))
    where
      same : (n : ℕ) → k ≡ n → RowsPut (ok (empty_head n).table at) p w p' w'
      same n d = record {
        points = λ rows y z. r.points _ 0 refl ∙ ap (λ i. put_points p (empty_head i).table) d ∙ ap (put_points p) (ok-val z);
        ways = λ rows y z. r.ways _ 0 refl ∙ ap (λ i. put_ways w (empty_head i).table) d ∙ ap (put_ways w) (ok-val z);
      }

  -- behind the signature
  module _ (f : empty ≡ false) where
    pub no-signature : (x : Refusal) → refused x ≡ debug_signature debug m at → RowsPut (rows_read empty debug low high m at) p w p' w'
    unfolding rows_read
    no-signature x q = rw f (put-none (and_then (debug_signature debug m at) (λ _ n. map_res values_of (interval_table low high m n))) x p w p' w' (refused-on x (debug_signature debug m at) (λ _ n. map_res values_of (interval_table low high m n)) q))

    pub signature-past : (v : Option Span) (n k : ℕ) → low ≤ high → ok (maybe_part m v) n ≡ debug_signature debug m at → k ≡ high - low + 1 → RowsPut (map_res values_of (many row k m n)) p w p' w' → RowsPut (rows_read empty debug low high m at) p w p' w'
    unfolding rows_read interval_table zoom_table
    signature-past v n k o q u r = rw f (record { points = λ rows e k. r.points rows e (same rows e k); ways = λ rows e k. r.ways rows e (same rows e k) })
      where
        same : (rows : List Row) (e : ℕ) → and_then (debug_signature debug m at) (λ _ n. map_res values_of (interval_table low high m n)) ≡ ok rows e → map_res values_of (many row k m n) ≡ ok rows e
        same rows e z =
            let d = ap (λ r. and_then r (λ _ y. map_res values_of (interval_table low high m y))) q in
            let c = ap (λ b. map_res values_of (cond b (zoom_table (rows_of_interval low high) m n) (no 13 []))) (le-leb low high o) in
            let r = many row (rows_of_interval low high) m n in
            ap (λ i. map_res values_of (many row i m n)) (u ∙ add-one (high - low))
            ∙ renumbered-ok 20 (where_byte m n) (map_res values_of r) rows e (renumbered-map values_of 20 (where_byte m n) r ∙ sym c ∙ d ∙ z)
