-- What collecting answers, by what is said of the tile and its rows.
use Prim.Native.Nat.{ℕ, ◌+◌, ◌≤◌}
use mathlib.Core.Path.{◌≡◌, refl, sym, ap, ◌∙◌}
use mathlib.Core.Bool.{Bool, true, false}
use mathlib.Core.List.{List, [], ◌∷◌}
use mathlib.Core.List.{map as mapped}
use lib.Dec.{leb}
use lib.ListN.{length, take, drop, replicate, length-map}
use lib.Seq.{sets, take_at}
use borrow.Author.Tests.{le-leb, leb-true}
use Rattle.parsing.specs.Parse.{Res, ok, no, map_res, list_of}
use Rattle.parsing.specs.Good.{ok-val, ok_at, no_ok}
use Rattle.error.specs.Refusals.{refused, lengths}
use Rattle.error.specs.declared.Refusal.{Refusal}
use Rattle.error.specs.declared.LentRefusal.{LentRefusal}
use Rattle.error.specs.declared.LentRefusal.TheVariants as lent-refusal
use Rattle.arithmetic.specs.Cut.{cut}
use Rattle.format.specs.Index.{answer, answered}
use Rattle.format.specs.Lent.{front, Replied, sets-front}
use Rattle.format.specs.Rows.{rows_of_interval, marked_head}
use Rattle.format.specs.Tile.{Row}
use Rattle.zoom_table.specs.Blocks.{zoom_row, empty_row, filled_rows, rows_of}
use Rattle.zoom_table.specs.declared.ZoomRow.{ZoomRow}
use Rattle.zoom_table.specs.declared.ZoomTable.{ZoomTable}
use Rattle.agreement.specs.Collected.{StoredTile}
use Rattle.agreement.proofs.TileAgrees.{collected}
use Rattle.tile_layout.specs.TileLayout.{TileKinds, format_of}
use Rattle.std.specs.Prelude.{Result, Ok, Err}
use Rattle.std.specs.Result.{IsErr, IsErrAnd}
use Rattle.byte_source.proofs.ReadLaws.{met}
use Rattle.agreement.proofs.Stored as held
use Rattle.index.specs.Answers.{lent_answer}
use Rattle.tile.specs.Tile.{shown_tile, shown_from, stored_at, collect_at, places_at, feature_places, listed, TileIs, summary_of, rows_of_tile, row_points, row_ways, view_or, TileLists, lent_tile, CollectIs, has_room, too_short, rows_read, RowsPut, PlacesPut}
use Rattle.tile.specs.declared.Tile.{Tile}
use Rattle.tile.specs.declared.TileSummary.{TileSummary}
use Rattle.tile.proofs.RowLaws.{head-table}
use Rattle.tile.proofs.PlaceLaws.{places_count}
use Rattle.tile.proofs.TileLaws.{At}

-- an answer that is a refusal, which a `?` handed up
pub tile-refused : (stored : Res Tile) (places lent : List ℕ) (g : Result Tile LentRefusal) (x : Refusal) → IsErr g × IsErrAnd g (λ y. y ≡ lent-refusal.Refused x) → refused x ≡ stored → TileIs stored places lent g lent
tile-refused stored places lent g x h q = rw (met h, ← q) refl

pub collect-refused : (stored : Res Tile) (places : List ℕ) (lent : TileLists) (g : Result TileSummary LentRefusal) (x : Refusal) → IsErr g × IsErrAnd g (λ y. y ≡ lent-refusal.Refused x) → refused x ≡ stored → CollectIs stored places lent g lent
collect-refused stored places lent g x h q = record { answer = rw (met h, ← q) refl; points = rw (← q) refl; ways = rw (← q) refl; list = rw (← q) refl }

-- what a call gave, where the definitions are those of a place
module _ (read stored : Res Tile) (starts places : List ℕ) (a : At stored places read starts) where
  pub tile-same : (lent : List ℕ) (x : Replied (List ℕ) (Res Tile)) → x ≡ listed (answered read) starts lent → x ≡ listed stored places lent
  tile-same lent x t = rw (← a.tile, ← a.same) t

  pub collect-same : (lent : TileLists) (g : Result TileSummary LentRefusal) (left : TileLists) → CollectIs (answered read) starts lent g left → CollectIs stored places lent g left
  collect-same lent g left t = rw (← a.tile, ← a.same) t

  -- what is said of a tile is a refusal,
  said-no : (x : Refusal) → refused x ≡ map_res summary_of read → refused x ≡ stored
  said-no x q = go read q ∙ a.tile
    where
      go : (r : Res Tile) → refused x ≡ map_res summary_of r → refused x ≡ answered r
      go (ok t e) d = no_ok d
      go (no k v) d = cc

  pub tile-no : (lent : List ℕ) (g : Result Tile LentRefusal) (x : Refusal) → IsErr g × IsErrAnd g (λ y. y ≡ lent-refusal.Refused x) → refused x ≡ map_res summary_of read → TileIs stored places lent g lent
  tile-no lent g x h q = tile-refused stored places lent g x h (said-no x q)

  pub collect-no : (lent : TileLists) (g : Result TileSummary LentRefusal) (x : Refusal) → IsErr g × IsErrAnd g (λ y. y ≡ lent-refusal.Refused x) → refused x ≡ map_res summary_of read → CollectIs stored places lent g lent
  collect-no lent g x h q = collect-refused stored places lent g x h (said-no x q)

-- or of a tile that is stored
pub record Said (l : TileKinds) (empty : Bool) (low high : ℕ) (m : List ℕ) (at : ℕ) (v : TileSummary) (start : ℕ) : Type 0 where
  pub tile : StoredTile (format_of l)
  pub end : ℕ
  pub same : stored_at l empty low high at m ≡ ok tile end
  pub known : v ≡ summary_of (shown_tile tile)
  pub starts : start ≡ tile.start

said : (l : TileKinds) (empty : Bool) (low high : ℕ) (m : List ℕ) (at : ℕ) (v : TileSummary) (start : ℕ) → ok v start ≡ map_res summary_of (collect_at l empty low high at m) → Said l empty low high m at v start
said l empty low high m at v start q = go (stored_at l empty low high at m) refl q
  where
    go : (r : Res (StoredTile (format_of l))) → stored_at l empty low high at m ≡ r → ok v start ≡ map_res summary_of (shown_from r) → Said l empty low high m at v start
    go (ok t e) c d = record { tile = t; end = e; same = c; known = ok-val d; starts = ok_at d }
    go (no k v) c d = no_ok (sym d)

-- the rows of a tile that is stored
record Rows (empty debug : Bool) (low high : ℕ) (m : List ℕ) (at : ℕ) (t : Tile) : Type 0 where
  table : List Row
  behind : ℕ
  read : rows_read empty debug low high m at ≡ ok table behind
  shown : t.zoom_table ≡ filled_rows table
  count : t.rows ≡ length table

-- its rows, as they go to a list
fused : (f : ZoomRow → ℕ) (g : Row → ℕ) → ((x : Row) → f (zoom_row x) ≡ g x) → (rows : List Row) → mapped g rows ≡ mapped f (mapped zoom_row rows)
fused f g c [] = refl
fused f g c (x ∷ rows) = rw (c x) (ap (λ l. g x ∷ l) (fused f g c rows))

front-rows : (rows : List Row) → mapped zoom_row rows ≡ take (length rows) (filled_rows rows)
unfolding filled_rows
front-rows rows = sym (take_at (mapped zoom_row rows) (drop (length (mapped zoom_row rows)) (replicate 256 empty_row)) (length rows) (length-map rows zoom_row))

put : (f : ZoomRow → ℕ) (g : Row → ℕ) (t : Tile) (rows : List Row) (l : List ℕ) → ((x : Row) → f (zoom_row x) ≡ g x) → t.zoom_table ≡ filled_rows rows → t.rows ≡ length rows → sets l 0 (mapped g rows) ≡ sets l 0 (mapped f (rows_of_tile t))
put f g t rows l c a b =
    let e : mapped zoom_row rows ≡ rows_of_tile t = front-rows rows ∙ rw (← a, ← b) in
    ap (sets l 0) (fused f g c rows ∙ ap (mapped f) e)

-- a list that is long enough, and one that is not
is-listed : (stored : Res Tile) (t : Tile) (places lent : List ℕ) → stored ≡ answer t → leb (length places) (length lent) ≡ true → listed stored places lent ≡ record { answer = answer t; lists = front places lent }
is-listed stored t places lent q h = rw (q, h) refl

not_listed : (stored : Res Tile) (t : Tile) (places lent : List ℕ) → stored ≡ answer t → leb (length places) (length lent) ≡ false → listed stored places lent ≡ record { answer = no 15 (lengths (cut (length places)) 0 0 0 0 0); lists = lent }
not_listed stored t places lent q h = rw (q, h) refl

module _ (l : TileKinds) (empty : Bool) (low high : ℕ) (m : List ℕ) (at : ℕ) (o : low ≤ high) where
  rows-stored : (t : StoredTile (format_of l)) (e : ℕ) → stored_at l empty low high at m ≡ ok t e → Rows empty l.debug low high m at (shown_tile t)
  rows-stored s e c =
      let k = head-table empty l.debug low high m at o s.head s.start (collected (marked_head empty l.debug (rows_of_interval low high)) (format_of l) m at s e c).head in
      record { table = s.head.table; behind = k.behind; read = k.read; shown = refl; count = refl }

  module _ (v : TileSummary) (start : ℕ) (q : ok v start ≡ map_res summary_of (collect_at l empty low high at m)) where
    t : Said l empty low high m at v start
    t = said l empty low high m at v start q

    stored_is : answered (collect_at l empty low high at m) ≡ answer (shown_tile t.tile)
    stored_is = ap (λ r. answered (shown_from r)) t.same

    places-are : places_at l empty low high at m ≡ feature_places (format_of l) m t.tile
    places-are = ap (λ r. list_of (map_res (feature_places (format_of l) m) r)) t.same

    -- one place for each feature
    counted : length (places_at l empty low high at m) ≡ v.points + v.ways
    counted = ap length places-are ∙ places_count (format_of l) m t.tile ∙ ap (λ (x : TileSummary). x.points + x.ways) (sym t.known)

    abbrev starts : List ℕ
    starts = places_at l empty low high at m

    room-is : (lent : List ℕ) (k : Bool) → k ≡ has_room v.points v.ways (length lent) → leb (length starts) (length lent) ≡ k
    room-is lent k i = ap (λ n. leb n (length lent)) counted ∙ sym i

    -- 15
    pub tile-short : (lent : List ℕ) (k : Bool) (x : LentRefusal) → k ≡ has_room v.points v.ways (length lent) → k ≡ false → x ≡ too_short v.points v.ways → TileIs (answered (collect_at l empty low high at m)) starts lent (Err x) lent
    tile-short lent k x i f w =
        let z = not_listed (answered (collect_at l empty low high at m)) (shown_tile t.tile) starts lent stored_is (room-is lent k i ∙ f) in
        rw (z, w, counted) refl

    pub collect-short : (lent : TileLists) (k : Bool) (x : LentRefusal) → k ≡ has_room v.points v.ways (length lent.places) → k ≡ false → x ≡ too_short v.points v.ways → CollectIs (answered (collect_at l empty low high at m)) starts lent (Err x) lent
    collect-short lent k x i f w =
        let z = not_listed (answered (collect_at l empty low high at m)) (shown_tile t.tile) starts lent.places stored_is (room-is lent.places k i ∙ f) in
        record { answer = rw (z, w, counted) refl; points = rw z refl; ways = rw z refl; list = rw z refl }

    -- its rows, which were read for their sums, can be read again
    rows-again : Rows empty l.debug low high m at (shown_tile t.tile)
    rows-again = rows-stored t.tile t.end t.same

    pub rows-there : {C : Type 0} (x : Refusal) → refused x ≡ map_res rows_of (rows_read empty l.debug low high m at) → C
    rows-there x d = no_ok (d ∙ ap (map_res rows_of) rows-again.read)

    -- the list is long enough, and written
    module _ (lent left : List ℕ) (k : Bool) (i : k ≡ has_room v.points v.ways (length lent)) (f : k ≡ true) (w : PlacesPut l m start v lent left) where
      room : leb (length starts) (length lent) ≡ true
      room = room-is lent k i ∙ f

      listed-as : listed (answered (collect_at l empty low high at m)) starts lent ≡ record { answer = answer (shown_tile t.tile); lists = left }
      listed-as =
          is-listed (answered (collect_at l empty low high at m)) (shown_tile t.tile) starts lent stored_is room
          ∙ ap (λ (x : List ℕ). record { answer = answer (shown_tile t.tile); lists = x })
          (sym (sets-front starts lent (leb-true (length starts) (length lent) room)) ∙ ap (sets lent 0) places-are ∙ sym (w.put t.tile t.end (marked_head empty l.debug (rows_of_interval low high)) at t.same t.starts t.known))

      -- rows in an array, and rows in two lists
      pub read_done : (z : ZoomTable) (n : ℕ) → ok z n ≡ map_res rows_of (rows_read empty l.debug low high m at)
          → TileIs (answered (collect_at l empty low high at m)) starts lent (Ok (record { signature = v.signature; zoom_table = z.rows; rows = v.rows; first_way_offset = v.first_way_offset; points = v.points; ways = v.ways; exact = v.exact; plain = v.plain })) left
      read_done z n b =
          let k : z ≡ rows_of rows-again.table = ok-val (b ∙ ap (map_res rows_of) rows-again.read) in
          is-tile (shown_tile t.tile) v z.rows t.known (ap (λ (y : ZoomTable). y.rows) k ∙ sym rows-again.shown) listed-as
        where
          is-tile : (y : Tile) (v : TileSummary) (z : List ZoomRow) → v ≡ summary_of y → z ≡ y.zoom_table → listed (answered (collect_at l empty low high at m)) starts lent ≡ record { answer = answer y; lists = left }
              → TileIs (answered (collect_at l empty low high at m)) starts lent (Ok (record { signature = v.signature; zoom_table = z; rows = v.rows; first_way_offset = v.first_way_offset; points = v.points; ways = v.ways; exact = v.exact; plain = v.plain })) left
          is-tile y v z b c k = rw (b, c) (sym k)

      pub collect-done : (p w p' w' : List ℕ) → RowsPut (rows_read empty l.debug low high m at) p w p' w'
          → CollectIs (answered (collect_at l empty low high at m)) starts (lent_tile p w lent) (Ok v) (lent_tile p' w' left)
      collect-done p w p' w' b =
          let r = rows-again in
          record {
            answer = rw listed-as (ap answer t.known);
            points = rw listed-as (b.points r.table r.behind r.read ∙ put (λ x. x.points) (λ x. x.points) (shown_tile t.tile) r.table p (λ x. refl) r.shown r.count);
            ways = rw listed-as (b.ways r.table r.behind r.read ∙ put (λ x. x.ways) (λ x. x.ways) (shown_tile t.tile) r.table w (λ x. refl) r.shown r.count);
            list = rw listed-as refl;
          }

-- A tile that was collected: what is stored, and what its list holds.
pub record IsCollected (stored : Res Tile) (places lent : List ℕ) (t : Tile) (left : List ℕ) : Type 0 where
  pub tile : stored ≡ answer t
  pub list : left ≡ front places lent
  pub room : leb (length places) (length lent) ≡ true

pub is-collected : (stored : Res Tile) (places lent : List ℕ) (t : Tile) (left : List ℕ) → TileIs stored places lent (Ok t) left → IsCollected stored places lent t left
is-collected (ok x e) places lent t left q = go (leb (length places) (length lent)) refl
  where
    go : (b : Bool) → leb (length places) (length lent) ≡ b → IsCollected (ok x e) places lent t left
    go true h =
        let k : ◌≡◌ {A = Replied (List ℕ) (Res Tile)} (record { answer = answer t; lists = left }) (record { answer = ok x e; lists = front places lent }) = rw h at q in
        let a = ap (λ (y : Replied (List ℕ) (Res Tile)). y.answer) k in
        record { tile = sym a; list = ap (λ (y : Replied (List ℕ) (Res Tile)). y.lists) k; room = h }
    go false h =
        let k : ◌≡◌ {A = Replied (List ℕ) (Res Tile)} (record { answer = answer t; lists = left }) (record { answer = no 15 (lengths (cut (length places)) 0 0 0 0 0); lists = lent }) = rw h at q in
        no_ok (sym (ap (λ (y : Replied (List ℕ) (Res Tile)). y.answer) k))
is-collected (no n v) places lent t left q = no_ok (sym (ap (λ (y : Replied (List ℕ) (Res Tile)). y.answer) q))

-- With a list that is long enough, it is.
pub long-enough : (stored : Res Tile) (t : Tile) (places lent : List ℕ) (r : Result Tile LentRefusal) (left : List ℕ) → stored ≡ answer t → length places ≤ length lent → TileIs stored places lent r left
    → (r ≡ Ok t) × (left ≡ front places lent)
long-enough stored t places lent r left q h i =
    let a = i ∙ is-listed stored t places lent q (le-leb (length places) (length lent) h) in
    (go r (ap (λ (x : Replied (List ℕ) (Res Tile)). x.answer) a), ap (λ (x : Replied (List ℕ) (Res Tile)). x.lists) a)
  where
    go : (x : Result Tile LentRefusal) → lent_answer x ≡ answer t → x ≡ Ok t
    go (Ok y) e = ap Ok (ok-val e)
    go (Err y) e = no_ok e

-- What `collect` gave of a tile, as `read_tile` gives it: the tile, whose rows went to the lists.
pub record GivenAs (stored : Res Tile) (places : List ℕ) (lent : TileLists) (v : TileSummary) (left : TileLists) : Type 0 where
  pub tile : Tile
  pub is : TileIs stored places lent.places (Ok tile) left.places
  pub said : v ≡ summary_of tile
  pub points : left.points ≡ sets lent.points 0 (row_points (rows_of_tile tile))
  pub ways : left.ways ≡ sets lent.ways 0 (row_ways (rows_of_tile tile))

-- what collecting refuses, reading the whole tile refuses too
pub read_is : (stored : Res Tile) (places : List ℕ) (lent : TileLists) (r : LentRefusal) (left : TileLists) → CollectIs stored places lent (Err r) left → TileIs stored places lent.places (Err r) left.places
read_is stored places lent r left i =
    ap (λ x. record { answer = x; lists = left.places }) (go (listed stored places lent.places).answer i.answer)
    ∙ ap (λ (x : List ℕ). record { answer = (listed stored places lent.places).answer; lists = x }) i.list
  where
    go : (t : Res Tile) → ◌≡◌ {A = Res TileSummary} (lent_answer (Err r)) (map_res summary_of t) → ◌≡◌ {A = Res Tile} (lent_answer (Err r)) t
    go (ok v n) q = no_ok q
    go (no n v) q = cc

pub given-as : (stored : Res Tile) (places : List ℕ) (lent : TileLists) (v : TileSummary) (left : TileLists) → CollectIs stored places lent (Ok v) left → GivenAs stored places lent v left
given-as stored places lent v left i =
    let t = held.stored summary_of v 0 (listed stored places lent.places).answer i.answer in
    record {
      tile = t.value;
      is =
          ap (λ x. record { answer = x; lists = left.places }) (sym t.same)
          ∙ ap (λ (x : List ℕ). record { answer = (listed stored places lent.places).answer; lists = x }) i.list;
      said = t.shown;
      points = i.points ∙ ap (view_or (λ t. sets lent.points 0 (row_points (rows_of_tile t))) lent.points) t.same;
      ways = i.ways ∙ ap (view_or (λ t. sets lent.ways 0 (row_ways (rows_of_tile t))) lent.ways) t.same;
    }
