-- Demand 3, as it is proved (proofs/Agreement.antt, `demand-3`): first of a tile of any format, then of a whole map.
use Rattle.std.specs.Prelude.{◌≡◌, true, List, [], ◌∷◌, ℕ, ◌+◌, ◌^◌, ◌≤◌, ◌<◌, length}
use Rattle.parsing.specs.Parse.{ok, Parser, many}
use Rattle.format.specs.Lent.{Reply}
use Rattle.format.specs.Tile.{TileHead}
use Rattle.agreement.specs.Calls.{Call, run}
use Rattle.agreement.specs.Format.{Format}
use Rattle.agreement.specs.Heads.{points_up_to}
use Rattle.agreement.specs.Stream.{StreamAnswer, StreamState, stream, fresh_stream, open_stream}
use Rattle.agreement.specs.Collected.{StoredTile, all_exact, collect, stored_collection, stored_tile}
use Rattle.agreement.specs.Book.{book_replies}
use Rattle.agreement.specs.Declined.{Bytes, LiesIn, passed_bytes, DifferOnly, declined_bytes}
use Rattle.agreement.specs.View.{collected_tile, streamed_replies}
use Rattle.agreement.specs.MapLayout.{MapLayout, open_map, opened_bytes, rows_at, open_tile, collect_tile}

-- what demand 3 supposes: the tile at place i collects, and every way's stored size is its decoded length. (That the first-way offset
-- leads to the first way is part of collecting, which seeks by it, and no lent map is longer than 2 ^ 64 - 1.)
pub record Collects (tile_head : Parser TileHead) (F : Format) (m : List ℕ) (i : ℕ) (t : StoredTile F) : Type 0 where
  pub past : ℕ
  pub collects : collect tile_head F m i ≡ ok t past
  pub sizes : all_exact t.ways ≡ true
  pub small : length m < 2 ^ 64

-- the book's replies, where it is fed the tile as stored
abbrev pub stored_replies : (F : Format) → StoredTile F → (TileHead → F.End) → (rows : ℕ) → List Call → List (Reply (StreamAnswer F))
stored_replies F t z rows cs = book_replies (stored_collection F) (stored_tile t z) rows cs

-- a tile's stream, freshly opened
abbrev pub fresh_of : (F : Format) → StoredTile F → (TileHead → F.End) → (rows : ℕ) → StreamState F
fresh_of F t z rows = fresh_stream rows z t.head t.start

-- the stream opens, and every answer and every lent list are exactly those of the book
pub record Agrees (tile_head : Parser TileHead) (F : Format) (m : List ℕ) (i : ℕ) (t : StoredTile F) (z : TileHead → F.End) (rows : ℕ) (cs : List Call) : Type 0 where
  pub opens : open_stream tile_head rows z m i ≡ ok (fresh_of F t z rows) t.start
  pub replies : run (stream F m) (fresh_of F t z rows) cs ≡ stored_replies F t z rows cs

-- the first n points of a tile
abbrev pub point_bytes : (F : Format) → List ℕ → StoredTile F → ℕ → Bytes
point_bytes F m t n = passed_bytes (many F.point n) m t.start

-- a byte that may be altered: it lies in a way declined untried, and in no point up to the zoom. (If a way was declined, all these points
-- were delivered: proofs/Delivered.antt.)
pub record Alterable (F : Format) (m : List ℕ) (t : StoredTile F) (rows : ℕ) (cs : List Call) (rs : List (Reply (StreamAnswer F))) (j : ℕ) : Type 0 where
  pub declined : LiesIn j (declined_bytes F cs rs)
  pub points : LiesIn j (point_bytes F m t (points_up_to t.head.table rows) ∷ []) → ⊥

-- the first-way offset leads to the end of the points up to the zoom, or beyond
pub record WaysBehind (F : Format) (m : List ℕ) (t : StoredTile F) (rows : ℕ) : Type 0 where
  pub behind : (point_bytes F m t (points_up_to t.head.table rows)).to ≤ t.start + t.head.offset

-- The same of a whole map. It opens with header h, and n is the tile's entry.
pub record Opens (C : MapLayout) (m : List ℕ) (h : C.Header) (n : C.Entry) : Type 0 where
  pub header_end : ℕ
  pub header : open_map C m ≡ ok h header_end
  pub entry_end : ℕ
  pub entry : C.entry h m (C.entry_at h) ≡ ok n entry_end

-- the tile collects, and every way's stored size is its decoded length
pub record MapCollects (C : MapLayout) (m : List ℕ) (h : C.Header) (n : C.Entry) (t : StoredTile (C.format h)) : Type 0 where
  pub map : Opens C m h n
  pub past : ℕ
  pub collects : collect_tile C h m ≡ ok t past
  pub sizes : all_exact t.ways ≡ true
  pub small : length m < 2 ^ 64

abbrev pub map_replies : (C : MapLayout) (h : C.Header) (n : C.Entry) → StoredTile (C.format h) → (zoom : ℕ) → List Call → List (Reply (StreamAnswer (C.format h)))
map_replies C h n t zoom cs = stored_replies (C.format h) t (C.end h n) (rows_at C h zoom) cs

abbrev pub fresh_tile : (C : MapLayout) (h : C.Header) (n : C.Entry) → StoredTile (C.format h) → (zoom : ℕ) → StreamState (C.format h)
fresh_tile C h n t zoom = fresh_of (C.format h) t (C.end h n) (rows_at C h zoom)

-- the stream opens, and every answer and every lent list are exactly those of the book. `shown`: so they are as the stream shows
-- them, where the book is fed the tile as collecting and fetching show it
pub record MapAgrees (C : MapLayout) (m : List ℕ) (h : C.Header) (n : C.Entry) (t : StoredTile (C.format h)) (zoom : ℕ) (cs : List Call) : Type 0 where
  pub map : Opens C m h n
  pub opens : open_tile C h zoom m ≡ ok (fresh_tile C h n t zoom) t.start
  pub replies : run (stream (C.format h) m) (fresh_tile C h n t zoom) cs ≡ map_replies C h n t zoom cs
  pub shown :
      streamed_replies (C.view h) (run (stream (C.format h) m) (fresh_tile C h n t zoom) cs)
      ≡ book_replies (C.view h).collection (collected_tile (C.view h) t (C.end h n)) (rows_at C h zoom) cs

-- a byte that lies only in ways declined untried, as document 01 has it: and outside what opening reads
pub record OnlyDeclined (C : MapLayout) (m : List ℕ) (h : C.Header) (cs : List Call) (rs : List (Reply (StreamAnswer (C.format h)))) (j : ℕ) : Type 0 where
  pub declined : LiesIn j (declined_bytes (C.format h) cs rs)
  pub opened : LiesIn j (opened_bytes C m h) → ⊥

-- and in no point up to the zoom
pub record MapAlterable (C : MapLayout) (m : List ℕ) (h : C.Header) (t : StoredTile (C.format h)) (zoom : ℕ) (cs : List Call) (rs : List (Reply (StreamAnswer (C.format h)))) (j : ℕ) : Type 0 where
  pub only : OnlyDeclined C m h cs rs j
  pub points : LiesIn j (point_bytes (C.format h) m t (points_up_to t.head.table (rows_at C h zoom)) ∷ []) → ⊥

-- Both sentences of demand 3, for every zoom and every list of calls. The altered map's replies are the same ones: `map_replies` knows
-- nothing of the map. The second sentence is false as literally written, since the first-way offset may lead into the points
-- (proofs/Counterexample.antt). `altered` is the sentence of bytes that also lie in no point up to the zoom, `literal` the sentence itself,
-- where the offset leads behind these points. That no other byte could be altered is not said.
pub record Demand3 (C : MapLayout) (m : List ℕ) (h : C.Header) (n : C.Entry) (t : StoredTile (C.format h)) : Type 0 where
  pub agrees : (zoom : ℕ) (cs : List Call) → MapAgrees C m h n t zoom cs
  pub altered : (zoom : ℕ) (cs : List Call) (m' : List ℕ)
      → DifferOnly m m' (MapAlterable C m h t zoom cs (map_replies C h n t zoom cs)) → MapAgrees C m' h n t zoom cs
  pub literal : (zoom : ℕ) (cs : List Call) (m' : List ℕ) → WaysBehind (C.format h) m t (rows_at C h zoom)
      → DifferOnly m m' (OnlyDeclined C m h cs (map_replies C h n t zoom cs)) → MapAgrees C m' h n t zoom cs
