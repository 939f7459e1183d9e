-- What demand 3 supposes of a whole map, for one tile of one sub file: document 01, tile.rs and "Order for a tile". The header, the
-- index signatures and the tile's entry are read first, and fix where the tile is and how it is stored.
use Rattle.std.specs.Prelude.{List, [], ◌∷◌, map, ℕ}
use Rattle.parsing.specs.Parse.{Res, ok, Parser, and_then}
use Rattle.parsing.specs.Good.{Good}
use Rattle.format.specs.Rows.{rows_upto}
use Rattle.format.specs.Tile.{TileHead}
use Rattle.agreement.specs.Format.{Format, Laws}
use Rattle.agreement.specs.Stream.{StreamState, open_stream}
use Rattle.agreement.specs.Collected.{StoredTile, collect}
use Rattle.agreement.specs.View.{View, ViewLaws}
use Rattle.agreement.specs.Declined.{Bytes, passed_bytes}

pub record MapLayout : Type 1 where
  pub Header : Type 0
  pub Entry : Type 0
  -- the file header, at the map's start
  pub header : Parser Header
  -- an index signature, and where such signatures stand (in debug maps, at each sub file's start)
  pub signature : Parser Unit
  pub signatures_at : Header → List ℕ
  -- the tile's entry, and where it stands; sub file, grid, tile number and interval are checked with it
  pub entry : Header → Parser Entry
  pub entry_at : Header → ℕ
  -- where the tile starts, how its head and its features are stored, and its sub file's zoom interval
  pub tile_at : Header → Entry → ℕ
  pub tile_head : Header → Entry → Parser TileHead
  pub format : Header → Format
  pub low : Header → ℕ
  pub high : Header → ℕ
  -- what the stream's end answers if no feature is read, and what is shown of each feature
  pub end : (h : Header) → Entry → TileHead → (format h).End
  pub view : (h : Header) → View (format h)

pub record MapLaws (C : MapLayout) : Type 0 where
  pub header : Good C.header
  pub signature : Good C.signature
  pub entry : (h : C.Header) → Good (C.entry h)
  pub tile_head : (h : C.Header) (n : C.Entry) → Good (C.tile_head h n)
  pub format : (h : C.Header) → Laws (C.format h)
  pub view : (h : C.Header) → ViewLaws (C.view h)

-- a signature at each of these places
abbrev pub signatures : Parser Unit → List ℕ → List ℕ → Res Unit
signatures p [] m = ok tt 0
signatures p (i ∷ l) m = and_then (p m i) (λ _ _. signatures p l m)

-- opening a map: its header, then the index signatures; the place is the one behind the header
abbrev pub open_map : (C : MapLayout) → List ℕ → Res C.Header
open_map C m = and_then (C.header m 0) (λ h e. and_then (signatures C.signature (C.signatures_at h) m) (λ _ _. ok h e))

-- the header as opening reads it, the tile's entry, and the index signatures
abbrev pub opened_bytes : (C : MapLayout) → List ℕ → C.Header → List Bytes
opened_bytes C m h =
    passed_bytes C.header m 0 ∷ passed_bytes (C.entry h) m (C.entry_at h) ∷ map (λ i. passed_bytes C.signature m i) (C.signatures_at h)

-- the rows that count at a zoom
abbrev pub rows_at : (C : MapLayout) → C.Header → (zoom : ℕ) → ℕ
rows_at C h zoom = rows_upto (C.low h) (C.high h) zoom

-- opening the tile's stream at a zoom, and collecting the tile, in a map that was opened with header h
abbrev pub open_tile : (C : MapLayout) (h : C.Header) → (zoom : ℕ) → List ℕ → Res (StreamState (C.format h))
open_tile C h zoom m =
    and_then (C.entry h m (C.entry_at h)) (λ n _. open_stream (C.tile_head h n) (rows_at C h zoom) (C.end h n) m (C.tile_at h n))

abbrev pub collect_tile : (C : MapLayout) (h : C.Header) → List ℕ → Res (StoredTile (C.format h))
collect_tile C h m = and_then (C.entry h m (C.entry_at h)) (λ n _. collect (C.tile_head h n) (C.format h) m (C.tile_at h n))
