-- Request 8 (document 02): "a fetch through that list reads only the one feature .. and equals the full fetch, for the map and tile that filled
-- it". The list is the one that collecting filled, and the counts are those that it gave.
use Rattle.std.specs.Prelude.{ℕ, cond, ◌≡◌, List, ltb, length, get_or}
use Rattle.parsing.specs.Parse.{Maybe}
use Rattle.format.specs.Header.{Interval}
use Rattle.format.specs.Index.{Grid}
use Rattle.agreement.specs.Format.{Format}
use Rattle.agreement.specs.Collected.{way, StoredTile}
use Rattle.agreement.specs.Declined.{Bytes, passed_bytes}
use Rattle.tile_layout.specs.declared.TileLayout.{TileLayout}
use Rattle.tile.specs.Tile.{feature_places}
use Rattle.fetch.specs.Fetch.{fetch_tile, fetch_listed}

pub record Direct (l : TileLayout) (starts letters : List ℕ) (i : Maybe Interval) (grid : Grid) (number : ℕ) (m : List ℕ) (points ways : ℕ) (places : List ℕ) : Type 0 where
  pub same : (k : ℕ) → fetch_listed l starts letters places points ways k m ≡ fetch_tile l starts letters i grid number k m

-- the bytes of feature k, from its place to its end
abbrev pub feature_bytes : (F : Format) → List ℕ → StoredTile F → (k : ℕ) → Bytes
feature_bytes F m t k =
    cond (ltb k (length t.points)) (passed_bytes F.point m (get_or (feature_places F m t) k 0)) (passed_bytes (way F) m (get_or (feature_places F m t) k 0))
