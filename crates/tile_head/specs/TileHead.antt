-- A tile's head as it is handed out (document 01, tile.rs and visit.rs), from what is stored.
use Rattle.std.specs.Prelude.{ℕ, true}
use Rattle.parsing.specs.Parse.{none}
use Rattle.format.specs.Tile as format
use Rattle.types.specs.Types.{optional_span}
use Rattle.zoom_table.specs.Blocks.{zoom_sums}
use Rattle.tile_head.specs.declared.TileHead.{TileHead}

-- of a tile of the levels from low to high, at a zoom
abbrev pub head_at : (low high zoom : ℕ) → format.TileHead → TileHead
head_at low high zoom h = record { signature = optional_span h.signature; sums = zoom_sums low high zoom h.table; offset = h.offset; plain = h.plain }

-- What a private function makes, which need not be believed: the head of a tile that its index marks empty
abbrev pub no_features : TileHead
no_features = record { signature = optional_span none; sums = record { points = 0; ways = 0; all_points = 0; all_ways = 0 }; offset = 0; plain = true }
