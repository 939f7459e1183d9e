-- What a tile's features need besides their bytes: of the header the debug flag and the numbers of tags (document 01, header.rs), of the listed
-- tag strings the letters, by which inline values are skipped (request 3, document 02).
use Rattle.std.specs.Prelude.{ℕ, Bool, List}
use Rattle.format.specs.Header.{bit}
use Rattle.tag.specs.declared.Kind.{Kind}
use Rattle.types.specs.declared.MapHeader.{MapHeader}
use Rattle.types.specs.declared.TagTable.{TagTable}
use Rattle.tag_table.specs.Tables.{kinds_by}
use Rattle.agreement.specs.Format.{Format}
use Rattle.agreement.specs.TileFormat.{tile_format}
use Rattle.tile_layout.specs.declared.TileLayout.{TileLayout}
use Rattle.tile_layout.specs.declared.TileFormat.{TileFormat}

-- of the listed tag strings the point tags' are the first, and the way tags' stand behind them
abbrev pub layout_with : (flags : ℕ) (points ways : TagTable) → TileLayout
layout_with flags points ways = record {
  debug = bit 7 flags;
  poi_tags = record { first = 0; count = points.count };
  way_tags = record { first = points.count; count = ways.count };
}

abbrev pub layout_of : MapHeader → TileLayout
layout_of h = layout_with h.flags h.poi_tags h.way_tags

-- the debug flag, and the kinds of the point and way tags' inline values
pub record TileKinds : Type 0 where
  pub debug : Bool
  pub points : List Kind
  pub ways : List Kind

abbrev pub kinds_of : TileLayout → (letters : List ℕ) → TileKinds
kinds_of l letters = record { debug = l.debug; points = kinds_by letters l.poi_tags; ways = kinds_by letters l.way_tags }

-- the same of a format that is handed in
abbrev pub tile_kinds : TileFormat → TileKinds
tile_kinds f = kinds_of f.layout f.letters.now

abbrev pub format_of : TileKinds → Format
format_of k = tile_format k.debug k.points k.ways
