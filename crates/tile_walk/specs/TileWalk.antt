-- The walk over a tile's points and ways: whether every stored size is the decoded length (document 01, "The stream and the collected
-- tile"), and whether every number was plain (request 6 of document 02).
use Rattle.std.specs.Prelude.{ℕ, List, Bool}
use Rattle.parsing.specs.Parse.{Res, map_res, many}
use Rattle.agreement.specs.Collected.{Way, way, exact, all_exact, plain_way, plain_points, plain_ways}
use Rattle.tile_layout.specs.TileLayout.{TileKinds, format_of}
use Rattle.tile_walk.specs.declared.WaysSaid.{WaysSaid}

-- whether every number of n points was plain
abbrev pub plain_of : TileKinds → List ℕ → (n at : ℕ) → Res Bool
plain_of l m n at = map_res (plain_points (format_of l)) (many (format_of l).point n m at)

-- what is said of one way, and of n ways
abbrev pub said_of : (l : TileKinds) → Way (format_of l) → WaysSaid
said_of l w = record { exact = exact w; plain = plain_way w }

abbrev pub said_of_all : (l : TileKinds) → List (Way (format_of l)) → WaysSaid
said_of_all l ws = record { exact = all_exact ws; plain = plain_ways ws }

abbrev pub said_way : TileKinds → List ℕ → (at : ℕ) → Res WaysSaid
said_way l m at = map_res (said_of l) (way (format_of l) m at)

abbrev pub said_ways : TileKinds → List ℕ → (n at : ℕ) → Res WaysSaid
said_ways l m n at = map_res (said_of_all l) (many (way (format_of l)) n m at)
