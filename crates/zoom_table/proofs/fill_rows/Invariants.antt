use Rattle.std.proofs.Common.{◌≡◌}
use Rattle.parsing.specs.Parse.{ok, many, map_res}
use Rattle.format.specs.Tile.{row}
use Rattle.zoom_table.proofs.BlockLaws.{filled}
use Rattle.zoom_table.proofs.fill_rows.Given as goal

abbrev pub invariant-loop-i : goal.invariant-loop-i
invariant-loop-i l = map_res filled (many row l.i l.map l.at) ≡ ok l.rows l.next
