use mathlib.Core.Path.{◌≡◌}
use Rattle.parsing.specs.Parse.{ok, many, map_res}
use Rattle.utils.specs.Vbe.{values_of}
use Rattle.format.specs.Tile.{row}
use Rattle.tile.proofs.RowLaws.{put_points, put_ways}
use Rattle.tile.proofs.put_rows.Given as goal

abbrev pub invariant-loop-i : goal.invariant-loop-i
invariant-loop-i l =
    (map_res (λ rows. put_points l.initial.points (values_of rows)) (many row l.i l.map l.at) ≡ ok l.points l.next) × (map_res (λ rows. put_ways l.initial.ways (values_of rows)) (many row l.i l.map l.at) ≡ ok l.ways l.next)
