use Prim.Native.Nat.{◌≤◌}
use mathlib.Core.Path.{◌≡◌}
use mathlib.Core.Bool.{true}
use lib.ListN.{length}
use Rattle.parsing.specs.Parse.{ok, many, map_res}
use Rattle.utils.specs.Vbe.{noted}
use Rattle.format.specs.Tile.{tag_id}
use Rattle.quick_head.specs.Quick.{filled}
use Rattle.quick_head.proofs.quick_ids.Given as goal

abbrev pub invariant-loop-i : goal.invariant-loop-i
invariant-loop-i l =
    (l.next ≤ length l.map) × (map_res (filled l.initial.ids) (many (tag_id l.tags) l.i l.map l.at) ≡ ok (noted l.ids true) l.next)
