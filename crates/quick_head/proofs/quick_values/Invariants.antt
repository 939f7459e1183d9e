use Prim.Native.Nat.{◌≤◌}
use mathlib.Core.Path.{◌≡◌}
use lib.ListN.{length, take, drop}
use Rattle.parsing.specs.Parse.{map_res}
use Rattle.format.specs.TagLists.{kinds_in}
use Rattle.format.specs.Tile.{values}
use Rattle.quick_head.specs.Quick.{are_plain}
use Rattle.quick_head.proofs.quick_values.Given as goal

abbrev pub invariant-loop-i : goal.invariant-loop-i
invariant-loop-i l =
    (l.next ≤ length l.map) × (map_res are_plain (values (kinds_in l.letters l.tags.first l.tags.count) (drop l.i (take l.count l.ids)) l.map l.next) ≡ map_res are_plain (values (kinds_in l.letters l.tags.first l.tags.count) (take l.count l.ids) l.map l.at))
