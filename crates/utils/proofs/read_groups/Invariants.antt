use Rattle.std.proofs.Common.{◌≡◌, ◌+◌, ◌-◌}
use Rattle.parsing.specs.Parse.{map_res}
use Rattle.utils.specs.Vbe.{groups}
use Rattle.utils.proofs.VbeLaws.{Room, above}
use Rattle.utils.proofs.read_groups.Given as goal

abbrev pub invariant-loop-i : goal.invariant-loop-i
invariant-loop-i l =
    Room l.v l.w (9 - l.i) × (map_res (above l.v l.w) (groups l.last (9 - l.i) l.map (l.at + l.i)) ≡ groups l.last 9 l.map l.at)
