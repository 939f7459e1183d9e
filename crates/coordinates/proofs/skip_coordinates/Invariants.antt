use Prim.Native.Nat.{◌+◌, ◌-◌, ◌*◌, ◌≤◌}
use mathlib.Core.Path.{◌≡◌}
use lib.ListN.{length}
use Rattle.parsing.specs.Parse.{ok, map_res, many}
use Rattle.utils.specs.Vbe.{all_plain}
use Rattle.coordinates.specs.Skip.{short}
use Rattle.coordinates.proofs.skip_coordinates.Given as goal

abbrev pub invariant-loop : goal.invariant-loop
invariant-loop l =
    ((l.end ≤ l.n) × (l.next + 3 * (l.end - l.counter) ≤ length l.map)) × (map_res all_plain (many short (l.n - l.end + l.counter) l.map l.at) ≡ ok l.plain l.next)
