use Prim.Native.Nat.{◌-◌}
use Rattle.parsing.specs.Parse.{map_res, many}
use Rattle.format.specs.WayData.{concat}
use Rattle.way_data.specs.Writes.{one_block}
use Rattle.way_data.proofs.BlockLaws.{BlocksLeft}
use Rattle.way_data.proofs.write_blocks.Given as goal

abbrev pub invariant-loop : goal.invariant-loop
invariant-loop l =
    BlocksLeft l.double (map_res concat (many one_block l.n l.map l.initial.place.next)) l.initial.place l.initial.counts l.initial.latitudes l.initial.longitudes
    (map_res concat (many one_block (l.n - l.counter) l.map l.place.next)) l.place l.counts l.latitudes l.longitudes
