use Prim.Native.Nat.{◌-◌}
use lib.Seq.{sets}
use Rattle.parsing.specs.Parse.{many, end_of, list_of}
use Rattle.way_data.specs.Writes.{node_alone, later}
use Rattle.way_data.proofs.NodeLaws.{NodesLeft}
use Rattle.way_data.proofs.write_later.Given as goal

abbrev pub invariant-loop-pos : goal.invariant-loop-pos
invariant-loop-pos l =
    NodesLeft l.double l.map l.next (l.pos-end - l.pos) l.last l.pos l.latitudes l.longitudes (end_of (many node_alone l.n l.map l.at))
    (sets l.initial.latitudes l.from (later l.double l.initial.last (list_of (many node_alone l.n l.map l.at))).lats)
    (sets l.initial.longitudes l.from (later l.double l.initial.last (list_of (many node_alone l.n l.map l.at))).lons)
