use native.Mathlib.Omega.{arith}
use Rattle.way_data.proofs.NodeLaws.{nodes, later_more}
use Rattle.way_data.proofs.write_later.Goals as goal

pub next_node-last-requires : goal.next_node-last-requires
next_node-last-requires c = search nodes

pub loop-pos-preserved : goal.loop-pos-preserved
loop-pos-preserved c =
    later_more _ _ _ _ _ _ _ _ _ _ _ c.loop-pos.invariant _ _ _ _ (omega arith) c.known_node-after.ensures c.next_node-last.ensures
