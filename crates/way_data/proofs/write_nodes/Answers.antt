use Rattle.way_data.proofs.NodeLaws.{nodes}
use Rattle.way_data.proofs.write_nodes.Goals as goal

pub first_node-first-requires : goal.first_node-first-requires
first_node-first-requires c = search nodes
