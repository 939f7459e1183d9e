use Rattle.quick_head.proofs.NodeLaws.{nodes}
use Rattle.quick_head.proofs.quick_node.Goals as goal

pub returns : goal.returns
returns c = search nodes
