use Rattle.way_data.proofs.CoordinateLaws.{coordinates}
use Rattle.way_data.proofs.known_node.Goals as goal

pub known_coordinate-next-requires : goal.known_coordinate-next-requires
known_coordinate-next-requires c = search coordinates

pub known_coordinate-next-requires-2 : goal.known_coordinate-next-requires-2
known_coordinate-next-requires-2 c = search coordinates

pub returns : goal.returns
returns c = search coordinates
