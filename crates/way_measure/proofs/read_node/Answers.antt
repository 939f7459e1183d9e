use Rattle.format.specs.WayData.{node}
use Rattle.way_measure.proofs.MeasureLaws.{measures}
use Rattle.way_measure.proofs.read_node.Goals as goal

pub returns-in_err-latitude : goal.returns-in_err-latitude
unfolding node
returns-in_err-latitude c = search measures

pub returns-in_err-longitude : goal.returns-in_err-longitude
unfolding node
returns-in_err-longitude c = search measures

pub returns : goal.returns
unfolding node
returns c = search measures
