use Rattle.way_data.proofs.CoordinateLaws.{coordinates, long-no}
use Rattle.way_data.proofs.long_coordinate.Goals as goal

pub returns-in_default : goal.returns-in_default
returns-in_default c = long-no _ _ c.requires _ _ _ c.in_default.ensures

pub returns : goal.returns
returns c = search coordinates
