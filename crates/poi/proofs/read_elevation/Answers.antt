use Rattle.poi.proofs.PoiLaws.{elevations}
use Rattle.poi.proofs.read_elevation.Goals as goal

pub returns-then-not-flag : goal.returns-then-not-flag
returns-then-not-flag c = search elevations

pub returns-in_err-number : goal.returns-in_err-number
returns-in_err-number c = search elevations

pub returns : goal.returns
returns c = search elevations
