use Rattle.wire.proofs.CaseLaws.{values}
use Rattle.wire.proofs.value_of.Goals as goal

pub returns-in-UnsupportedVersion : goal.returns-in-UnsupportedVersion
returns-in-UnsupportedVersion c = search values

pub returns-in-InvalidTagId : goal.returns-in-InvalidTagId
returns-in-InvalidTagId c = search values

pub returns-in-IndexCutOff : goal.returns-in-IndexCutOff
returns-in-IndexCutOff c = search values

pub returns-in-TileHeadCutOff : goal.returns-in-TileHeadCutOff
returns-in-TileHeadCutOff c = search values

pub returns-in_default : goal.returns-in_default
returns-in_default c = search values
