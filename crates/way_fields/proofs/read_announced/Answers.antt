use Rattle.format.specs.Tile.{way_fields}
use Rattle.way_fields.proofs.WayFieldLaws.{reads}
use Rattle.way_fields.proofs.read_announced.Goals as goal

pub returns-in_err-flags : goal.returns-in_err-flags
unfolding way_fields
returns-in_err-flags c = search reads depth 12 fits 5000

pub returns-in_err-name : goal.returns-in_err-name
unfolding way_fields
returns-in_err-name c = search reads depth 12 fits 5000

pub returns-in_err-house_number : goal.returns-in_err-house_number
unfolding way_fields
returns-in_err-house_number c = search reads depth 12 fits 5000

pub returns-in_err-reference : goal.returns-in_err-reference
unfolding way_fields
returns-in_err-reference c = search reads depth 12 fits 5000

pub returns-in_err-label : goal.returns-in_err-label
unfolding way_fields
returns-in_err-label c = search reads depth 12 fits 5000

pub returns : goal.returns
unfolding way_fields
returns c = search reads depth 12 fits 5000
