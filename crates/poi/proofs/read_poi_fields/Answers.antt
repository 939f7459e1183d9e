use Rattle.format.specs.Tile.{point_fields}
use Rattle.poi.proofs.PoiLaws.{fields-whole, reads}
use Rattle.poi.proofs.read_poi_fields.Goals as goal

pub returns-in_err-flags : goal.returns-in_err-flags
unfolding point_fields
returns-in_err-flags c = search reads depth 12 fits 5000

pub returns-in_err-name : goal.returns-in_err-name
unfolding point_fields
returns-in_err-name c = search reads depth 12 fits 5000

pub returns-in_err-house_number : goal.returns-in_err-house_number
unfolding point_fields
returns-in_err-house_number c = search reads depth 12 fits 5000

pub returns-in_err-elevation : goal.returns-in_err-elevation
unfolding point_fields
returns-in_err-elevation c = search reads depth 12 fits 5000

pub returns : goal.returns
returns c =
    fields-whole c.args.map.now c.args.at _ _ _ _ _ _ _ _
    c.in_ok-flags.ensures c.in_ok-name.ensures c.in_ok-house_number.ensures c.in_ok-elevation.ensures
