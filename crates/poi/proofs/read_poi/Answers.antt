use Rattle.std.proofs.Common.{◌<◌, ◌^◌, rules}
use lib.Signed.{mag}
use Rattle.format.specs.Tile.{point}
use Rattle.poi.proofs.PoiLaws.{poi-whole, points}
use Rattle.poi.proofs.read_poi.Goals as goal

pub returns-in_err-signature : goal.returns-in_err-signature
unfolding point
returns-in_err-signature c = search points depth 12

pub returns-in_err-position : goal.returns-in_err-position
unfolding point
returns-in_err-position c = search points depth 12

pub returns-in_err-tagged : goal.returns-in_err-tagged
unfolding point
returns-in_err-tagged c = search points depth 12

pub returns-in_err-fields : goal.returns-in_err-fields
unfolding point
returns-in_err-fields c = search points depth 12

pub returns : goal.returns
returns c =
    let m : mag c.in_ok-tagged.tagged.layer < 2 ^ 7 = search rules in
    poi-whole c.args.map.now c.args.debug _ c.args.at _ _ _ _ _ _ _ _
    c.in_ok-signature.ensures c.in_ok-position.ensures c.in_ok-tagged.ensures c.in_ok-fields.ensures m
