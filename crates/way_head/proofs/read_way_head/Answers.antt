use Rattle.std.proofs.Common.{◌<◌, ◌^◌, rules}
use lib.Signed.{mag}
use Rattle.format.specs.Tile.{head, head_rest}
use Rattle.way_head.proofs.HeadLaws.{head-whole, heads}
use Rattle.way_head.proofs.read_way_head.Goals as goal

pub returns-in_err-signature : goal.returns-in_err-signature
unfolding head head_rest
returns-in_err-signature c = search heads depth 12

pub returns-in_err-size : goal.returns-in_err-size
unfolding head head_rest
returns-in_err-size c = search heads depth 12

pub returns-in_err-bitmap : goal.returns-in_err-bitmap
unfolding head head_rest
returns-in_err-bitmap c = search heads depth 12

pub returns-in_err-tagged : goal.returns-in_err-tagged
unfolding head head_rest
returns-in_err-tagged c = search heads depth 12

pub returns : goal.returns
returns c =
    let m : mag c.in_ok-tagged.tagged.layer < 2 ^ 7 = search rules in
    head-whole c.args.map.now c.args.debug _ c.args.at _ _ _ _ _ _ _ _
    c.in_ok-signature.ensures c.in_ok-size.ensures c.in_ok-bitmap.ensures c.in_ok-tagged.ensures m
