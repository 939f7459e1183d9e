use Rattle.std.proofs.lemmas.Result.{err_from_is_err_and}
use Rattle.format.specs.WayData.{data_block, way_data}
use Rattle.way_data.specs.Writes.{data_block_alone}
use Rattle.way_data.proofs.AloneLaws.{many-alone, data_block-alone}
use Rattle.way_data.proofs.ReplyLaws.{reply-no, reply-short, reply-fit, reply-done}
use Rattle.way_data.proofs.read_way_data.Goals as goal

pub returns-then-shorter : goal.returns-then-shorter
unfolding way_data
returns-then-shorter c =
    reply-short _ _ _ _ c.in_ok-sizes.sizes c.in_ok-sizes.end (way_data c.args.data_blocks c.args.map.now c.args.at) c.in_ok-sizes.ensures _ c.shorter.ensures _ c.if-shorter.true c.too_short.ensures

pub write_way_data-requires : goal.write_way_data-requires
unfolding way_data
write_way_data-requires c =
    reply-fit c.args.double _ _ _ c.in_ok-sizes.sizes c.in_ok-sizes.end (way_data c.args.data_blocks c.args.map.now c.args.at) c.in_ok-sizes.ensures _ c.shorter.ensures _ (many-alone data_block data_block_alone data_block-alone c.args.data_blocks c.args.map.now c.args.at) _ c.if-shorter.false

pub returns : goal.returns
unfolding way_data
returns c =
    reply-done _ _ _ _ c.in_ok-sizes.sizes c.in_ok-sizes.end (way_data c.args.data_blocks c.args.map.now c.args.at) c.in_ok-sizes.ensures _ c.shorter.ensures _ (many-alone data_block data_block_alone data_block-alone c.args.data_blocks c.args.map.now c.args.at) c.args.at c.write_way_data.result _ _ _ c.if-shorter.false c.write_way_data.ensures

pub returns-in_err-sizes : goal.returns-in_err-sizes
unfolding way_data
returns-in_err-sizes c =
    let p = err_from_is_err_and c.from_residual.result c.from_residual.ensures.1 in
    rw (p.1, p.2) (reply-no _ _ _ _ (way_data c.args.data_blocks c.args.map.now c.args.at) _ c.in_err-sizes.ensures)
