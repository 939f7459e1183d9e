use Rattle.std.proofs.lemmas.Result.{err_from_is_err_and}
use Rattle.fetch_way.proofs.DeliverLaws.{ids-in, refused_as, way-fetched}
use Rattle.fetch_way.proofs.fetch_way.Goals as goal

pub returns-in_err-measured : goal.returns-in_err-measured
returns-in_err-measured c =
    let p = err_from_is_err_and c.from_residual.result c.from_residual.ensures.1 in
    rw (p.1, p.2)
    (refused_as
    c.args.debug c.args.lists.starts.now c.args.lists.letters.now c.args.tags c.args.map.now c.args.at
    c.args.node_counts.now c.args.latitudes.now c.args.longitudes.now c.args.initial_latitudes.now c.args.initial_longitudes.now c.args.buffer.now
    _ c.in_err-measured.ensures)

pub write_texts-requires : goal.write_texts-requires
write_texts-requires c = ids-in _ _ _ _ _ _ _ _ _ c.in_ok-measured.ensures

pub returns : goal.returns
returns c =
    way-fetched
    c.args.debug c.args.lists.starts.now c.args.lists.letters.now c.args.tags c.args.map.now c.args.at
    c.args.node_counts.now c.args.latitudes.now c.args.longitudes.now c.args.initial_latitudes.now c.args.initial_longitudes.now c.args.buffer.now
    c.in_ok-measured.measured
    c.in_ok-measured.next
    c.in_ok-measured.ensures
    c.write_lists.new.node_counts c.write_lists.new.latitudes c.write_lists.new.longitudes c.write_lists.new.initial_latitudes c.write_lists.new.initial_longitudes
    c.write_texts.new.buffer
    c.write_lists.ensures
    c.write_texts.ensures
