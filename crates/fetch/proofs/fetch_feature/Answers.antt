use Rattle.std.specs.Prelude.{Ok, Err}
use Rattle.std.proofs.lemmas.Result.{err_from_is_err_and}
use Rattle.fetch_way.specs.FetchWay.{lent}
use Rattle.fetch.proofs.FetchLaws.{nowhere, point-fetched, way-fetched}
use Rattle.fetch.proofs.fetch_feature.Goals as goal

pub returns-in_err-place : goal.returns-in_err-place
returns-in_err-place c =
    let p = err_from_is_err_and c.from_residual.result c.from_residual.ensures.1 in
    rw (p.1, p.2)
    (nowhere
    c.args.layout c.args.lists.starts.now c.args.lists.letters.now c.args.places.now c.args.points c.args.ways c.args.feature c.args.map.now
    c.args.node_counts.now c.args.latitudes.now c.args.longitudes.now c.args.initial_latitudes.now c.args.initial_longitudes.now c.args.buffer.now
    _ c.in_err-place.ensures)

pub returns-in_err-poi-in-Point : goal.returns-in_err-poi-in-Point
returns-in_err-poi-in-Point c =
    let p = err_from_is_err_and c.from_residual-in_err-poi-in-Point.result c.from_residual-in_err-poi-in-Point.ensures.1 in
    rw (p.1, p.2)
    (point-fetched
    c.args.layout c.args.lists.starts.now c.args.lists.letters.now c.args.places.now c.args.points c.args.ways c.args.feature c.args.map.now
    c.args.node_counts.now c.args.latitudes.now c.args.longitudes.now c.args.initial_latitudes.now c.args.initial_longitudes.now c.args.buffer.now
    c.in_ok-place.place c.in_ok-place.ensures c.in-Point.at c.in-Point.is (Err _) c.fetch_poi.new.buffer c.in_err-poi-in-Point.ensures)

pub returns-in_ok-poi-in-Point : goal.returns-in_ok-poi-in-Point
returns-in_ok-poi-in-Point c =
    point-fetched
    c.args.layout c.args.lists.starts.now c.args.lists.letters.now c.args.places.now c.args.points c.args.ways c.args.feature c.args.map.now
    c.args.node_counts.now c.args.latitudes.now c.args.longitudes.now c.args.initial_latitudes.now c.args.initial_longitudes.now c.args.buffer.now
    c.in_ok-place.place c.in_ok-place.ensures c.in-Point.at c.in-Point.is (Ok (c.in_ok-poi-in-Point.poi, _)) c.fetch_poi.new.buffer c.in_ok-poi-in-Point.ensures

pub returns-in_err-way-in-Way : goal.returns-in_err-way-in-Way
returns-in_err-way-in-Way c =
    let p = err_from_is_err_and c.from_residual-in_err-way-in-Way.result c.from_residual-in_err-way-in-Way.ensures.1 in
    rw (p.1, p.2)
    (way-fetched
    c.args.layout c.args.lists.starts.now c.args.lists.letters.now c.args.places.now c.args.points c.args.ways c.args.feature c.args.map.now
    c.args.node_counts.now c.args.latitudes.now c.args.longitudes.now c.args.initial_latitudes.now c.args.initial_longitudes.now c.args.buffer.now
    c.in_ok-place.place c.in_ok-place.ensures c.in-Way.at c.in-Way.is (Err _)
    (lent c.fetch_way.new.node_counts c.fetch_way.new.latitudes c.fetch_way.new.longitudes c.fetch_way.new.initial_latitudes c.fetch_way.new.initial_longitudes c.fetch_way.new.buffer)
    c.in_err-way-in-Way.ensures)

pub returns-in_ok-way-in-Way : goal.returns-in_ok-way-in-Way
returns-in_ok-way-in-Way c =
    way-fetched
    c.args.layout c.args.lists.starts.now c.args.lists.letters.now c.args.places.now c.args.points c.args.ways c.args.feature c.args.map.now
    c.args.node_counts.now c.args.latitudes.now c.args.longitudes.now c.args.initial_latitudes.now c.args.initial_longitudes.now c.args.buffer.now
    c.in_ok-place.place c.in_ok-place.ensures c.in-Way.at c.in-Way.is (Ok (c.in_ok-way-in-Way.way, _))
    (lent c.fetch_way.new.node_counts c.fetch_way.new.latitudes c.fetch_way.new.longitudes c.fetch_way.new.initial_latitudes c.fetch_way.new.initial_longitudes c.fetch_way.new.buffer)
    c.in_ok-way-in-Way.ensures
