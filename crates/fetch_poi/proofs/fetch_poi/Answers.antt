use Rattle.std.proofs.lemmas.Result.{err_from_is_err_and}
use Rattle.fetch_poi.proofs.PoiLaws.{fetch-no, ids-in, ids-sized, fetch-on}
use Rattle.fetch_poi.proofs.fetch_poi.Goals as goal

pub returns-in_err-poi : goal.returns-in_err-poi
returns-in_err-poi c =
    let p = err_from_is_err_and c.from_residual.result c.from_residual.ensures.1 in
    rw (p.1, p.2) (fetch-no c.args.debug c.args.lists.starts.now c.args.lists.letters.now c.args.tags c.args.map.now c.args.at _ _ c.in_err-poi.ensures)

pub slice_bounds-ids-end : goal.slice_bounds-ids-end
slice_bounds-ids-end c = ids-in c.args.debug c.args.lists.starts.now c.args.lists.letters.now c.args.tags c.args.map.now c.args.at _ _ c.in_ok-poi.ensures

pub slice_bounds-write_poi-end : goal.slice_bounds-write_poi-end
slice_bounds-write_poi-end c = ids-sized c.args.debug c.args.lists.starts.now c.args.lists.letters.now c.args.tags c.args.map.now c.args.at _ _ c.in_ok-poi.ensures

pub returns : goal.returns
returns c = fetch-on c.args.debug c.args.lists.starts.now c.args.lists.letters.now c.args.tags c.args.map.now c.args.at _ _ c.in_ok-poi.ensures _ _ _ c.write_poi.ensures
