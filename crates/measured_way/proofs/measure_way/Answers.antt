use Rattle.std.proofs.lemmas.Result.{err_from_is_err_and}
use Rattle.measured_way.proofs.MeasureLaws.{head-no, ids-in, ids-sized, head-on}
use Rattle.measured_way.proofs.measure_way.Goals as goal

pub returns-in_err-head : goal.returns-in_err-head
returns-in_err-head c =
    let p = err_from_is_err_and c.from_residual.result c.from_residual.ensures.1 in
    rw (p.1, p.2) (head-no c.args.debug c.args.lists.starts.now c.args.lists.letters.now c.args.tags c.args.room c.args.map.now c.args.at _ c.in_err-head.ensures)

pub slice_bounds-ids-end : goal.slice_bounds-ids-end
slice_bounds-ids-end c = ids-in c.args.debug c.args.lists.starts.now c.args.lists.letters.now c.args.tags c.args.room c.args.map.now c.args.at _ _ c.in_ok-head.ensures

pub slice_bounds-measure_body-end : goal.slice_bounds-measure_body-end
slice_bounds-measure_body-end c = ids-sized c.args.debug c.args.lists.starts.now c.args.lists.letters.now c.args.tags c.args.room c.args.map.now c.args.at _ _ c.in_ok-head.ensures

pub returns : goal.returns
returns c = head-on c.args.debug c.args.lists.starts.now c.args.lists.letters.now c.args.tags c.args.room c.args.map.now c.args.at _ _ c.in_ok-head.ensures _ c.measure_body.ensures
