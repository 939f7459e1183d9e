use Rattle.std.proofs.lemmas.Result.{err_from_is_err_and}
use Rattle.measured_way.proofs.MeasureLaws.{body-no, body-on}
use Rattle.measured_way.proofs.measure_body.Goals as goal

pub returns-in_err-body : goal.returns-in_err-body
returns-in_err-body c =
    let p = err_from_is_err_and c.from_residual.result c.from_residual.ensures.1 in
    rw (p.1, p.2) (body-no _ _ _ _ _ _ _ _ c.in_err-body.ensures)

pub returns : goal.returns
returns c = body-on _ _ _ _ _ _ _ _ _ _ c.in_ok-body.ensures c.tell_way.ensures
