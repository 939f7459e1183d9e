use Rattle.std.proofs.lemmas.Result.{err_from_is_err_and}
use Rattle.std.specs.Prelude.{Ok, Err}
use Rattle.byte_source.proofs.ReadLaws.{met}
use Rattle.way.proofs.WayLaws.{read-no-fields, delivered}
use Rattle.way.proofs.read_way_body.Goals as goal

pub returns-in_err-fields : goal.returns-in_err-fields
returns-in_err-fields c =
    let p = err_from_is_err_and c.from_residual.result c.from_residual.ensures.1 in
    rw (p.1, p.2) (read-no-fields _ _ _ _ _ _ c.in_err-fields.ensures)

pub returns-in_err-sizes : goal.returns-in_err-sizes
returns-in_err-sizes c = rw (met c.from_residual-in_err-sizes.ensures) (delivered _ _ _ _ c.in_ok-fields.ensures (Err c.in_err-sizes.field-0.0) _ _ _ _ _ _ c.in_err-sizes.ensures)

pub returns : goal.returns
returns c = rw c.body_with.ensures (delivered _ _ _ _ c.in_ok-fields.ensures (Ok (c.in_ok-sizes.sizes, c.in_ok-sizes.at)) _ _ _ _ _ _ c.in_ok-sizes.ensures)
