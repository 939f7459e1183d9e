use mathlib.Core.Path.{ap, ◌∙◌}
use Rattle.parsing.specs.Parse.{ok}
use Rattle.error.specs.Refusals.{refused}
use Rattle.byte_source.proofs.ReadLaws.{handed-up}
use Rattle.way.proofs.WayLaws.{measure-no-fields, measured}
use Rattle.way.proofs.measure_way_body.Goals as goal

pub returns-in_err-fields : goal.returns-in_err-fields
returns-in_err-fields c =
    handed-up _ _ _ _ c.from_residual.ensures (measure-no-fields _ _ _ c.in_err-fields.ensures)

pub returns-in_err-sizes : goal.returns-in_err-sizes
returns-in_err-sizes c =
    handed-up _ _ _ _ c.from_residual-in_err-sizes.ensures (measured _ _ _ _ c.in_ok-fields.ensures (refused c.in_err-sizes.field-0.0) c.in_err-sizes.ensures)

pub returns : goal.returns
returns c =
    ap (λ b. ok b c.in_ok-sizes.at) c.body_with.ensures ∙ measured _ _ _ _ c.in_ok-fields.ensures (ok c.in_ok-sizes.sizes c.in_ok-sizes.at) c.in_ok-sizes.ensures
