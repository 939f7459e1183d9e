use mathlib.Core.Path.{refl}
use Rattle.tile.proofs.RowLaws.{zeros-put, no-signature, signature-past}
use Rattle.tile.proofs.put_table.Goals as goal

pub returns-then-place : goal.returns-then-place
returns-then-place c =
    zeros-put c.args.place.empty c.args.debug c.args.place.min_zoom c.args.place.max_zoom c.args.map.now c.args.place.at _ _ _ _ _ c.if-place.true refl c.put_zeros.ensures

pub returns-in_default : goal.returns-in_default
returns-in_default c =
    no-signature c.args.place.empty c.args.debug c.args.place.min_zoom c.args.place.max_zoom c.args.map.now c.args.place.at _ _ _ _ c.if-place.false _ c.in_default.ensures

pub returns : goal.returns
returns c =
    signature-past c.args.place.empty c.args.debug c.args.place.min_zoom c.args.place.max_zoom c.args.map.now c.args.place.at _ _ _ _ c.if-place.false _ _ _ c.requires c.in-Ok.ensures refl c.put_rows.ensures
