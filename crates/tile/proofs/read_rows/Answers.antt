use native.Mathlib.Omega.{arith}
use Rattle.tile.proofs.RowLaws.{rows-zero, rows-no, rows_then}
use Rattle.tile.proofs.read_rows.Goals as goal

pub returns-then-place : goal.returns-then-place
returns-then-place c =
    rows-zero c.args.place.empty c.args.debug c.args.place.min_zoom c.args.place.max_zoom c.args.map.now c.args.place.at c.if-place.true (omega arith)

pub returns-in_err-at : goal.returns-in_err-at
returns-in_err-at c =
    rows-no c.args.place.empty c.args.debug c.args.place.min_zoom c.args.place.max_zoom c.args.map.now c.args.place.at c.if-place.false _ _ c.from_residual.ensures c.in_err-at.ensures

pub returns : goal.returns
returns c =
    rows_then c.args.place.empty c.args.debug c.args.place.min_zoom c.args.place.max_zoom c.args.map.now c.args.place.at c.if-place.false _ _ _ c.in_ok-at.ensures c.read_zoom_table.ensures
