use borrow.Author.Rules.{rules}
use borrow.Author.Tests.{not-true, not-false}
use Rattle.tile_layout.specs.TileLayout.{tile_kinds}
use Rattle.tile.proofs.TileLaws.{no_place, place-ordered, at_place}
use Rattle.tile.proofs.CollectLaws.{collect-refused, collect-no, collect-same, collect-short, collect-done}
use Rattle.tile.proofs.collect.Goals as goal

pub returns-in_err-place : goal.returns-in_err-place
returns-in_err-place c = collect-refused _ _ _ _ _ c.from_residual.ensures (no_place _ _ _ _ _ _ c.in_err-place.ensures)

pub summarize-requires : goal.summarize-requires
summarize-requires c = place-ordered (tile_kinds c.args.format) _ _ _ _ _ c.in_ok-place.ensures

pub returns-in_err-summary : goal.returns-in_err-summary
returns-in_err-summary c =
    collect-no _ _ _ _ (at_place (tile_kinds c.args.format) _ _ _ _ _ c.in_ok-place.ensures c.well_formed.0.0) _ _ _ c.from_residual-in_err-summary.ensures c.in_err-summary.ensures

pub returns-then-not-has_room : goal.returns-then-not-has_room
returns-then-not-has_room c =
    collect-same _ _ _ _ (at_place (tile_kinds c.args.format) _ _ _ _ _ c.in_ok-place.ensures c.well_formed.0.0) _ _ _
    (collect-short _ _ _ _ _ _ (place-ordered (tile_kinds c.args.format) _ _ _ _ _ c.in_ok-place.ensures) _ _ c.in_ok-summary.ensures _ _ _
    c.has_room.ensures (search (rules, not-true)) c.too_short.ensures)

pub put_table-requires : goal.put_table-requires
put_table-requires c = place-ordered (tile_kinds c.args.format) _ _ _ _ _ c.in_ok-place.ensures

pub returns : goal.returns
returns c =
    collect-same _ _ _ _ (at_place (tile_kinds c.args.format) _ _ _ _ _ c.in_ok-place.ensures c.well_formed.0.0) _ _ _
    (collect-done _ _ _ _ _ _ (place-ordered (tile_kinds c.args.format) _ _ _ _ _ c.in_ok-place.ensures) _ _ c.in_ok-summary.ensures _ _ _
    c.has_room.ensures (search (rules, not-false)) c.put_places.ensures _ _ _ _ c.put_table.ensures)
