use borrow.Author.Rules.{rules}
use borrow.Author.Tests.{not-true, not-false}
use Rattle.tile_layout.specs.TileLayout.{tile_kinds}
use Rattle.tile.proofs.TileLaws.{no_place, place-ordered, at_place}
use Rattle.tile.proofs.CollectLaws.{tile-refused, tile-no, tile-same, tile-short, rows-there, read_done}
use Rattle.tile.proofs.read_tile.Goals as goal

pub returns-in_err-place : goal.returns-in_err-place
returns-in_err-place c = tile-refused _ _ _ _ _ c.from_residual.ensures (no_place _ _ _ _ _ _ c.in_err-place.ensures)

pub summarize-requires : goal.summarize-requires
summarize-requires c = place-ordered (tile_kinds c.args.format) _ _ _ _ _ c.in_ok-place.ensures

pub returns-in_err-summary : goal.returns-in_err-summary
returns-in_err-summary c =
    tile-no _ _ _ _ (at_place (tile_kinds c.args.format) _ _ _ _ _ c.in_ok-place.ensures c.well_formed.0.0) _ _ _ c.from_residual-in_err-summary.ensures c.in_err-summary.ensures

pub returns-then-not-has_room : goal.returns-then-not-has_room
returns-then-not-has_room c =
    tile-same _ _ _ _ (at_place (tile_kinds c.args.format) _ _ _ _ _ c.in_ok-place.ensures c.well_formed.0.0) _ _
    (tile-short _ _ _ _ _ _ (place-ordered (tile_kinds c.args.format) _ _ _ _ _ c.in_ok-place.ensures) _ _ c.in_ok-summary.ensures _ _ _
    c.has_room.ensures (search (rules, not-true)) c.too_short.ensures)

pub read_rows-requires : goal.read_rows-requires
read_rows-requires c = place-ordered (tile_kinds c.args.format) _ _ _ _ _ c.in_ok-place.ensures

pub returns-in_err-table : goal.returns-in_err-table
returns-in_err-table c = rows-there _ _ _ _ _ _ (place-ordered (tile_kinds c.args.format) _ _ _ _ _ c.in_ok-place.ensures) _ _ c.in_ok-summary.ensures _ c.in_err-table.ensures

pub returns : goal.returns
returns c =
    tile-same _ _ _ _ (at_place (tile_kinds c.args.format) _ _ _ _ _ c.in_ok-place.ensures c.well_formed.0.0) _ _
    (read_done _ _ _ _ _ _ (place-ordered (tile_kinds c.args.format) _ _ _ _ _ c.in_ok-place.ensures) _ _ c.in_ok-summary.ensures _ _ _
    c.has_room.ensures (search (rules, not-false)) c.put_places.ensures _ _ c.in_ok-table.ensures)
