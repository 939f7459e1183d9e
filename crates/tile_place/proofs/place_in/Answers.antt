use Rattle.index.proofs.AnswerLaws.{answer-up, tiles-small, tile-fits}
use Rattle.tile_place.proofs.PlaceLaws.{no-grid, no_tile, in-tile}
use Rattle.tile_place.proofs.place_in.Goals as goal

pub returns-in_err-tiles : goal.returns-in_err-tiles
returns-in_err-tiles c = answer-up (λ a. a) _ _ _ c.from_residual.ensures (no-grid _ _ _ _ _ _ c.in_err-tiles.ensures)

pub returns-then-tiles-tile : goal.returns-then-tiles-tile
returns-then-tiles-tile c = no_tile _ _ _ _ _ _ c.in_ok-tiles.ensures c.if-tiles-tile.true

pub overflow_cast-tile : goal.overflow_cast-tile
overflow_cast-tile c = tile-fits _ _ c.in_ok-tiles.ensures _ c.if-tiles-tile.false

pub place_of-requires : goal.place_of-requires
place_of-requires c = (c.if-tiles-tile.false, tiles-small _ _ c.in_ok-tiles.ensures)

pub returns : goal.returns
returns c = in-tile _ _ _ _ _ _ c.in_ok-tiles.ensures _ c.if-tiles-tile.false c.place_of.ensures
