use Rattle.window.specs.Window.{window_tile}
use Rattle.index.proofs.AnswerLaws.{reads}
use Rattle.window.proofs.CountLaws.{no-columns, no_row, place_is, tile-found}
use Rattle.window.proofs.window_tile.Goals as goal
use Rattle.window.proofs.window_tile.Goals.{then-columns-lt1-via-then-columns-lt1, then-columns-lt1-via-else-columns-lt1+then-rows-k}

pub returns-in_err-grid_tiles : goal.returns-in_err-grid_tiles
unfolding window_tile
returns-in_err-grid_tiles c = search reads

pub returns-then-columns-lt1 : goal.returns-then-columns-lt1
returns-then-columns-lt1 c =
    elim c.then-columns-lt1.branch [
      | then-columns-lt1-via-then-columns-lt1 w ↦ no-columns _ _ _ c.in_ok-grid_tiles.ensures _ _ _ c.rows_of-rows.ensures.0 c.columns_of-columns.ensures.0 w.if-columns-lt1.true
      | then-columns-lt1-via-else-columns-lt1+then-rows-k w ↦
          no_row _ _ _ c.in_ok-grid_tiles.ensures _ _ _ c.rows_of-rows.ensures.0 c.columns_of-columns.ensures.0 w.if-columns-lt1.false w.if-rows-k.true
    ]

pub tile_at-requires : goal.tile_at-requires
tile_at-requires c =
    place_is _ _ _ c.in_ok-grid_tiles.ensures _ _ _ c.rows_of-rows.ensures.0 c.columns_of-columns.ensures.0 c.if-columns-lt1.false c.if-rows-k.false

pub returns : goal.returns
returns c =
    tile-found _ _ _ c.in_ok-grid_tiles.ensures _ _ _ c.rows_of-rows.ensures.0 c.columns_of-columns.ensures.0 _ c.if-columns-lt1.false c.if-rows-k.false c.tile_at.ensures
