use Rattle.window.specs.Window.{window_count}
use Rattle.index.proofs.AnswerLaws.{reads}
use Rattle.window.proofs.CountLaws.{product-fits, count-answer}
use Rattle.window.proofs.window_count.Goals as goal

pub returns-in_err-grid_tiles : goal.returns-in_err-grid_tiles
unfolding window_count
returns-in_err-grid_tiles c = search reads

pub overflow_mul-result : goal.overflow_mul-result
overflow_mul-result c = product-fits _ _ c.in_ok-grid_tiles.ensures _ _ c.rows_of-rows.ensures.1 c.columns_of-columns.ensures.1

pub returns : goal.returns
returns c = count-answer _ _ _ c.in_ok-grid_tiles.ensures _ _ c.rows_of-rows.ensures.0 c.columns_of-columns.ensures.0
