use Rattle.index.proofs.AnswerLaws.{reads, tile-inside}
use Rattle.index.proofs.grid_index.Goals as goal

pub row_major-requires : goal.row_major-requires
row_major-requires c = tile-inside _ _ c.in_ok-grid_tiles.ensures _ _ _ c.in_grid.ensures (search reads)
