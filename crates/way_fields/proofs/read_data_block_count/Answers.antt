use Rattle.format.specs.Tile.{data_block_count}
use Rattle.utils.proofs.NumberLaws.{reads}
use Rattle.way_fields.proofs.read_data_block_count.Goals as goal

pub returns-then-flags-eq1 : goal.returns-then-flags-eq1
unfolding data_block_count
returns-then-flags-eq1 c = search reads

pub returns : goal.returns
unfolding data_block_count
returns c = search reads
