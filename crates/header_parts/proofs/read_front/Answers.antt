use Rattle.format.specs.Header.{front}
use Rattle.utils.proofs.NumberLaws.{reads}
use Rattle.header_parts.proofs.read_front.Goals as goal

pub returns-in_err-preamble : goal.returns-in_err-preamble
unfolding front
returns-in_err-preamble c = search reads

pub returns-in_err-bounding_box : goal.returns-in_err-bounding_box
unfolding front
returns-in_err-bounding_box c = search reads

pub returns-in_err-tile_size : goal.returns-in_err-tile_size
unfolding front
returns-in_err-tile_size c = search reads

pub returns-in_err-projection : goal.returns-in_err-projection
unfolding front
returns-in_err-projection c = search reads

pub returns-in_err-flags : goal.returns-in_err-flags
unfolding front
returns-in_err-flags c = search reads

pub returns : goal.returns
unfolding front
returns c = search reads
