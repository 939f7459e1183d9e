use Rattle.byte_source.proofs.ReadLaws.{reads}
use Rattle.format.specs.Tile.{tag_id}
use Rattle.tagged.proofs.read_tag_id.Goals as goal

pub returns-in_err-id : goal.returns-in_err-id
unfolding tag_id
returns-in_err-id c = search reads

pub returns-then-tags-id : goal.returns-then-tags-id
unfolding tag_id
returns-then-tags-id c = search reads

pub returns : goal.returns
unfolding tag_id
returns c = search reads
