use Rattle.format.specs.Tile.{tagged}
use Rattle.byte_source.proofs.ReadLaws.{reads}
use Rattle.tagged.proofs.read_tagged.Goals as goal

pub returns-in_err-special : goal.returns-in_err-special
unfolding tagged
returns-in_err-special c = search reads

pub returns : goal.returns
unfolding tagged
returns c = search reads
