use Rattle.std.proofs.Common.{refl}
use Rattle.text.specs.Utf8.{follow, sequence_by, sequences_from, codes_of}
use Rattle.text.specs.Hash.{hash_from}
use Rattle.tag.proofs.TagLaws.{tags}
use Rattle.tag.proofs.key_code.Goals as goal

pub returns-in-Name : goal.returns-in-Name
unfolding follow sequence_by sequences_from codes_of hash_from
returns-in-Name c = search tags

pub returns-in-HouseNumber : goal.returns-in-HouseNumber
unfolding follow sequence_by sequences_from codes_of hash_from
returns-in-HouseNumber c = rw c.in-HouseNumber.is refl

pub returns-in-Ref : goal.returns-in-Ref
unfolding follow sequence_by sequences_from codes_of hash_from
returns-in-Ref c = search tags
