use Rattle.format.specs.Header.{header}
use Rattle.byte_source.proofs.ReadLaws.{reads}
use Rattle.header.proofs.read_fields.Goals as goal

pub returns-in_err-front : goal.returns-in_err-front
unfolding header
returns-in_err-front c = search reads

pub returns-in_err-options : goal.returns-in_err-options
unfolding header
returns-in_err-options c = search reads

pub returns : goal.returns
unfolding header
returns c = search reads
