use Rattle.format.specs.Header.{versioned}
use Rattle.header_fields.proofs.FieldLaws.{reads}
use Rattle.header_fields.proofs.read_versioned.Goals as goal

pub returns-in_err-header_size : goal.returns-in_err-header_size
unfolding versioned
returns-in_err-header_size c = search reads

pub returns-in_err-file_version : goal.returns-in_err-file_version
unfolding versioned
returns-in_err-file_version c = search reads

pub returns-then-file_version-lt3 : goal.returns-then-file_version-lt3
unfolding versioned
returns-then-file_version-lt3 c = search reads

pub returns-in_err-file_size : goal.returns-in_err-file_size
unfolding versioned
returns-in_err-file_size c = search reads

pub returns-in_err-creation_date : goal.returns-in_err-creation_date
unfolding versioned
returns-in_err-creation_date c = search reads

pub returns : goal.returns
unfolding versioned
returns c = search reads
