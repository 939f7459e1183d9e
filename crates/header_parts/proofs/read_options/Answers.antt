use Rattle.format.specs.Header.{options}
use Rattle.utils.proofs.NumberLaws.{reads}
use Rattle.header_parts.proofs.read_options.Goals as goal

pub returns-in_err-start_position : goal.returns-in_err-start_position
unfolding options
returns-in_err-start_position c = search reads

pub returns-in_err-start_zoom_level : goal.returns-in_err-start_zoom_level
unfolding options
returns-in_err-start_zoom_level c = search reads

pub returns-in_err-language_preference : goal.returns-in_err-language_preference
unfolding options
returns-in_err-language_preference c = search reads

pub returns-in_err-comment : goal.returns-in_err-comment
unfolding options
returns-in_err-comment c = search reads

pub returns-in_err-created_by : goal.returns-in_err-created_by
unfolding options
returns-in_err-created_by c = search reads

pub returns : goal.returns
unfolding options
returns c = search reads
