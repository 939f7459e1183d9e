use Rattle.index.proofs.SubFileLaws.{files, file-missing}
use Rattle.index.proofs.interval_of.Goals as goal

pub returns-then-header-sub_file : goal.returns-then-header-sub_file
returns-then-header-sub_file c = file-missing _ _ _ c.if-header-sub_file.true

pub returns : goal.returns
returns c = search files
