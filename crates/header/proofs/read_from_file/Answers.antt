use Rattle.header.proofs.HeaderLaws.{whole_read}
use Rattle.header.proofs.read_from_file.Goals as goal

pub returns : goal.returns
returns c = whole_read _ _ _ _ (λ h e q. q) c.read_fields.ensures c.with_intervals.ensures
