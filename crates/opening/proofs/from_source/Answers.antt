use Rattle.opening.proofs.OpeningLaws.{source-is}
use Rattle.opening.proofs.from_source.Goals as goal

pub returns : goal.returns
returns c = source-is _ _ _ c.open_fields.ensures c.with_intervals.ensures
