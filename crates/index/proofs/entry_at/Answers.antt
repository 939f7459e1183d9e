use Rattle.index.proofs.EntryLaws.{entry-cut}
use Rattle.index.proofs.entry_at.Goals as goal

pub returns : goal.returns
returns c = entry-cut _ _ _ _ _ c.well_formed.0.0 c.entry_place.ensures c.read_entry.ensures
