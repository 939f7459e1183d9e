use Rattle.initial_positions.proofs.InitialLaws.{positions}
use Rattle.initial_positions.proofs.write_initials.Goals as goal

pub returns : goal.returns
returns c = search positions
