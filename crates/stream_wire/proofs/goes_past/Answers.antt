use Rattle.stream_wire.proofs.PastLaws.{passing}
use Rattle.stream_wire.proofs.goes_past.Goals as goal

pub returns : goal.returns
returns c = search passing
