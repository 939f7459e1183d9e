use Rattle.opening.proofs.ListingLaws.{boths}
use Rattle.opening.proofs.list_both.Goals as goal

pub returns : goal.returns
returns c = search boths
