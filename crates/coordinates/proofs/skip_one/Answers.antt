use Rattle.coordinates.proofs.SkipLaws.{skips}
use Rattle.coordinates.proofs.skip_one.Goals as goal

pub returns-then-a-lt128 : goal.returns-then-a-lt128
returns-then-a-lt128 c = search skips

pub returns-then-b-lt128 : goal.returns-then-b-lt128
returns-then-b-lt128 c = search (skips, c.type_inv.map)

pub returns-then-c-lt128 : goal.returns-then-c-lt128
returns-then-c-lt128 c = search (skips, c.type_inv.map)

pub returns : goal.returns
returns c = search skips
