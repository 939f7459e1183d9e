use Rattle.utils.proofs.VbeLaws.{ones}
use Rattle.utils.proofs.read_vbe_u_int.Goals as goal

pub returns-then-map-at : goal.returns-then-map-at
returns-then-map-at c = search ones

pub returns-then-b-lt128 : goal.returns-then-b-lt128
returns-then-b-lt128 c = search ones
