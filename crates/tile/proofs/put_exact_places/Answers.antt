use Rattle.tile.proofs.PlaceLaws.{exact-more, exact-stop}
use Rattle.tile.proofs.put_exact_places.Goals as goal

pub returns-in_default : goal.returns-in_default
returns-in_default c = exact-stop _ _ _ _ _ _ _ _ _ c.loop-i.invariant _ _ c.in_default.ensures c.loop-i-test.true c.well_formed.0.0

pub loop-i-preserved : goal.loop-i-preserved
loop-i-preserved c = exact-more _ _ _ _ _ _ _ _ _ c.loop-i.invariant _ c.in-Ok.ensures c.loop-i-test.true c.well_formed.0.0
