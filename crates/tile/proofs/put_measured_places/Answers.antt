use Rattle.tile.proofs.PlaceLaws.{way-more, way-stop}
use Rattle.tile.proofs.put_measured_places.Goals as goal

pub returns-in_default : goal.returns-in_default
returns-in_default c = way-stop _ _ _ _ _ _ _ _ c.loop-i.invariant _ _ _ c.in_default.ensures c.loop-i-test.true

pub loop-i-preserved : goal.loop-i-preserved
loop-i-preserved c = way-more _ _ _ _ _ _ _ _ c.loop-i.invariant _ _ c.in-Ok.ensures
