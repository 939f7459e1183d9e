use Rattle.tile.proofs.PlaceLaws.{point-more, point-stop}
use Rattle.tile.proofs.put_point_places.Goals as goal

pub returns-in_default : goal.returns-in_default
returns-in_default c = point-stop _ _ _ _ _ _ _ _ c.loop-i.invariant _ _ _ c.in_default.ensures c.loop-i-test.true

pub loop-i-preserved : goal.loop-i-preserved
loop-i-preserved c = point-more _ _ _ _ _ _ _ _ c.loop-i.invariant _ _ c.in-Ok.ensures
