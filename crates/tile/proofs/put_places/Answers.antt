use Rattle.tile.proofs.PlaceLaws.{places-put}
use Rattle.tile.proofs.put_places.Goals as goal

pub returns : goal.returns
returns c = places-put _ _ c.well_formed.0.0 _ _ _ c.saturating_add_usize-first.ensures _ _ _ c.put_point_places.ensures c.put_way_places.ensures
