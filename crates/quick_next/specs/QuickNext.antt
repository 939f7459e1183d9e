-- What a quick read hands out, as an answer of the stream's next.
use Rattle.std.specs.Prelude.{ℕ, Bool, true, false, not, cond, ◌&&◌, List, ltb, None, Ok, option_map}
use Rattle.format.specs.Elevation.{low32}
use Rattle.types.specs.Types.{position_of}
use Rattle.tile_layout.specs.declared.TileLayout.{TileLayout}
use Rattle.visit.specs.declared.Turn.{Turn}
use Rattle.visit.specs.declared.Turn.TheVariants as turn
use Rattle.visit.specs.declared.Stream.{Stream}
use Rattle.visit.specs.declared.TileEnd.{TileEnd}
use Rattle.visit.specs.Visit.{NextStep}
use Rattle.visit.specs.declared.Given.TheVariants as given
use Rattle.quick_point.specs.declared.QuickPoint.{QuickPoint}
use Rattle.quick_next.specs.declared.WayStep.{WayStep}
use Rattle.quick_next.specs.declared.PointStep.{PointStep}

-- a point or a way is left, none waits, and the map is no debug map
abbrev pub is_left : Turn → Bool
is_left (turn.Idle r) = cond (ltb 0 r.points) true (ltb 0 r.ways)
is_left (turn.Waits w) = false

abbrev pub is_quick : TileLayout → Stream → Bool
is_quick l s = not l.debug && is_left s.turn

-- what was read, with the tag ids, as a next's answer
abbrev pub way_step : WayStep → (ids : List ℕ) → NextStep
way_step r ids = record {
  answer = Ok (given.Way (record { bitmap = r.bitmap; layer = r.layer; tag_ids = record { ids = ids; count = r.count }; plain = true }));
  stream = r.stream;
}

-- what the end says, of a stream that stays as it is
abbrev pub end_step : TileEnd → Stream → NextStep
end_step e s = record { answer = Ok (given.End e); stream = s }

abbrev pub point_step : PointStep → (ids : List ℕ) → NextStep
point_step r ids = record {
  answer = Ok (given.Point (record {
    signature = None;
    position = r.position;
    layer = r.layer;
    tag_ids = record { ids = ids; count = r.count };
    name = r.name;
    house_number = r.house_number;
    elevation = r.elevation;
    plain = true;
  }));
  stream = r.stream;
}

-- a point that was read
abbrev pub given_point : QuickPoint → Stream → PointStep
given_point p s = record {
  «stream» = s;
  position = position_of p.node.latitude.0 p.node.longitude.0;
  name = p.fields.name;
  house_number = p.fields.house;
  elevation = option_map low32 p.fields.elevation;
  count = p.tags.count;
  layer = p.tags.layer;
}
