-- The records that are handed out, from what is stored (document 01, types.rs).
use Rattle.std.specs.Prelude.{ℕ, ℤ, List, map as mapped, take, Option, Some, None}
use Rattle.parsing.specs.Parse.{Part, Maybe, none, some}
use Rattle.byte_source.specs.declared.Span.{Span}
use Rattle.byte_source.specs.Answers.{part_in}
use Rattle.utils.specs.Degree.{degrees}
use Rattle.format.specs.Header.{Interval}
use Rattle.format.specs.WayData.{Node}
use Rattle.format.specs.Index.{Grid as TileGrid}
use Rattle.types.specs.declared.Position.{Position}
use Rattle.types.specs.declared.ZoomInterval.{ZoomInterval}
use Rattle.types.specs.declared.MapHeader.{MapHeader}
use Rattle.types.specs.declared.Grid.{Grid}

-- a zoom interval that the code holds
abbrev pub interval_of : ZoomInterval → Interval
interval_of z = record {
  base = z.base_zoom_level;
  min = z.min_zoom_level;
  max = z.max_zoom_level;
  start = z.sub_file_start;
  size = z.sub_file_size;
}

abbrev pub intervals_of : MapHeader → List Interval
intervals_of h = mapped interval_of (take h.num_zoom_intervals h.zoom_interval_configuration)

abbrev pub grid_of : Grid → TileGrid
grid_of g = record { x_min = g.x_min; y_min = g.y_min; x_max = g.x_max; y_max = g.y_max }

-- two stored coordinates in degrees
abbrev pub position_of : ℤ → ℤ → Position
position_of latitude longitude = record { latitude = degrees latitude; longitude = degrees longitude }

abbrev pub node_position : Node → Position
node_position n = position_of n.latitude n.longitude

-- a position is either absent or given as degrees
abbrev pub optional_position : Maybe Node → Option Position
optional_position none = None
optional_position (some n) = Some (node_position n)

-- where a part of the map is
abbrev pub span_of : Part → Span
span_of p = record { start = p.start; size = p.size }

abbrev pub optional_span : Maybe Part → Option Span
optional_span none = None
optional_span (some p) = Some (span_of p)

-- and back: the part of the map m that it is
abbrev pub maybe_part : List ℕ → Option Span → Maybe Part
maybe_part m None = none
maybe_part m (Some s) = some (part_in m s)

abbrev pub optional_byte : Maybe ℕ → Option ℕ
optional_byte none = None
optional_byte (some b) = Some b
