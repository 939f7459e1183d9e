-- The zoom intervals as the code holds them (document 01, types.rs: up to 255, in an array that is filled from the front).
use Rattle.std.specs.Prelude.{List, map as mapped, length, replicate}
use Rattle.format.specs.Lent.{front}
use Rattle.format.specs.Header.{Interval}
use Rattle.types.specs.declared.ZoomInterval.{ZoomInterval}
use Rattle.zoom_intervals.specs.declared.ZoomIntervals.{ZoomIntervals}

abbrev pub zoom_interval : Interval → ZoomInterval
zoom_interval z = record {
  base_zoom_level = z.base;
  min_zoom_level = z.min;
  max_zoom_level = z.max;
  sub_file_start = z.start;
  sub_file_size = z.size;
}

abbrev pub empty_interval : ZoomInterval
empty_interval = record {
  base_zoom_level = 0;
  min_zoom_level = 0;
  max_zoom_level = 0;
  sub_file_start = 0;
  sub_file_size = 0;
}

-- the intervals in front, empty ones behind them
unfoldable pub filled : List Interval → List ZoomInterval
filled l = front (mapped zoom_interval l) (replicate 255 empty_interval)

abbrev pub zoom_intervals : List Interval → ZoomIntervals
zoom_intervals l = record { count = length l; intervals = filled l }
