-- Zooming in only adds (request 12, document 02), for a program in another language: `ZoomingIn` of map_agreement, by its words. Nothing
-- is supposed of collecting or of stored sizes, nor that layout, letters and interval are the map's own.
use Rattle.std.specs.Prelude.{ℕ, ◌^◌, ◌≤◌, ◌<◌, ◌≡◌, Bool, List, length, take}
use Rattle.format.specs.Lent.{LentLists}
use Rattle.format.specs.Rows.{rows_upto}
use Rattle.types.specs.Types.{grid_of}
use Rattle.types.specs.declared.Grid.{Grid}
use Rattle.tagged.specs.declared.TagIds.{TagIds}
use Rattle.poi.specs.declared.Poi.{Poi}
use Rattle.index.specs.Answers.{interval_found}
use Rattle.agreement.specs.Heads.{points_up_to, ways_up_to}
use Rattle.agreement.specs.TileFormat.{TileEnd}
use Rattle.wire.specs.Wire.{Wire, list_of, Crosses}
use Rattle.header_wire.specs.Header.{layout_in}
use Rattle.index_wire.specs.Index.{interval_in}
use Rattle.stream_wire.specs.Streams.{opened_wire}
use Rattle.stream_wire.specs.Codecs.{OpenedLent}
use Rattle.exports.specs.Calls.{StreamOf}
use Rattle.map_agreement.specs.ZoomingIn.{SeenWay, calls_of, replies_of, Decides, ZoomingIn}
use Rattle.word_agreement.specs.WordCalls.{WordCalled, WordStreams}

-- What the program saw at a zoom: the contract of `mapsforge_stream_open`, which returned 0, and those of the calls on the stream, one
-- after the other, to a good end. (No lent map has 2 ^ 64 bytes.)
pub record WordSaw (m : List ℕ) (sub_file : ℕ) (grid : Grid) (number zoom : ℕ) (layout letters interval : List ℕ) (rule : (bitmap : ℕ) → TagIds → Bool) (lists : List LentLists) (points : List Poi) (ways : List SeenWay) (z : TileEnd) : Type 0 where
  pub small : length m < 2 ^ 64
  pub before : Wire
  pub after : Wire
  pub lent : OpenedLent before
  pub opens : Crosses (opened_wire before) (StreamOf m sub_file number zoom (layout_in layout) (interval_in interval) grid) after
  pub opened : after.number ≡ 0
  pub decides : Decides rule lists ways
  pub calls : WordCalled m layout letters (list_of after 1) (calls_of points ways) (replies_of points ways z)

-- `says`: zooming in only adds (the tile's head, and how many points and ways its zoom table counts up to each zoom). `lower`: by its words
-- the program sees just these at every lower zoom, and the end that `says` names: the same but that it may say plain where this one does not.
pub record WordZooming (m : List ℕ) (sub_file : ℕ) (grid : Grid) (number zoom : ℕ) (layout letters interval : List ℕ) (rule : (bitmap : ℕ) → TagIds → Bool) (lists : List LentLists) (points : List Poi) (ways : List SeenWay) (z : TileEnd) : Type 0 where
  pub says : ZoomingIn m (layout_in layout) letters (interval_found (interval_in interval)) sub_file (grid_of grid) number zoom rule lists points ways z
  pub lower : (zoom' : ℕ) (le : zoom' ≤ zoom)
      → WordStreams m sub_file grid number zoom' layout letters interval
      (calls_of (take (points_up_to says.head.table (rows_upto says.place.interval.min says.place.interval.max zoom')) points)
      (take (ways_up_to says.head.table (rows_upto says.place.interval.min says.place.interval.max zoom')) ways))
      (replies_of (take (points_up_to says.head.table (rows_upto says.place.interval.min says.place.interval.max zoom')) points)
      (take (ways_up_to says.head.table (rows_upto says.place.interval.min says.place.interval.max zoom')) ways) (says.lower zoom' le).said)
