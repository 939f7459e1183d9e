-- A stream by window and rules (requests 9 and 10, document 02), for a program in another language: what it sees by its words is the stream that
-- crate selection drives, of which request 12 holds; and the lists of request 1, by its words, are long enough there.
use Rattle.std.specs.Prelude.{ℕ, ◌^◌, ◌≤◌, ◌<◌, ℤ, ◌≡◌, List, [], ◌∷◌, Float, length}
use Rattle.parsing.specs.Parse.{ok}
use Rattle.format.specs.Index.{answer, answered, Located, locate, tile_at}
use Rattle.format.specs.Lent.{LentLists}
use Rattle.format.specs.Rows.{rows_upto, located_head}
use Rattle.format.specs.Tile.{TileHead}
use Rattle.types.specs.Types.{grid_of}
use Rattle.types.specs.declared.Grid.{Grid}
use Rattle.poi.specs.declared.Poi.{Poi}
use Rattle.index.specs.Answers.{interval_found}
use Rattle.agreement.specs.Calls.{got_point, got_head, got_body, ended}
use Rattle.agreement.specs.TileFormat.{TileEnd, tile_end}
use Rattle.tile_layout.specs.TileLayout.{kinds_of, format_of}
use Rattle.zooming.specs.Zooming.{whole}
use Rattle.zooming.specs.TileEnds.{PlainToo}
use Rattle.visit.specs.Visit.{state_of, next_answer, accept_answer}
use Rattle.visit.specs.declared.StreamedHead.{StreamedHead}
use Rattle.visit.specs.declared.StreamedBody.{StreamedBody}
use Rattle.selection.specs.Driven.{DrivenFewer}
use Rattle.selection.specs.Selects.{selected}
use Rattle.selection.specs.TileDriven.{SeenWay, DroveWell}
use Rattle.wanted.specs.WantedSays.{WantedSays}
use Rattle.wanted.specs.DrivenLists.{Decided, WantedDriven}
use Rattle.wire.specs.Wire.{Wire, Lent, lending, list_of, Crosses}
use Rattle.header_wire.specs.Header.{layout_in}
use Rattle.index_wire.specs.Index.{interval_in}
use Rattle.stream_wire.specs.Streams.{stream_in, selection_in, opened_wire, next_wire, accept_wire}
use Rattle.stream_wire.specs.Codecs.{OpenedLent, opened_in, NextLent, next_in, AcceptLent, accept_in}
use Rattle.wanted_wire.specs.Figures.{wanted_wire}
use Rattle.wanted_wire.specs.Codecs.{wanted_in}
use Rattle.exports.specs.Calls.{StreamOf, SelectedOf, AcceptOf, WantedOf}

-- The contracts of `mapsforge_stream_next_selected`, call for call from these state words on, and of `mapsforge_stream_accept` for every way that it
-- gives, whatever other words were lent, to a good end. `select` and `classes` are what was handed in each time.
pub data WordDrove (m layout letters select classes : List ℕ) : (state : List ℕ) → (lists : List LentLists) → List Poi → List SeenWay → TileEnd → Type 0 where
  call-end : (words ids : List ℕ) (signed : List ℤ) (degrees : List Float) (after : Wire) {s : List ℕ} {z : TileEnd}
      → NextLent (lending (words ∷ ids ∷ s ∷ []) signed degrees)
      → Crosses (next_wire (lending (words ∷ ids ∷ s ∷ []) signed degrees)) (SelectedOf m letters classes (layout_in layout) (selection_in select) (stream_in s)) after
      → next_answer (next_in after).answer ≡ ended z → WordDrove m layout letters select classes s [] [] [] z
  call-point : (words ids : List ℕ) (signed : List ℤ) (degrees : List Float) (after : Wire) {s : List ℕ} {p : Poi} {ls : List LentLists} {ps : List Poi} {ws : List SeenWay} {z : TileEnd}
      → NextLent (lending (words ∷ ids ∷ s ∷ []) signed degrees)
      → Crosses (next_wire (lending (words ∷ ids ∷ s ∷ []) signed degrees)) (SelectedOf m letters classes (layout_in layout) (selection_in select) (stream_in s)) after
      → next_answer (next_in after).answer ≡ got_point p → WordDrove m layout letters select classes (list_of after 2) ls ps ws z
      → WordDrove m layout letters select classes s ls (p ∷ ps) ws z
  call-way : (words ids words' : List ℕ) (signed : List ℤ) (degrees degrees' : List Float) (after after' : Wire) (lists left : LentLists) {s : List ℕ} {h : StreamedHead} {b : StreamedBody} {ls : List LentLists} {ws : List SeenWay} {z : TileEnd}
      → NextLent (lending (words ∷ ids ∷ s ∷ []) signed degrees)
      → Crosses (next_wire (lending (words ∷ ids ∷ s ∷ []) signed degrees)) (SelectedOf m letters classes (layout_in layout) (selection_in select) (stream_in s)) after
      → next_answer (next_in after).answer ≡ got_head h
      → AcceptLent (lending (words' ∷ list_of after 2 ∷ []) [] degrees')
      → Crosses (accept_wire (lending (words' ∷ list_of after 2 ∷ []) [] degrees')) (AcceptOf m (stream_in (list_of after 2)) lists left) after'
      → accept_answer (accept_in after').answer ≡ got_body b → WordDrove m layout letters select classes (list_of after' 1) ls [] ws z
      → WordDrove m layout letters select classes s (lists ∷ ls) [] (whole h lists b left ∷ ws) z

-- What the program saw: the contract of `mapsforge_stream_open`, which returned 0, and those calls. (No lent map has 2 ^ 64 bytes.)
pub record WordDriven (m : List ℕ) (sub_file : ℕ) (grid : Grid) (number zoom : ℕ) (layout letters interval select classes : List ℕ) (lists : List LentLists) (points : List Poi) (ways : List SeenWay) (z : TileEnd) : Type 0 where
  pub small : length m < 2 ^ 64
  pub before : Wire
  pub after : Wire
  pub lent : OpenedLent before
  pub opens : Crosses (opened_wire before) (StreamOf m sub_file number zoom (layout_in layout) (interval_in interval) grid) after
  pub opened : after.number ≡ 0
  pub calls : WordDrove m layout letters select classes (list_of after 1) lists points ways z

-- Zooming in only adds to it (request 12). What it saw is what a driven stream of stored features shows. The tile has a head, at the place that its entry names; marked
-- empty, it has an empty one. At every lower zoom the stream opens, is driven well by the same window and rules with the first of the same lists,
-- and gives the first points, as many as the zoom table counts up to that zoom, clamped into the interval, and the first of the selected ways.
pub record WordDrivenAdds (m : List ℕ) (sub_file : ℕ) (grid : Grid) (number zoom : ℕ) (layout letters interval select classes state : List ℕ) (lists : List LentLists) (points : List Poi) (ways : List SeenWay) (z : TileEnd) : Type 0 where
  pub was : DroveWell m (kinds_of (layout_in layout) letters) (selection_in select) classes (state_of (stream_in state)) lists points ways z
  -- what window and rules decided, as a list of decisions that `mapsforge_wanted` may be asked by
  pub decided : Decided (format_of (kinds_of (layout_in layout) letters)) m (selected (selection_in select) classes) (state_of (stream_in state))
  pub place : Located
  pub located : answered (locate (layout_in layout).debug (interval_found (interval_in interval)) (grid_of grid) number m) ≡ answer place
  pub head : TileHead
  pub behind : ℕ
  pub read : located_head (layout_in layout).debug place m (tile_at place) ≡ ok head behind
  pub lower : (zoom' : ℕ) → zoom' ≤ zoom
      → DrivenFewer (located_head (layout_in layout).debug place) (format_of (kinds_of (layout_in layout) letters)) PlainToo m (selected (selection_in select) classes) (tile_at place) (tile_end sub_file place.entry.water) head
      (rows_upto place.interval.min place.interval.max zoom') lists was.points was.ways z

-- Request 1 by words: what `mapsforge_wanted` and `mapsforge_stream_open` wrote for the same tile and zoom, whatever was in the words before.
pub record WordWanted (m : List ℕ) (sub_file : ℕ) (grid : Grid) (number zoom : ℕ) (layout letters interval decisions : List ℕ) (wanted opened : Wire) : Type 0 where
  pub wanted_before : Wire
  pub wanted_lent : Lent (11 ∷ []) 0 0 wanted_before
  pub asks : Crosses (wanted_wire wanted_before) (WantedOf m letters decisions number zoom (layout_in layout) (interval_in interval) grid) wanted
  pub opened_before : Wire
  pub opened_lent : OpenedLent opened_before
  pub opens : Crosses (opened_wire opened_before) (StreamOf m sub_file number zoom (layout_in layout) (interval_in interval) grid) opened

-- what the program reads off them: the figures say what the stream wants, driven by the decisions, and by window and rules where the decisions are theirs
pub record WordWantedSays (m layout letters decisions : List ℕ) (wanted opened : Wire) : Type 0 where
  pub says : WantedSays (kinds_of (layout_in layout) letters) m decisions (wanted_in wanted) (opened_in opened)
  pub driven : WantedDriven (kinds_of (layout_in layout) letters) m decisions (wanted_in wanted) (opened_in opened)
