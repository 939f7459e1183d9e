-- What the inner functions answer, by the arguments of the exported ones.
use Rattle.error.specs.declared.LentRefusal.{LentRefusal}
use Rattle.error.specs.declared.Refusal.{Refusal}
use Rattle.index.specs.declared.TileIndexEntry.{TileIndexEntry}
use Rattle.tile.specs.declared.TileSummary.{TileSummary}
use Rattle.wanted.specs.declared.WantedFigures.{WantedFigures}
use Rattle.types.specs.declared.ZoomInterval.{ZoomInterval}
use Rattle.std.specs.Prelude.{ℕ, ℤ, ◌≡◌, Bool, true, false, List, length, Option, Result}
use Rattle.byte_source.specs.Answers.{read_by, part_in}
use Rattle.format.specs.Index.{tile_count, tile_index_of, tile_index_entry}
use Rattle.format.specs.Header.{opened}
use Rattle.format.specs.Lent.{LentLists}
use Rattle.format.specs.TagLists.{TagLists, listed_text}
use Rattle.types.specs.declared.Grid.{Grid}
use Rattle.types.specs.declared.TagRange.{TagRange}
use Rattle.tag_table.specs.Tables.{kinds_by}
use Rattle.opening.specs.Opening.{ListedIs}
use Rattle.types.specs.declared.HeaderFields.{HeaderFields}
use Rattle.format.specs.BodyLists.{body_lists}
use Rattle.format.specs.Tile.{kind_at, body}
use Rattle.agreement.specs.Stream.{on_next, on_accept, on_decline}
use Rattle.agreement.specs.TileFormat.{whole_body, note_body}
use Rattle.tile_layout.specs.TileLayout.{kinds_of, format_of}
use Rattle.tile_layout.specs.declared.TileLayout.{TileLayout}
use Rattle.visit.specs.Visit.{state_of, open_tile, open_res, shown_step, NextIs, accept_step, decline_step, NextStep, Accepted, Declined}
use Rattle.selection.specs.Selected.{selected_next, skipped_next}
use Rattle.selection.specs.Selects.{selected}
use Rattle.selection.specs.declared.Selection.{Selection}
use Rattle.visit.specs.declared.Stream.{Stream}
use Rattle.types.specs.Types.{grid_of}
use Rattle.index.specs.Answers.{interval_found, maybe, maybe_by, answer_by, answer_res, held_res}
use Rattle.tile.specs.Tile.{collect_tile, tile_places, TileLists, CollectIs}
use Rattle.fetched.specs.Fetched.{FetchLists}
use Rattle.fetch.specs.Fetch.{fetch_listed, FeatureIs}
use Rattle.fetched.specs.declared.Feature.{Feature}
use Rattle.format.specs.IntervalTable.{row_at, row_holding}
use Rattle.types.specs.declared.IntervalTable.{IntervalTable}
use Rattle.showing.specs.Showing.{checked_res, checked, After}
use Rattle.showing.specs.declared.RulesRefusal.{RulesRefusal}
use Rattle.wanted.specs.Wanted.{wanted_tile}
use Rattle.index_wire.specs.Index.{Named}
use Rattle.window.specs.Window.{window_count, window_tile}
use Rattle.window.specs.Answers.{rectangle_of, touched_of}
use Rattle.window.specs.declared.Window.{Window}
use Rattle.window.specs.declared.WindowTile.{WindowTile}

abbrev pub grid_in : (x_min y_min x_max y_max : ℤ) → Grid
grid_in a b c d = record { x_min = a; y_min = b; x_max = c; y_max = d }

abbrev pub window_in : (left top right bottom : ℤ) → Window
window_in a b c d = record { left = a; top = b; right = c; bottom = d }

-- the header, and what opening leaves of the lent lists
abbrev pub OpenOf : (m : List ℕ) → (lent left : TagLists) → Result (HeaderFields × ℕ) LentRefusal → Type 0
OpenOf m lent left a = ListedIs (opened m) lent a left

abbrev pub tags_from : (first count : ℕ) → TagRange
tags_from f n = record { first = f; count = n }

-- tag k of a range of the listed tags: the text at its start, and the kind of its inline value by its letter
pub record TagIs (starts letters : List ℕ) (t : TagRange) (k : ℕ) (m : List ℕ) (a : Named) : Type 0 where
  pub text : read_by (part_in m) a.text ≡ listed_text starts t.first t.count k m
  pub kind : a.kind ≡ kind_at (kinds_by letters t) k

-- a stream's calls: the machine of crate agreement
abbrev pub NextOf : (m letters : List ℕ) → TileLayout → Stream → NextStep → Type 0
NextOf m letters l s a = NextIs (shown_step (on_next (format_of (kinds_of l letters)) m (state_of s))) a

-- what the quick readers did: they gave the answer, or left everything as it was
abbrev pub QuickOf : Bool → (Given Left : Type 0) → Type 0
QuickOf true Given Left = Given
QuickOf false Given Left = Left

abbrev pub SelectedOf : (m letters classes : List ℕ) → TileLayout → Selection → Stream → NextStep → Type 0
SelectedOf m letters classes l c s a = NextIs (shown_step (selected_next (format_of (kinds_of l letters)) m (selected c classes) (state_of s))) a

abbrev pub SkipOf : (m letters : List ℕ) → TileLayout → Stream → NextStep → Type 0
SkipOf m letters l s a = NextIs (shown_step (skipped_next (format_of (kinds_of l letters)) m (state_of s))) a

abbrev pub AcceptOf : (m : List ℕ) → Stream → (lent left : LentLists) → Accepted → Type 0
AcceptOf m s lent left a = accept_step a left.counts left.latitudes left.longitudes ≡ shown_step (on_accept body body_lists whole_body note_body m (state_of s) lent)

abbrev pub DeclineOf : Stream → Declined → Type 0
DeclineOf s a = decline_step a ≡ shown_step (on_decline (state_of s))

-- what the header says of sub files, by where its intervals stand
abbrev pub RowOf : (m : List ℕ) → (sub_file : ℕ) → IntervalTable → Result (Option ZoomInterval) Refusal → Type 0
RowOf m s t a = answer_by interval_found a ≡ row_at t.start t.count s m

abbrev pub SubFileOf : (m : List ℕ) → (zoom : ℕ) → IntervalTable → Result (Option ℕ) Refusal → Type 0
SubFileOf m zoom t a = answer_by maybe a ≡ row_holding zoom 0 t.count m t.start

-- what is asked of a sub file, by its interval and a grid: its tiles, a tile's number, a tile's entry
abbrev pub CountOf : Option ZoomInterval → Grid → Result (Option ℕ) Refusal → Type 0
CountOf i g a = answer_by maybe a ≡ tile_count (interval_found i) (grid_of g)

abbrev pub IndexOf : (x y : ℤ) → Option ZoomInterval → Grid → Result (Option ℕ) Refusal → Type 0
IndexOf x y i g a = answer_by maybe a ≡ tile_index_of (interval_found i) (grid_of g) x y

abbrev pub EntryOf : (m : List ℕ) → (number : ℕ) → TileLayout → Option ZoomInterval → Grid → Result TileIndexEntry Refusal → Type 0
EntryOf m t l i g a = answer_res a ≡ held_res (tile_index_entry l.debug (interval_found i) (grid_of g) t m)

-- the tiles that a window touches
abbrev pub WindowCountOf : Window → Grid → Result ℕ Refusal → Type 0
WindowCountOf w g a = answer_res a ≡ window_count (grid_of g) (rectangle_of w)

abbrev pub WindowTileOf : (k : ℕ) → Window → Grid → Result (Option WindowTile) Refusal → Type 0
WindowTileOf k w g a = answer_by (maybe_by touched_of) a ≡ window_tile (grid_of g) (rectangle_of w) k

-- a tile's stream, the collected tile, and a feature of it
abbrev pub StreamOf : (m : List ℕ) → (sub_file number zoom : ℕ) → TileLayout → Option ZoomInterval → Grid → Result Stream Refusal → Type 0
StreamOf m s t zoom l i g a = open_res a ≡ open_tile l (interval_found i) s (grid_of g) t zoom m

abbrev pub TileOf : (m letters : List ℕ) → (number : ℕ) → (lent left : TileLists) → TileLayout → Option ZoomInterval → Grid → Result TileSummary LentRefusal → Type 0
TileOf m letters t lent left l i g a =
    CollectIs (collect_tile (kinds_of l letters) (interval_found i) (grid_of g) t m) (tile_places (kinds_of l letters) (interval_found i) (grid_of g) t m) lent a left

abbrev pub FeatureOf : (m starts letters places : List ℕ) → (points ways k : ℕ) → (lent left : FetchLists) → TileLayout → Result Feature LentRefusal → Type 0
FeatureOf m starts letters places points ways k lent left l a = FeatureIs (fetch_listed l starts letters places points ways k m) lent a left

-- showing rules that are checked, and what the check leaves of the lent table
pub record RulesOf (tags : ℕ) (rules lent left : List ℕ) (a : Result (Unit {0}) RulesRefusal) : Type 0 where
  pub answer : checked_res a ≡ checked tags rules (length lent)
  pub table : After (checked_res a) rules lent left

-- what a tile's stream will want, by a list of decisions
abbrev pub WantedOf : (m letters decisions : List ℕ) → (number zoom : ℕ) → TileLayout → Option ZoomInterval → Grid → Result WantedFigures Refusal → Type 0
WantedOf m letters ds t zoom l i g a = answer_res a ≡ wanted_tile l letters (interval_found i) (grid_of g) t zoom ds m
