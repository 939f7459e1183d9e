-- Which ways of a Mapsforge tile are selected: those that share a cell with the window (request 10) and that the rules show (request 9).
-- Either may be left out.
use Rattle.std.specs.Prelude.{ℕ, Bool, not, ◌&&◌, ◌||◌, List, take}
use Rattle.format.specs.Tile.{Head}
use Rattle.tagged.specs.TagIds.{tag_ids}
use Rattle.tagged.specs.declared.TagIds.{TagIds}
use Rattle.window.specs.Window.{shares_cell}
use Rattle.showing.specs.Showing.{shown}
use Rattle.selection.specs.declared.Selection.{Selection}

abbrev pub in_window : Selection → (bitmap : ℕ) → Bool
in_window w bitmap = not w.by_window || shares_cell bitmap w.mask

-- `classes` is the checked table
abbrev pub by_rules : Selection → (classes : List ℕ) → TagIds → Bool
by_rules w classes t = not w.by_rules || shown classes w.zoom (take t.count t.ids)

-- by bitmap and tag ids alone, as request 12 supposes
abbrev pub selects : Selection → (classes : List ℕ) → (bitmap : ℕ) → TagIds → Bool
selects w classes bitmap t = in_window w bitmap && by_rules w classes t

-- of a stored way
abbrev pub selected : Selection → (classes : List ℕ) → Head → Bool
selected w classes h = selects w classes h.bitmap (tag_ids h.tagged.ids)
