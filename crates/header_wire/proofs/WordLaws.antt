-- The layout that words say.
use mathlib.Core.Bool.{Bool}
use mathlib.Core.Path.{◌≡◌, refl}
use Prim.Native.Nat.{ℕ}
use mathlib.Core.List.{List}
use lib.ListN.{get_or}
use borrow.Author.Rules.{rules}
use Rattle.tile_layout.specs.declared.TileLayout.{TileLayout}
use Rattle.wire.specs.Wire.{truth}
use Rattle.header_wire.specs.Header.{layout_in}

pub layout-made : (l : List ℕ) (t : Bool) → t ≡ truth (get_or l 0 0) → ◌≡◌ {A = TileLayout} (record {
  debug = t;
  poi_tags = record { first = 0; count = get_or l 2 0 };
  way_tags = record { first = get_or l 2 0; count = get_or l 4 0 };
}) (layout_in l)
layout-made l t h = rw h refl

pub ruleset headers = (rules, layout-made)
