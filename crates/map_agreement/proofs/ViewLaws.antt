-- What the book says of a fetched feature is what the stream shows of the stored one.
use mathlib.Core.Path.{refl}
use mathlib.Core.Bool.{Bool}
use mathlib.Core.List.{List}
use Rattle.parsing.specs.Parse.{Part}
use Rattle.tag.specs.declared.Kind.{Kind}
use Rattle.agreement.specs.View.{ViewLaws}
use Rattle.map_agreement.specs.TileView.{tile_view}

pub tile-view : (debug : Bool) (poi_kinds way_kinds : List Kind) (poi_names way_names : List Part) → ViewLaws (tile_view debug poi_kinds way_kinds poi_names way_names)
tile-view debug poi_kinds way_kinds poi_names way_names = record {
  point = λ p. refl;
  head = λ w. refl;
  body = λ w. refl;
  lists = λ w. refl;
  note_point = λ p z. refl;
  note_head = λ h z. refl;
  note_body = λ b z. refl;
}
