-- A Mapsforge map meets what demand 3 asks of a map, and what opening, streaming and collecting read is what it says.
use Prim.Native.Nat.{ℕ}
use mathlib.Core.Path.{◌≡◌, refl}
use mathlib.Core.Bool.{Bool}
use mathlib.Core.List.{List, []}
use Rattle.parsing.specs.Parse.{no, Maybe, none, some}
use Rattle.parsing.specs.Good.{Good}
use Rattle.parsing.proofs.GoodLaws.{goods}
use Rattle.format.specs.Header.{Interval, header-good, signature-good, debug}
use Rattle.format.specs.Index.{in_sub_file, answered, Grid, entry_at, Located, located, locate_in, located-good}
use Rattle.format.specs.Rows.{marked_head-good}
use Rattle.agreement.specs.MapLayout.{MapLaws}
use Rattle.agreement.proofs.TileFormatLaws.{tile-laws}
use Rattle.map_agreement.specs.MapsforgeMap.{of_interval, interval, mapsforge}
use Rattle.map_agreement.proofs.ViewLaws.{tile-view}

entry-good : (g : Grid) (number : ℕ) (r : Maybe Interval) → Good {A = Located} (λ m i. in_sub_file r (no 8 []) (λ z. located g number z m i))
entry-good g number none = search goods
entry-good g number (some z) = located-good g number z

pub mapsforge-laws : (s : ℕ) (g : Grid) (number : ℕ) → MapLaws (mapsforge s g number)
mapsforge-laws s g number = record {
  header = header-good;
  signature = signature-good;
  entry = λ h. entry-good g number (interval s g number h);
  tile_head = λ h l. marked_head-good l.empty (debug h) _;
  format = λ h. tile-laws _ _ _;
  view = λ h. tile-view _ _ _ h.poi_tags.texts h.way_tags.texts;
}

-- the entry as a parser at its place, and as opening and collecting read it
pub located-at : (g : Grid) (number : ℕ) (d : Bool) (m : List ℕ) (r : Maybe Interval)
    → in_sub_file r (no 8 []) (λ z. locate_in d z g number m) ≡ answered (in_sub_file r (no 8 []) (λ z. located g number z m (of_interval 0 (λ z. entry_at d z.start number) r)))
unfolding locate_in
located-at g number d m none = refl
located-at g number d m (some z) = refl
