-- What the stream shows of a point is told by what is handed out of it and the map.
use Prim.Native.Nat.{ℕ}
use mathlib.Core.Path.{◌≡◌}
use mathlib.Core.Bool.{Bool}
use mathlib.Core.List.{List}
use Rattle.parsing.specs.Parse.{ok, byte, optional, Part, Maybe}
use Rattle.utils.specs.Vbe.{noted_signed}
use Rattle.tag.specs.declared.Kind.{Kind}
use Rattle.format.specs.Header.{bit}
use Rattle.format.specs.WayData.{node}
use Rattle.format.specs.Streamed.{streamed_point}
use Rattle.format.specs.Tile.{debug_signature, tagged, point_fields, Point, point}
use Rattle.fields.proofs.StreamLaws.{Gives, any, gives-bind, gives-return, Within, optional-within, streamed-view}
use Rattle.poi.specs.Poi.{poi_of, streamed_poi}

pub view-streamed : (m : List ℕ) (p : Point) → Within m p.name → Within m p.house_number → streamed_poi m (poi_of p) ≡ poi_of (streamed_point p)
view-streamed m p a b = rw (streamed-view m p.name a, streamed-view m p.house_number b)

-- both texts of a point that was read are parts of the map
pub record Texts (m : List ℕ) (name house_number : Maybe Part) : Type 0 where
  pub first : Within m name
  pub second : Within m house_number

fields_within : (m : List ℕ) → Gives m point_fields (λ f. Texts m f.name f.house_number)
unfolding point_fields
fields_within m =
    gives-bind m (any m byte) λ f _. gives-bind m (optional-within m (bit 7 f)) λ n a. gives-bind m (optional-within m (bit 6 f)) λ h b. gives-bind m (any m (optional (bit 5 f) noted_signed)) λ e _. gives-return m _ _ (record { first = a; second = b })

pub point-within : (m : List ℕ) (debug : Bool) (kinds : List Kind) → Gives m (point debug kinds) (λ p. Texts m p.name p.house_number)
unfolding point
point-within m debug kinds =
    gives-bind m (any m (debug_signature debug)) λ g _. gives-bind m (any m node) λ p _. gives-bind m (any m (tagged kinds)) λ t _. gives-bind m (fields_within m) λ f h. gives-return m _ _ h

pub point-streamed : (m : List ℕ) (debug : Bool) (kinds : List Kind) (i : ℕ) (p : Point) (e : ℕ) → point debug kinds m i ≡ ok p e → streamed_poi m (poi_of p) ≡ poi_of (streamed_point p)
point-streamed m debug kinds i p e h =
    let w = (point-within m debug kinds).holds i p e h in
    view-streamed m p w.first w.second
