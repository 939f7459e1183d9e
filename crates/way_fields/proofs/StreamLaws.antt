-- The texts of a way's fields are parts of the map; and a body is its fields, then its data.
use Prim.Native.Nat.{ℕ}
use mathlib.Core.Path.{◌≡◌, refl}
use mathlib.Core.Bool.{◌&&◌}
use mathlib.Core.List.{List}
use Rattle.parsing.specs.Parse.{Res, ok, no, and_then, map_res, byte, optional}
use Rattle.utils.specs.Vbe.{Noted, values_of, all_plain}
use Rattle.format.specs.Header.{bit}
use Rattle.format.specs.WayData.{node, way_data}
use Rattle.format.specs.Tile.{WayFields, way_fields, data_block_count, Body, body}
use Rattle.fields.proofs.StreamLaws.{Gives, any, gives-bind, gives-return, Within, optional-within}
use Rattle.way_fields.specs.WayFields.{BodyHead, body_head}

-- the three texts are parts of the map
pub record Texts (m : List ℕ) (f : WayFields) : Type 0 where
  pub name : Within m f.name
  pub house_number : Within m f.house_number
  pub reference : Within m f.reference

pub fields_within : (m : List ℕ) → Gives m way_fields (Texts m)
unfolding way_fields
fields_within m =
    gives-bind m (any m byte) λ f _. gives-bind m (optional-within m (bit 7 f)) λ n a. gives-bind m (optional-within m (bit 6 f)) λ h b. gives-bind m (optional-within m (bit 5 f)) λ r c. gives-bind m (any m (optional (bit 4 f) node)) λ l _. gives-return m _ (Texts m) (record { name = a; house_number = b; reference = c })

-- a body from its fields and data
abbrev pub with_data : BodyHead → ℕ → List ℕ → Res Body
with_data b e m = map_res (λ d. record { fields = b.fields; data_blocks = values_of d; plain = b.plain && all_plain d }) (way_data b.data_blocks m e)

headed : (m : List ℕ) (f : WayFields) (r : Res (Noted ℕ)) → and_then {B = Body} r (λ k e. and_then (way_data k.value m e) (λ d y. ok (record { fields = f; data_blocks = values_of d; plain = f.plain && k.plain && all_plain d }) y)) ≡ and_then (and_then {B = BodyHead} r (λ k e. ok (record { fields = f; data_blocks = k.value; plain = f.plain && k.plain }) e)) (λ b e. with_data b e m)
headed m f (ok k e) = refl
headed m f (no n v) = refl

pub body-by-head : (m : List ℕ) (i : ℕ) → body m i ≡ and_then (body_head m i) (λ b e. with_data b e m)
unfolding body body_head
body-by-head m i = behind (way_fields m i)
  where
    behind : (r : Res WayFields) → and_then {B = Body} r (λ f x. and_then (data_block_count f.flags m x) (λ k e. and_then (way_data k.value m e) (λ d y. ok (record { fields = f; data_blocks = values_of d; plain = f.plain && k.plain && all_plain d }) y))) ≡ and_then (and_then {B = BodyHead} r (λ f x. and_then (data_block_count f.flags m x) (λ k e. ok (record { fields = f; data_blocks = k.value; plain = f.plain && k.plain }) e))) (λ b e. with_data b e m)
    behind (ok f x) = headed m f (data_block_count f.flags m x)
    behind (no n v) = refl
