-- Tile header, points and ways as stored, from the format document, "Tile header", "POI data", "Way properties" and "Way data", and
-- document 01, blocks.rs, poi.rs and way.rs. What a stream or a collected tile shows of them are plain functions of these values.
-- The kinds of the tags' inline values stand in the file header, so they come as a list, one for each tag id.
use Rattle.std.specs.Prelude.{ℕ, zero, suc, ◌+◌, ◌*◌, ◌-◌, ◌/◌, ◌%◌, ◌^◌, ◌≤◌, ◌<◌, ◌≡◌, refl, Bool, true, ◌&&◌, List, [], ◌∷◌, ltb, ℤ, pos, ◌-ℤ◌, length}
use Rattle.std.proofs.Common.{arith}
use Rattle.parsing.specs.Parse.{Res, ok, no, Parser, bind, ◌>>=◌, return, fail, pick, many, here, byte, Part, part, Maybe, none, some, optional}
use Rattle.parsing.specs.Good.{Good, Strict, Post, bind-good, return-good, instead-strict, strict-left, strict-right, bind-post}
use Rattle.parsing.proofs.GoodLaws.{goods, stricts}
use Rattle.byte_source.specs.BigEndian.{big_endian, bytes}
use Rattle.utils.specs.Vbe.{Noted, noted, values_of, all_plain, noted_unsigned, noted_signed, noted_text, numbers, numbers-strict, noted_unsigned-strict}
use Rattle.tag.specs.Value.{value, value-good}
use Rattle.tag.specs.declared.Kind.{Kind}
use Rattle.tag.specs.declared.Kind.TheVariants.{Nothing}
use Rattle.format.specs.Header.{bit}
use Rattle.format.specs.CutOff.{where_read, where_byte, of_head}
use Rattle.format.specs.WayData.{Node, node, way_data, node-good, way_data-good, node-strict}

-- the points and ways of a zoom level
pub record Row : Type 0 where
  pub points : ℕ
  pub ways : ℕ

unfoldable pub row : Parser (Noted Row)
row = do
  p ← noted_unsigned
  w ← noted_unsigned
  return (noted (record { points = p.value; ways = w.value }) (p.plain && w.plain))

-- a row for each zoom level
unfoldable pub zoom_table : ℕ → Parser (List (Noted Row))
zoom_table n = of_head where_byte (many row n)

-- in debug maps, 32 bytes in front of a tile, a point and a way
unfoldable pub debug_signature : Bool → Parser (Maybe Part)
debug_signature debug = optional debug (part 32)

-- the tile's head; the first-way offset is counted from the byte behind it. `plain` here and below: whether every number was plain
-- (request 6 of document 02)
pub record TileHead : Type 0 where
  pub signature : Maybe Part
  pub table : List Row
  pub offset : ℕ
  pub plain : Bool

unfoldable pub tile_head : Bool → ℕ → Parser TileHead
tile_head debug rows = do
  g ← of_head where_read (debug_signature debug)
  t ← zoom_table rows
  o ← of_head where_byte noted_unsigned
  return (record { signature = g; table = values_of t; offset = o.value; plain = all_plain t && o.plain })

-- an id of one of n tags
unfoldable pub tag_id : ℕ → Parser (Noted ℕ)
tag_id n = do
  i ← noted_unsigned
  pick (ltb i.value n) (return i) (fail 7 (i.value ∷ []))

abbrev pub kind_at : List Kind → ℕ → Kind
kind_at [] i = Nothing
kind_at (k ∷ ks) zero = k
kind_at (k ∷ ks) (suc i) = kind_at ks i

-- the inline values of the tags with these ids, in the order of the ids
unfoldable pub values : List Kind → List ℕ → Parser (List (Noted Part))
values kinds [] = return []
values kinds (i ∷ ids) = do
  v ← value (kind_at kinds i)
  r ← values kinds ids
  return (v ∷ r)

-- layer, tag ids and tag values of a feature: values follow all ids
pub record Tagged : Type 0 where
  pub layer : ℤ
  pub ids : List ℕ
  pub values : List Part
  pub plain : Bool

-- the high four bits of the special byte are the layer plus 5, the low four the number of tags
abbrev pub layer_of : ℕ → ℤ
layer_of special = pos (special / 16) -ℤ pos 5

abbrev pub behind_special : List Kind → ℕ → Parser Tagged
behind_special kinds special = do
  ids ← many (tag_id (length kinds)) (special % 16)
  v ← values kinds (values_of ids)
  return (record { layer = layer_of special; ids = values_of ids; values = values_of v; plain = all_plain ids && all_plain v })

unfoldable pub tagged : List Kind → Parser Tagged
tagged kinds = do
  s ← byte
  behind_special kinds s

pub record Point : Type 0 where
  pub signature : Maybe Part
  pub position : Node
  pub tagged : Tagged
  pub name : Maybe Part
  pub house_number : Maybe Part
  pub elevation : Maybe ℤ
  pub plain : Bool

-- a field that a flag announces: its value, and whether it was plain if it is there
abbrev pub maybe_value : {A : Type 0} → Maybe (Noted A) → Maybe A
maybe_value none = none
maybe_value (some a) = some a.value

abbrev pub maybe_plain : {A : Type 0} → Maybe (Noted A) → Bool
maybe_plain none = true
maybe_plain (some a) = a.plain

-- the fields that a point's flags announce
pub record PointFields : Type 0 where
  pub name : Maybe Part
  pub house_number : Maybe Part
  pub elevation : Maybe ℤ
  pub plain : Bool

unfoldable pub point_fields : Parser PointFields
point_fields = do
  f ← byte
  n ← optional (bit 7 f) noted_text
  h ← optional (bit 6 f) noted_text
  e ← optional (bit 5 f) noted_signed
  return (record {
    name = maybe_value n;
    house_number = maybe_value h;
    elevation = maybe_value e;
    plain = maybe_plain n && maybe_plain h && maybe_plain e;
  })

abbrev pub behind_position : List Kind → Maybe Part → Noted Node → Parser Point
behind_position kinds g p = do
  t ← tagged kinds
  f ← point_fields
  return (record {
    signature = g;
    position = p.value;
    tagged = t;
    name = f.name;
    house_number = f.house_number;
    elevation = f.elevation;
    plain = p.plain && t.plain && f.plain;
  })

unfoldable pub point : Bool → List Kind → Parser Point
point debug kinds = do
  g ← debug_signature debug
  p ← node
  behind_position kinds g p

-- a way up to its tag values. `start` is the byte behind the size field, from which the size is counted; `behind` is where the body
-- starts.
pub record Head : Type 0 where
  pub signature : Maybe Part
  pub size : ℕ
  pub start : ℕ
  pub bitmap : ℕ
  pub tagged : Tagged
  pub behind : ℕ
  pub plain : Bool

unfoldable pub head_rest : List Kind → Maybe Part → Noted ℕ → ℕ → Parser Head
head_rest kinds g n a = do
  b ← big_endian 2
  t ← tagged kinds
  e ← here
  return (record { signature = g; size = n.value; start = a; bitmap = b; tagged = t; behind = e; plain = n.plain && t.plain })

unfoldable pub head : Bool → List Kind → Parser Head
head debug kinds = do
  g ← debug_signature debug
  n ← noted_unsigned
  a ← here
  head_rest kinds g n a

-- the fields that a way's flags announce, and its delta form
pub record WayFields : Type 0 where
  pub name : Maybe Part
  pub house_number : Maybe Part
  pub reference : Maybe Part
  pub label : Maybe Node
  pub flags : ℕ
  pub plain : Bool

unfoldable pub way_fields : Parser WayFields
way_fields = do
  f ← byte
  n ← optional (bit 7 f) noted_text
  h ← optional (bit 6 f) noted_text
  r ← optional (bit 5 f) noted_text
  l ← optional (bit 4 f) node
  return (record {
    name = maybe_value n;
    house_number = maybe_value h;
    reference = maybe_value r;
    label = maybe_value l;
    flags = f;
    plain = maybe_plain n && maybe_plain h && maybe_plain r && maybe_plain l;
  })

-- without the field there is one data block, and no number is stored
unfoldable pub data_block_count : ℕ → Parser (Noted ℕ)
data_block_count flags = pick (bit 3 flags) noted_unsigned (return (noted 1 true))

-- a way behind its tag values: its fields, and the coordinate blocks of each data block
pub record Body : Type 0 where
  pub fields : WayFields
  pub data_blocks : List (List (List Node))
  pub plain : Bool

abbrev pub double_delta : WayFields → Bool
double_delta f = bit 2 f.flags

unfoldable pub body : Parser Body
body = do
  f ← way_fields
  k ← data_block_count f.flags
  d ← way_data k.value
  return (record { fields = f; data_blocks = values_of d; plain = f.plain && k.plain && all_plain d })

-- the laws
pub row-good : Good row
unfolding row
row-good = search numbers

pub row-strict : Strict row
unfolding row
row-strict = search numbers-strict

pub zoom_table-good : (n : ℕ) → Good (zoom_table n)
unfolding zoom_table
zoom_table-good n = search (numbers, row-good)

pub debug_signature-good : (debug : Bool) → Good (debug_signature debug)
unfolding debug_signature
debug_signature-good debug = search goods

pub tile_head-good : (debug : Bool) (rows : ℕ) → Good (tile_head debug rows)
unfolding tile_head
tile_head-good debug rows = search (numbers, debug_signature-good, zoom_table-good) depth 12

pub tile_head-strict : (debug : Bool) (rows : ℕ) → Strict (tile_head debug rows)
unfolding tile_head
tile_head-strict debug rows = search (strict-right, strict-left, instead-strict, noted_unsigned-strict, numbers, debug_signature-good, zoom_table-good) depth 12

pub tag_id-good : (n : ℕ) → Good (tag_id n)
unfolding tag_id
tag_id-good n = search numbers

pub values-good : (kinds : List Kind) (ids : List ℕ) → Good (values kinds ids)
unfolding values
values-good kinds [] = search goods
values-good kinds (i ∷ ids) = let ih = values-good kinds ids in search (goods, value-good)

pub tagged-good : (kinds : List Kind) → Good (tagged kinds)
unfolding tagged
tagged-good kinds = search (goods, tag_id-good, values-good) depth 12

pub tagged-strict : (kinds : List Kind) → Strict (tagged kinds)
unfolding tagged
tagged-strict kinds = search (stricts, tag_id-good, values-good) depth 12

pub point_fields-good : Good point_fields
unfolding point_fields
point_fields-good = search numbers depth 20

pub point-good : (debug : Bool) (kinds : List Kind) → Good (point debug kinds)
unfolding point
point-good debug kinds = search (goods, debug_signature-good, node-good, tagged-good, point_fields-good) depth 20

pub point-strict : (debug : Bool) (kinds : List Kind) → Strict (point debug kinds)
unfolding point
point-strict debug kinds =
    search (strict-right, strict-left, node-strict, goods, debug_signature-good, node-good, tagged-good, point_fields-good) depth 20

pub head_rest-good : (kinds : List Kind) (g : Maybe Part) (n : Noted ℕ) (a : ℕ) → Good (head_rest kinds g n a)
unfolding head_rest
head_rest-good kinds g n a = search (bytes, tagged-good) depth 12

pub head-good : (debug : Bool) (kinds : List Kind) → Good (head debug kinds)
unfolding head
head-good debug kinds = search (numbers, debug_signature-good, head_rest-good) depth 12

pub head-strict : (debug : Bool) (kinds : List Kind) → Strict (head debug kinds)
unfolding head
head-strict debug kinds =
    search (strict-right, strict-left, noted_unsigned-strict, numbers, debug_signature-good, head_rest-good) depth 12

pub way_fields-good : Good way_fields
unfolding way_fields
way_fields-good = search (numbers, node-good) depth 20

pub data_block_count-good : (flags : ℕ) → Good (data_block_count flags)
unfolding data_block_count
data_block_count-good flags = search numbers

pub body-good : Good body
unfolding body
body-good = search (goods, way_fields-good, data_block_count-good, way_data-good) depth 12
