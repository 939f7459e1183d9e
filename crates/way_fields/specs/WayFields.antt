-- The fields of a way behind its tag values as they are handed out (document 01, way.rs), from what is stored.
use Rattle.std.specs.Prelude.{ℕ, Bool, ◌&&◌, Option}
use Rattle.parsing.specs.Parse.{Parser, ◌>>=◌, return, Maybe}
use Rattle.utils.specs.Vbe.{Noted, noted}
use Rattle.format.specs.WayData.{Node}
use Rattle.format.specs.Tile as format
use Rattle.format.specs.Tile.{way_fields, data_block_count, double_delta, maybe_value, maybe_plain}
use Rattle.types.specs.Types.{optional_span, optional_position}
use Rattle.types.specs.declared.Position.{Position}
use Rattle.way_fields.specs.declared.WayFields.{WayFields}
use Rattle.way_fields.specs.declared.Announced.{Announced}

-- a way's body up to its data blocks, and how many these are
pub record BodyHead : Type 0 where
  pub fields : format.WayFields
  pub data_blocks : ℕ
  pub plain : Bool

unfoldable pub body_head : Parser BodyHead
body_head = do
  f ← way_fields
  k ← data_block_count f.flags
  return (record { fields = f; data_blocks = k.value; plain = f.plain && k.plain })

abbrev pub way_fields_of : BodyHead → WayFields
way_fields_of b = record {
  name = optional_span b.fields.name;
  house_number = optional_span b.fields.house_number;
  reference = optional_span b.fields.reference;
  label_position = optional_position b.fields.label;
  double_delta = double_delta b.fields;
  data_blocks = b.data_blocks;
  plain = b.plain;
}

-- on the way there
abbrev pub label_of : Maybe (Noted Node) → Noted (Option Position)
label_of l = noted (optional_position (maybe_value l)) (maybe_plain l)

abbrev pub announced_of : format.WayFields → Announced
announced_of f = record {
  name = optional_span f.name;
  house_number = optional_span f.house_number;
  reference = optional_span f.reference;
  label_position = optional_position f.label;
  flags = f.flags;
  plain = f.plain;
}
