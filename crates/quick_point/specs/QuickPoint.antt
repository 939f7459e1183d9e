-- A point as a quick read hands it out: its position in microdegrees, its tags, and the fields that its flags announce, as streamed. All of its
-- numbers were plain.
use Rattle.std.specs.Prelude.{ℕ, Bool, true, cond, List, ℤ, Option, Some, None}
use Rattle.parsing.specs.Parse.{Part, Maybe, none, some}
use Rattle.byte_source.specs.declared.Span.{Span}
use Rattle.utils.specs.Vbe.{Noted, noted}
use Rattle.text.specs.Utf8.{valid}
use Rattle.format.specs.WayData.{Node}
use Rattle.format.specs.Tile.{maybe_value, maybe_plain, PointFields, Point}
use Rattle.quick_head.specs.Quick.{ShownTags, tags_of}
use Rattle.quick_point.specs.declared.QuickFields.{QuickFields}
use Rattle.quick_point.specs.declared.QuickPoint.{QuickPoint}

-- a text that is not valid UTF-8 is empty
abbrev pub shown_text : Maybe Part → Option Span
shown_text none = None
shown_text (some p) = Some (record { start = p.start; size = cond (valid p.bytes) p.size 0 })

abbrev pub text_of : Maybe (Noted Part) → Noted (Option Span)
text_of t = noted (shown_text (maybe_value t)) (maybe_plain t)

abbrev pub shown_elevation : Maybe ℤ → Option ℤ
shown_elevation none = None
shown_elevation (some z) = Some z

abbrev pub elevation_of : Maybe (Noted ℤ) → Noted (Option ℤ)
elevation_of e = noted (shown_elevation (maybe_value e)) (maybe_plain e)

pub record ShownFields : Type 0 where
  pub name : Option Span
  pub house : Option Span
  pub elevation : Option ℤ

abbrev pub shown_fields : Maybe Part → Maybe Part → Maybe ℤ → ShownFields
shown_fields n h e = record { name = shown_text n; house = shown_text h; elevation = shown_elevation e }

abbrev pub fields_of : PointFields → Noted ShownFields
fields_of f = noted (shown_fields f.name f.house_number f.elevation) f.plain

abbrev pub fields_in : QuickFields → ShownFields
fields_in f = record { name = f.name; house = f.house; elevation = f.elevation }

pub record ShownPoint : Type 0 where
  pub position : Node
  pub tags : ShownTags
  pub fields : ShownFields
  pub plain : Bool

abbrev pub point_of : List ℕ → Point → ShownPoint
point_of lent p = record {
  position = p.position;
  tags = tags_of lent p.tagged;
  fields = shown_fields p.name p.house_number p.elevation;
  plain = p.plain;
}

abbrev pub point_in : QuickPoint → List ℕ → ShownPoint
point_in p ids = record {
  position = record { latitude = p.node.latitude.0; longitude = p.node.longitude.0 };
  tags = record { layer = p.tags.layer; ids = ids; count = p.tags.count; plain = true };
  fields = fields_in p.fields;
  plain = true;
}
