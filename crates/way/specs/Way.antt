-- A way's body as it is handed out (document 01, way.rs), from what is stored.
use Rattle.std.specs.Prelude.{ℕ, ◌&&◌, List, Float, length, Result}
use Rattle.parsing.specs.Parse.{Res}
use Rattle.error.specs.declared.LentRefusal.{LentRefusal}
use Rattle.format.specs.Lent.{Reply}
use Rattle.format.specs.WayData.{concat, node_count}
use Rattle.format.specs.Tile.{Body, double_delta}
use Rattle.types.specs.Types.{optional_span, optional_position}
use Rattle.way_fields.specs.declared.WayFields.{WayFields}
use Rattle.way_measure.specs.declared.Sizes.{Sizes}
use Rattle.byte_source.specs.Answers.{lent_res}
use Rattle.way_data.specs.Reply.{lent}
use Rattle.way.specs.declared.WayBody.{WayBody}

-- a way's fields, with the sizes of its data
abbrev pub body_with : WayFields → Sizes → WayBody
body_with f s = record {
  name = f.name;
  house_number = f.house_number;
  reference = f.reference;
  label_position = f.label_position;
  double_delta = f.double_delta;
  blocks = s.blocks;
  nodes = s.nodes;
  plain = f.plain && s.plain;
}

-- how many data blocks there are is not shown
abbrev pub body_of : Body → WayBody
body_of b = record {
  name = optional_span b.fields.name;
  house_number = optional_span b.fields.house_number;
  reference = optional_span b.fields.reference;
  label_position = optional_position b.fields.label;
  double_delta = double_delta b.fields;
  blocks = length (concat b.data_blocks);
  nodes = node_count (concat b.data_blocks);
  plain = b.plain;
}

-- an answer of the code, with the lists after the call
abbrev pub body_reply : Result (WayBody × ℕ) LentRefusal → List ℕ → List Float → List Float → Reply (Res WayBody)
body_reply r counts lats lons = record { answer = lent_res r; lists = lent counts lats lons }
