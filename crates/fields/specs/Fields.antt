-- What points, ways and the header have alike (document 01, poi.rs, way.rs and header.rs), and the answers that give it.
use Rattle.std.specs.Prelude.{ℕ, cond, List, Option, Some, None}
use Rattle.parsing.specs.Parse.{Maybe}
use Rattle.byte_source.specs.declared.Span.{Span}
use Rattle.byte_source.specs.Answers.{span_bytes}
use Rattle.text.specs.Utf8.{valid}
use Rattle.utils.specs.Vbe.{Noted, noted}
use Rattle.format.specs.WayData.{Node}
use Rattle.format.specs.Tile.{maybe_value, maybe_plain}
use Rattle.types.specs.Types.{node_position}
use Rattle.types.specs.declared.Position.{Position}

-- a field that a flag announces, and whether it was plain if it is there
abbrev pub maybe_noted : {A : Type 0} → Maybe (Noted A) → Noted (Maybe A)
maybe_noted x = noted (maybe_value x) (maybe_plain x)

-- a position in degrees, and whether both coordinates were plain
abbrev pub noted_position : Noted Node → Noted Position
noted_position n = noted (node_position n.value) n.plain

-- a streamed text: the part of the map, or none of its bytes if they are not valid UTF-8
abbrev pub streamed_text_span : List ℕ → Span → Span
streamed_text_span m s = record { start = s.start; size = cond (valid (span_bytes m s)) s.size 0 }

abbrev pub streamed_span : List ℕ → Option Span → Option Span
streamed_span m None = None
streamed_span m (Some s) = Some (streamed_text_span m s)
