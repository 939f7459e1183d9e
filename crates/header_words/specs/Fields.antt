-- A header's fields as words (compare/src/maps has the same). What is absent is 0, and 1 stands in front of what is there.
use Rattle.std.specs.Prelude.{ℕ, List, length, Option, Some, None}
use Rattle.arithmetic.specs.Cut.{cut}
use Rattle.byte_source.specs.declared.Span.{Span}
use Rattle.byte_source.specs.Answers.{span_bytes}
use Rattle.text.specs.Utf8.{replaced}
use Rattle.types.specs.declared.Position.{Position}
use Rattle.types.specs.declared.BoundingBox.{BoundingBox}
use Rattle.types.specs.declared.ZoomInterval.{ZoomInterval}
use Rattle.report.specs.declared.Words.{Words}
use Rattle.report.specs.Words.{pushed, mixed, bits_of}
use Rattle.report.specs.Texts.{room, mixed_replaced}

-- an empty digest
abbrev pub start : ℕ
start = 14695981039346656037

-- the length of the replaced text, and its digest
abbrev pub text_pushed : Words → List ℕ → Span → Words
text_pushed w m s =
    pushed (pushed w (cut (length (replaced (span_bytes m s))))) (mixed_replaced start (span_bytes m s) room)

abbrev pub optional_text_pushed : Words → List ℕ → Option Span → Words
optional_text_pushed w m None = pushed w 0
optional_text_pushed w m (Some s) = text_pushed (pushed w 1) m s

abbrev pub position_pushed : Words → Position → Words
position_pushed w p = pushed (pushed w (bits_of p.latitude)) (bits_of p.longitude)

abbrev pub box_pushed : Words → BoundingBox → Words
box_pushed w b = position_pushed (position_pushed w b.min) b.max

abbrev pub optional_position_pushed : Words → Option Position → Words
optional_position_pushed w None = pushed w 0
optional_position_pushed w (Some p) = position_pushed (pushed w 1) p

abbrev pub optional_byte_pushed : Words → Option ℕ → Words
optional_byte_pushed w None = pushed w 0
optional_byte_pushed w (Some v) = pushed (pushed w 1) v

-- a tag's text behind its length
abbrev pub tag_mixed : ℕ → List ℕ → Span → ℕ
tag_mixed d m s = mixed_replaced (mixed d (cut (length (replaced (span_bytes m s))))) (span_bytes m s) room

abbrev pub interval_mixed : ℕ → ZoomInterval → ℕ
interval_mixed d z =
    let zooms = mixed (mixed (mixed d z.base_zoom_level) z.min_zoom_level) z.max_zoom_level in
    mixed (mixed zooms z.sub_file_start) z.sub_file_size
