-- What may be absent, as words: 1 stands in front of what is there; what is absent is all 0.
use Rattle.std.specs.Prelude.{ℕ, false, List, [], ◌∷◌, pos, Float, Option, Some, None}
use Rattle.std.specs.Float.{fin}
use Rattle.byte_source.specs.declared.Span.{Span}
use Rattle.types.specs.declared.Position.{Position}
use Rattle.wire.specs.declared.SpanWords.{SpanWords}
use Rattle.wire.specs.declared.PlaceWords.{PlaceWords}

-- a refusal's values
unfoldable pub value_list : Option ℕ → List ℕ
value_list None = []
value_list (Some v) = v ∷ []

-- what may be absent
abbrev pub span_words : Option Span → SpanWords
span_words None = record { present = 0; start = 0; size = 0 }
span_words (Some s) = record { present = 1; start = s.start; size = s.size }

-- where there is no position
abbrev pub nowhere : Float
nowhere = fin false 0 (pos 0)

abbrev pub place_words : Option Position → PlaceWords
place_words None = record { present = 0; latitude = nowhere; longitude = nowhere }
place_words (Some p) = record { present = 1; latitude = p.latitude; longitude = p.longitude }
