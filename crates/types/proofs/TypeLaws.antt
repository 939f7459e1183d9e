-- A part of the map that may be absent: what is handed out of it tells it.
use mathlib.Core.Path.{◌≡◌, refl}
use mathlib.Core.List.{List}
use Prim.Native.Nat.{ℕ}
use Rattle.std.specs.Prelude.{Option, Some, None}
use Rattle.byte_source.specs.declared.Span.{Span}
use Rattle.types.specs.Types.{optional_span, maybe_part}

pub part-back : (m : List ℕ) (s : Option Span) → optional_span (maybe_part m s) ≡ s
part-back m None = refl
part-back m (Some s) = refl
