-- What crosses back, from the contracts of the inner function and of the encoders.
use Prim.Native.Nat.{ℕ}
use mathlib.Core.Path.{◌≡◌, subst}
use mathlib.Core.List.{List}
use Rattle.agreement.specs.Stream.{on_next}
use Rattle.tile_layout.specs.TileLayout.{kinds_of, format_of}
use Rattle.tile_layout.specs.declared.TileLayout.{TileLayout}
use Rattle.visit.specs.Visit.{state_of, shown_step, NextIs, NextStep}
use Rattle.visit.specs.declared.Stream.{Stream}
use Rattle.wire.specs.Wire.{Wire, Crosses}
use Rattle.stream_wire.specs.Streams.{next_wire}

module _ (m letters : List ℕ) where
  abbrev Is : TileLayout → Stream → NextStep → Type 0
  Is l s = NextIs (shown_step (on_next (format_of (kinds_of l letters)) m (state_of s)))

  -- next's answer, for the stream and the layout that the words say
  pub crosses : (s s' : Stream) (l l' : TileLayout) (a : NextStep) (before w : Wire) → s ≡ s' → l ≡ l' → Is l s a → w ≡ next_wire before a → Crosses (next_wire before) (Is l' s') w
  crosses s s' l l' a before w e h i q = record { answer = a; is = subst (λ x. Is l' x a) e (subst (λ x. Is x s a) h i); crossed = q }
