use mathlib.Core.List.{[], ◌∷◌}
use Rattle.visit.specs.Visit.{state_of}
use Rattle.selection.specs.Selected.{ways_of}
use Rattle.wire.specs.Wire.{lending}
use Rattle.header_wire.specs.Header.{layout_in}
use Rattle.stream_wire.specs.Streams.{stream_in}
use Rattle.exports.proofs.SelectLaws.{Going}
use Rattle.exports.proofs.mapsforge_stream_next_selected.Given as goal

abbrev pub invariant-loop-which : goal.invariant-loop-which
invariant-loop-which l =
    Going l.map l.letters l.classes (layout_in l.layout) l.which (lending (l.initial.words ∷ l.initial.ids ∷ l.initial.state ∷ []) l.initial.signed_words l.initial.degrees) (lending (l.words ∷ l.ids ∷ l.initial.state ∷ []) l.signed_words l.degrees) l.state

abbrev pub decreases-loop-which : goal.decreases-loop-which
decreases-loop-which l =
    ways_of (state_of (stream_in l.state))
