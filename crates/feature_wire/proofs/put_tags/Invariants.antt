use mathlib.Core.Path.{◌≡◌}
use lib.ListN.{take}
use Rattle.format.specs.Lent.{front}
use Rattle.feature_wire.specs.Features.{tag_words}
use Rattle.feature_wire.proofs.put_tags.Given as goal

abbrev pub invariant-loop-i : goal.invariant-loop-i
invariant-loop-i l =
    l.words ≡ front (tag_words (take l.i l.tags)) l.initial.words
