use Rattle.feature_tags.proofs.TagLaws.{Telling}
use Rattle.feature_tags.proofs.texts_of.Given as goal

abbrev pub invariant-loop-i : goal.invariant-loop-i
invariant-loop-i l =
    Telling l.starts l.parts.tags l.map l.ids l.i-end l.initial.texts l.texts l.i
