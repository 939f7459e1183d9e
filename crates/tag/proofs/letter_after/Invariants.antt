use Rattle.std.proofs.Common.{◌≡◌, drop}
use Rattle.tag.specs.Tag.{letter_after}
use Rattle.tag.proofs.letter_after.Given as goal

abbrev pub invariant-loop-at : goal.invariant-loop-at
invariant-loop-at l = letter_after (drop l.at l.text) ≡ letter_after l.text
