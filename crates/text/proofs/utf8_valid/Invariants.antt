use Rattle.std.proofs.Common.{◌≡◌, drop}
use Rattle.text.specs.Utf8.{sequences, all_chars, valid}
use Rattle.text.proofs.utf8_valid.Given as goal

abbrev pub invariant-loop-next : goal.invariant-loop-next
invariant-loop-next l =
    (l.next-iterator.text.now ≡ l.text) × (all_chars (sequences (drop l.next-iterator.at l.text)) ≡ valid l.text)
