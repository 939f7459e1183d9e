use Rattle.std.proofs.Common.{◌≡◌, ◌+◌, length, drop}
use lib.Seq.{sets}
use Rattle.text.specs.Utf8.{replaced}
use Rattle.text.proofs.put_replaced.Given as goal

abbrev pub invariant-loop-at : goal.invariant-loop-at
invariant-loop-at l =
    (l.at-iterator.text.now ≡ l.text) × (length l.buffer ≡ length l.initial.buffer) × (l.to + length (replaced (drop l.at-iterator.at l.text)) ≡ l.start + length (replaced l.text))
    × (sets l.buffer l.to (replaced (drop l.at-iterator.at l.text)) ≡ sets l.initial.buffer l.start (replaced l.text))
