use Rattle.std.proofs.Common.{◌≡◌, ◌+◌, ◌^◌, ◌<◌, length, drop}
use Rattle.arithmetic.specs.Cut.{cut}
use Rattle.text.specs.Utf8.{replaced}
use Rattle.text.proofs.replaced_len.Given as goal

abbrev pub invariant-loop-next : goal.invariant-loop-next
invariant-loop-next l =
    (l.next-iterator.text.now ≡ l.text) × (l.n < 2 ^ 64) × (cut (l.n + length (replaced (drop l.next-iterator.at l.text))) ≡ cut (length (replaced l.text)))
