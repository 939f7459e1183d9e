use Rattle.std.proofs.Common.{◌≡◌, leb, length, drop}
use Rattle.text.specs.Utf8.{replaced}
use Rattle.text.specs.Writing.{place_behind}
use Rattle.text.proofs.replaced_fits.Given as goal

abbrev pub invariant-loop-next : goal.invariant-loop-next
invariant-loop-next l =
    (l.next-iterator.text.now ≡ l.text) × (leb (length (replaced (drop l.next-iterator.at l.text))) l.room ≡ leb (place_behind l.text l.start) l.len)
