use Rattle.std.proofs.Common.{◌≡◌, ◌+◌, ◌-◌, length, take, drop}
use lib.Seq.{sets}
use Rattle.text.proofs.copy.Given as goal

abbrev pub invariant-loop-i : goal.invariant-loop-i
invariant-loop-i l =
    (length l.buffer ≡ length l.initial.buffer) × (sets l.buffer (l.to + l.i) (take (l.n - l.i) (drop (l.from + l.i) l.text)) ≡ sets l.initial.buffer l.to (take l.n (drop l.from l.text)))
