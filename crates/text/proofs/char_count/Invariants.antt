use Rattle.std.proofs.Common.{◌≡◌, ◌+◌, ◌≤◌, length, drop}
use Rattle.text.specs.Utf8.{code_points}
use Rattle.text.proofs.char_count.Given as goal

abbrev pub invariant-loop : goal.invariant-loop
invariant-loop l =
    (l.iterator'.text.now ≡ l.text) × (l.n ≤ l.iterator'.at)
    × (l.n + length (code_points (drop l.iterator'.at l.text)) ≡ length (code_points l.text))
