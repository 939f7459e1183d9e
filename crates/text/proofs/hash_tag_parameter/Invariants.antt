use Rattle.std.proofs.Common.{◌≡◌, ◌+◌, ◌%◌, ◌^◌, length, drop}
use Rattle.text.specs.Utf8.{code_points}
use Rattle.text.specs.Hash.{hash}
use Rattle.text.proofs.HashLaws.{hash_left}
use Rattle.text.proofs.hash_tag_parameter.Given as goal

abbrev pub invariant-loop-next : goal.invariant-loop-next
invariant-loop-next l =
    (l.next-iterator.text.now ≡ l.text) × (l.power ≡ 31 ^ (length (code_points (drop l.next-iterator.at l.text)) + 1) % 2 ^ 64)
    × (hash_left l.h (code_points (drop l.next-iterator.at l.text)) ≡ hash (code_points l.text))
