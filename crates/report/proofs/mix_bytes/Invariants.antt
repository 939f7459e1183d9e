use Rattle.std.proofs.Common.{◌≡◌, drop}
use Rattle.report.specs.Words.{mixed_all}
use Rattle.report.proofs.mix_bytes.Given as goal

abbrev pub invariant-loop-byte : goal.invariant-loop-byte
invariant-loop-byte l =
    mixed_all l.out (drop l.byte-index l.bytes) ≡ mixed_all l.digest l.bytes
