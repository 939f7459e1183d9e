use Rattle.std.proofs.Common.{◌≡◌}
use Rattle.report.specs.Words.{mixed, mixed_upto}
use Rattle.report.proofs.mix_list.Given as goal

abbrev pub invariant-loop-word : goal.invariant-loop-word
invariant-loop-word l =
    l.out ≡ mixed_upto (mixed l.digest l.count) l.list l.word-index
