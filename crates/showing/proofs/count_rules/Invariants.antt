use Rattle.std.proofs.Common.{◌*◌}
use Rattle.showing.specs.Steps.{Counted}
use Rattle.showing.proofs.count_rules.Given as goal

abbrev pub invariant-loop-k : goal.invariant-loop-k
invariant-loop-k l =
    Counted l.rules l.k (8192 * l.stretch) l.counts
