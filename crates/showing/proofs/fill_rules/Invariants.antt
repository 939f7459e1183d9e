use Rattle.showing.specs.Showing.{Filled}
use Rattle.showing.proofs.fill_rules.Given as goal

abbrev pub invariant-loop-k : goal.invariant-loop-k
invariant-loop-k l = Filled l.rules l.k l.initial.classes l.classes
