use lib.Seq.{sets}
use Rattle.initial_positions.specs.Initial.{initials}
use Rattle.initial_positions.proofs.InitialLaws.{InitialsLeft}
use Rattle.initial_positions.proofs.write_initials.Given as goal

abbrev pub invariant-loop-i : goal.invariant-loop-i
invariant-loop-i l =
    InitialsLeft l.node_counts l.values l.initials l.i l.pos (sets l.initial.initials 0 (initials l.node_counts l.values))
