use native.Mathlib.Omega.{arith}
use lib.ListN.{get_or-replicate}
use Rattle.showing.proofs.stretch_faults.Goals as goal

pub faults_of-requires-clause-by_index : goal.faults_of-requires-clause-by_index
faults_of-requires-clause-by_index c =
    (λ j h. get_or-replicate 8192 j 0 0 (omega arith))
