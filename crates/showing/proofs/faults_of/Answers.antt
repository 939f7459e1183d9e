use Rattle.std.proofs.Common.{◌*◌, ◌≤◌, arith}
use Rattle.showing.proofs.ShowingLaws.{twice_found, none_found, found_le}
use Rattle.showing.proofs.faults_of.Goals as goal

pub overflow_add-result : goal.overflow_add-result
overflow_add-result c = let b : c.first_twice.result ≤ c.args.n = found_le _ _ _ _ c.first_twice.ensures in omega arith

pub overflow_add-result-2 : goal.overflow_add-result-2
overflow_add-result-2 c = let b : c.first_none.result ≤ c.args.n = found_le _ _ _ _ c.first_none.ensures in omega arith

pub returns-clause-overlap_value : goal.returns-clause-overlap_value
returns-clause-overlap_value c =
    twice_found _ (8192 * c.args.stretch) _ _ (omega arith) c.count_rules.ensures _ c.first_twice.ensures

pub returns-clause-gap_value : goal.returns-clause-gap_value
returns-clause-gap_value c =
    none_found _ (8192 * c.args.stretch) _ _ (omega arith) c.count_rules.ensures _ c.first_none.ensures
