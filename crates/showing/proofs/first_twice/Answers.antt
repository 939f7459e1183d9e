use Rattle.std.proofs.Common.{rules, nat_le}
use Rattle.std.proofs.lemmas.Iterator.{YieldsList-from_slice}
use Rattle.std.proofs.lemmas.Iterator.Search.{position_from_yields_List}
use Rattle.showing.proofs.ShowingLaws.{position-le, unwrapped}
use Rattle.showing.proofs.first_twice.Goals as goal

pub returns : goal.returns
returns c =
    unwrapped _ _ _ _ (position-le (λ n. nat_le 2 n) c.args.counts.now)
    (position_from_yields_List (λ n. nat_le 2 n) _ _ _ c.position.ensures.ran (YieldsList-from_slice c.args.counts.now cc) (λ x b q k. search rules)) c.unwrap_or.ensures
