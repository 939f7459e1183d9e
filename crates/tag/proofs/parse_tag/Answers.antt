use Rattle.std.proofs.Common.{rules, nat_eq}
use Rattle.std.proofs.lemmas.Iterator.{YieldsList-from_slice}
use Rattle.std.proofs.lemmas.Iterator.Search.{position_from_yields_List}
use Rattle.tag.proofs.TagLaws.{tag-at, tag-none}
use Rattle.tag.proofs.parse_tag.Goals as goal

pub returns-in-Some : goal.returns-in-Some
returns-in-Some c =
    tag-at _ _ _
    (position_from_yields_List (λ n. nat_eq n 61) _ _ _ c.position.ensures.ran (YieldsList-from_slice c.args.text.now cc) (λ x b q k. search rules))
    _ c.in-Some.is c.new.ensures

pub returns-in-None : goal.returns-in-None
returns-in-None c =
    tag-none _ _ _
    (position_from_yields_List (λ n. nat_eq n 61) _ _ _ c.position.ensures.ran (YieldsList-from_slice c.args.text.now cc) (λ x b q k. search rules))
    c.in-None.is c.new-in-None.ensures
