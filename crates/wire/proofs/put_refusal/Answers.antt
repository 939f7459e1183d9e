use mathlib.Core.List.{[]}
use Rattle.wire.proofs.CaseLaws.{refusal-plain, refusal-valued}
use Rattle.wire.proofs.put_refusal.Goals as goal

pub returns-in_default : goal.returns-in_default
returns-in_default c = refusal-plain _ _ _ _ [] _ c.in_default.is c.number_of-number.ensures c.value_of.ensures

pub returns-in-Some : goal.returns-in-Some
returns-in-Some c = refusal-valued _ _ _ _ _ _ _ c.in-Some.is c.number_of-number.ensures c.value_of.ensures c.put.ensures
