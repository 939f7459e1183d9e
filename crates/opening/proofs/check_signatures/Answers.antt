use Rattle.opening.proofs.OpeningLaws.{signs, signed_no}
use native.Mathlib.Omega.{arith}
use Rattle.index.proofs.AnswerLaws.{answer-up}
use Rattle.opening.proofs.check_signatures.Goals as goal

pub loop-init : goal.loop-init
loop-init c = search signs

pub returns-in_err-one : goal.returns-in_err-one
returns-in_err-one c = search signs

pub returns-in_err-check_signature : goal.returns-in_err-check_signature
returns-in_err-check_signature c =
    answer-up (λ a. a) _ _ _ c.from_residual-in_err-check_signature.ensures
    (signed_no _ _ _ _ _ c.loop.invariant _ _ (omega arith) c.in_ok-one.ensures _ c.in_err-check_signature.ensures)

pub loop-preserved : goal.loop-preserved
loop-preserved c = search signs

pub returns : goal.returns
returns c = search signs
