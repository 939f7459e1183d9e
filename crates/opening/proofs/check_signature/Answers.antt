use Rattle.index.proofs.AnswerLaws.{answer-up}
use Rattle.opening.proofs.OpeningLaws.{signature-lost, signature-held, signature-other}
use Rattle.opening.proofs.check_signature.Goals as goal

pub returns-in_err-span : goal.returns-in_err-span
returns-in_err-span c = answer-up (λ a. a) _ _ _ c.from_residual.ensures (signature-lost _ _ _ c.in_err-span.ensures)

pub returns-then-same_bytes : goal.returns-then-same_bytes
returns-then-same_bytes c =
    signature-held _ _ _ _ c.in_ok-span.ensures _ _ c.span_bytes-bytes.ensures c.same_bytes.ensures c.if-same_bytes.true

pub returns : goal.returns
returns c =
    signature-other _ _ _ _ c.in_ok-span.ensures _ _ c.span_bytes-bytes.ensures c.same_bytes.ensures c.if-same_bytes.false
