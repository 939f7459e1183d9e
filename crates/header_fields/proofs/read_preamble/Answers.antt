use Rattle.byte_source.proofs.ReadLaws.{handed-up}
use Rattle.format.specs.Header.{preamble}
use Rattle.header_fields.specs.Fields.{preamble_of}
use Rattle.header_fields.proofs.FieldLaws.{same-yes, same-no, chunk-on, chunk-refused}
use Rattle.header_fields.proofs.read_preamble.Goals as goal
use mathlib.Core.Path.{refl}

pub returns-in_err-span : goal.returns-in_err-span
unfolding preamble
returns-in_err-span c =
    handed-up preamble_of _ _ _ c.from_residual.ensures (chunk-refused _ 20 _ _ _ c.in_err-span.ensures)

pub returns-then-same_bytes : goal.returns-then-same_bytes
unfolding preamble
returns-then-same_bytes c =
    chunk-on _ 20 _ _ _ _ _ c.in_ok-span.ensures
    (same-yes _ _ _ _ _ _ _ c.same_bytes.ensures c.span_bytes-bytes.ensures c.if-same_bytes.true c.read_versioned.ensures)

pub returns : goal.returns
unfolding preamble
returns c =
    chunk-on _ 20 _ _ _ _ _ c.in_ok-span.ensures
    (same-no _ _ _ _ _ _ _ c.same_bytes.ensures c.span_bytes-bytes.ensures c.if-same_bytes.false refl)
