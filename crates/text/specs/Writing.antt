-- Document 01, "The stream and the collected tile" and refusal 15: a collected text written to a lent buffer.
use Rattle.std.specs.Prelude.{ℕ, ◌+◌, cond, List, length, nat_le, Result, Ok, Err}
use Rattle.std.proofs.lemmas.List.Edits.{sets}
use Rattle.parsing.specs.Parse.{Res, ok, no}
use Rattle.error.specs.Refusals.{lent_refused, lengths}
use Rattle.arithmetic.specs.Cut.{cut}
use Rattle.error.specs.declared.LentRefusal.{LentRefusal}
use Rattle.text.specs.Utf8.{replaced}

-- an answer: the place behind the text, or a refusal's number and values
abbrev pub written_res : Result ℕ LentRefusal → Res Unit
written_res (Ok n) = ok tt n
written_res (Err r) = lent_refused r

-- the answer, and what the buffer then holds
pub record Writing : Type 0 where
  pub answer : Res Unit
  pub buffer : List ℕ

abbrev pub outcome : Result ℕ LentRefusal → List ℕ → Writing
outcome r buffer = record { answer = written_res r; buffer = buffer }

-- the place behind the collected text
abbrev pub place_behind : List ℕ → ℕ → ℕ
place_behind text start = start + length (replaced text)

-- the collected text in the buffer from start on; a buffer that is too short is refused with the length needed, and kept
unfoldable pub writing : List ℕ → List ℕ → ℕ → Writing
writing text buffer start =
    cond (nat_le (place_behind text start) (length buffer))
    (record { answer = ok tt (place_behind text start); buffer = sets buffer start (replaced text) })
    (record { answer = no 15 (lengths 0 0 0 0 0 (cut (place_behind text start))); buffer = buffer })
