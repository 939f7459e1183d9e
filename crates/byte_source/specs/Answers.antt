-- What a read answers, as the format has it.
use Rattle.std.specs.Prelude.{ℕ, List, take, drop, Result, Ok, Err}
use Rattle.parsing.specs.Parse.{Res, ok, Part}
use Rattle.error.specs.Refusals.{refused, lent_refused}
use Rattle.error.specs.declared.LentRefusal.{LentRefusal}
use Rattle.error.specs.declared.Refusal.{Refusal}
use Rattle.byte_source.specs.declared.Span.{Span}

-- a value, seen as the format has it, with the place behind it, or a refusal
abbrev pub read_by : {A C : Type 0} → (A → C) → Result (A × ℕ) Refusal → Res C
read_by view (Ok (a, n)) = ok (view a) n
read_by view (Err r) = refused r

abbrev pub read_res : {A : Type 0} → Result (A × ℕ) Refusal → Res A
read_res g = read_by (λ a. a) g

-- the same of a read that may be refused with 15
abbrev pub lent_res : {A : Type 0} → Result (A × ℕ) LentRefusal → Res A
lent_res (Ok (a, n)) = ok a n
lent_res (Err r) = lent_refused r

-- the bytes of a part of the map
abbrev pub span_bytes : List ℕ → Span → List ℕ
span_bytes map s = take s.size (drop s.start map)

-- a part as the map holds it
abbrev pub part_in : List ℕ → Span → Part
part_in map s = record { start = s.start; size = s.size; bytes = span_bytes map s }
