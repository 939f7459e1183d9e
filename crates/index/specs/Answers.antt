-- The answers of tile.rs and visit.rs as the format's results; a refusal goes by document 01's number and values ("Answers other
-- than a result").
use Rattle.std.specs.Prelude.{Option, Some, None, Result, Ok, Err}
use Rattle.parsing.specs.Parse.{Res, and_then, Maybe, none, some}
use Rattle.error.specs.Refusals.{refused, lent_refused}
use Rattle.error.specs.declared.LentRefusal.{LentRefusal}
use Rattle.error.specs.declared.Refusal.{Refusal}
use Rattle.arithmetic.specs.Cut.{cut}
use Rattle.format.specs.Header.{Interval}
use Rattle.format.specs.Index.{answer, Entry}
use Rattle.types.specs.Types.{interval_of}
use Rattle.types.specs.declared.ZoomInterval.{ZoomInterval}
use Rattle.index.specs.declared.TileIndexEntry.{TileIndexEntry}

-- a value that may be absent, seen as the format has it
abbrev pub maybe_by : {A C : Type 0} → (A → C) → Option A → Maybe C
maybe_by view None = none
maybe_by view (Some a) = some (view a)

abbrev pub maybe : {A : Type 0} → Option A → Maybe A
maybe o = maybe_by (λ a. a) o

abbrev pub interval_found : Option ZoomInterval → Maybe Interval
interval_found o = maybe_by interval_of o

-- an answer that no read goes on from, seen as the format has it, or a refusal
abbrev pub answer_by : {A C : Type 0} → (A → C) → Result A Refusal → Res C
answer_by view (Ok a) = answer (view a)
answer_by view (Err r) = refused r

abbrev pub answer_res : {A : Type 0} → Result A Refusal → Res A
answer_res g = answer_by (λ a. a) g

-- the same of an answer that may be 15
abbrev pub lent_answer : {A : Type 0} → Result A LentRefusal → Res A
lent_answer (Ok a) = answer a
lent_answer (Err r) = lent_refused r

-- an entry as the code holds it: 2 ^ 64 - 1 stands for an absolute offset above it, and no read goes on behind the entry
abbrev pub held_entry : Entry → TileIndexEntry
held_entry e = record { is_water = e.water; offset = e.offset; offset_abs = cut e.absolute }

abbrev pub held_res : Res Entry → Res TileIndexEntry
held_res r = and_then r (λ e _. answer (held_entry e))
