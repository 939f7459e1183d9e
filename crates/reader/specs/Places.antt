-- What a parser reads where the reader stands, the reader at another place, and the place behind an answer: where it is refused, the old one.
use Rattle.std.specs.Prelude.{ℕ, List, Result, Ok, Err}
use Rattle.parsing.specs.Parse.{Res}
use Rattle.error.specs.declared.Refusal.{Refusal}
use Rattle.reader.specs.declared.Reader.{Reader}

abbrev pub read_at : {A : Type 0} → (List ℕ → ℕ → Res A) → Reader → Res A
read_at p r = p r.src.now r.at

abbrev pub moved_to : Reader → ℕ → Reader
moved_to r n = record { src = r.src; at = n }

abbrev pub next_of : {A : Type 0} → ℕ → Result (A × ℕ) Refusal → ℕ
next_of at (Ok (v, n)) = n
next_of at (Err r) = at
