-- What the walk over a text gives: the sequence at its place, and it goes on behind it.
use Rattle.std.specs.Prelude.{ℕ, ◌≡◌, ◌+◌, ◌<◌, ◌≤◌, length, Option, None, Some}
use Rattle.text.specs.declared.Sequence.{Sequence}
use Rattle.text.specs.declared.Sequences.{Sequences}
use Rattle.text.specs.Utf8.{sequence_at, size_of}

pub record Gives (old : Sequences) (at : ℕ) (p : Sequence) (new : Sequences) : Type 0 where
  pub place : at ≡ old.at
  pub inside : old.at < length old.text.now
  pub is : p ≡ sequence_at old.text.now old.at
  pub text : new.text.now ≡ old.text.now
  pub next : new.at ≡ old.at + size_of p

abbrev pub GivesSequence : Sequences → Option (ℕ × Sequence) → Sequences → Type 0
GivesSequence old None new = length old.text.now ≤ old.at
GivesSequence old (Some x) new = Gives old x.0 x.1 new
