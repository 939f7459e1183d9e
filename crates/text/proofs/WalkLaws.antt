-- A turn of a walk over the text s.
use Rattle.std.proofs.Common.{◌≡◌, ℕ, ◌+◌, ◌<◌, ◌≤◌, List, length, ◌∙◌}
use Rattle.text.specs.declared.Sequence.{Sequence}
use Rattle.text.specs.declared.Sequences.{Sequences}
use Rattle.text.specs.Utf8.{sequence_at, size_of}
use Rattle.text.specs.Sequences.{Gives}

pub record Turn (s : List ℕ) (at : ℕ) (p : Sequence) (new : Sequences) : Type 0 where
  pub inside : at < length s
  pub is : p ≡ sequence_at s at
  pub text : new.text.now ≡ s
  pub next : new.at ≡ at + size_of p

pub turn : {s : List ℕ} {old new : Sequences} {at : ℕ} {p : Sequence} → old.text.now ≡ s → Gives old at p new → Turn s old.at p new
turn {s} {old} {new} {at} {p} e g =
    record { inside = rw e at g.inside; is = rw e at g.is; text = g.text ∙ e; next = g.next }

-- where the walk ends
pub walked : (s : List ℕ) (old : Sequences) → old.text.now ≡ s → length old.text.now ≤ old.at → length s ≤ old.at
walked s old e g = rw e at g
