-- A point's elevation as words, how the other program reads them, and that nothing is lost on the way.
use Rattle.std.specs.Prelude.{ℕ, ℤ, pos, ◌≡◌, refl, Option, Some, None}
use Rattle.wire.specs.Wire.{there}
use Rattle.wire.specs.declared.MetreWords.{MetreWords}

abbrev pub metre_words : Option ℤ → MetreWords
metre_words None = record { present = 0; metres = pos 0 }
metre_words (Some m) = record { present = 1; metres = m }

abbrev pub metres_in : (present : ℕ) → ℤ → Option ℤ
metres_in p m = there p None (Some m)

pub metres-back : (e : Option ℤ) → metres_in (metre_words e).present (metre_words e).metres ≡ e
metres-back None = refl
metres-back (Some m) = refl
