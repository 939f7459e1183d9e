-- The answers of the index as words (compare/src/maps has the same): 0 for none, 1 in front of what there is.
use Rattle.std.specs.Prelude.{ℕ, cond, [], ◌∷◌, Option, Some, None, Result, Ok, Err}
use Rattle.error.specs.declared.Refusal.{Refusal}
use Rattle.index.specs.declared.TileIndexEntry.{TileIndexEntry}
use Rattle.report.specs.declared.Words.{Words}
use Rattle.questions.specs.Answers.{answered, refusal_words}

abbrev pub number_words : Option ℕ → Words
number_words None = answered (0 ∷ [])
number_words (Some k) = answered (1 ∷ k ∷ [])

abbrev pub answer_words : Result (Option ℕ) Refusal → Words
answer_words (Ok n) = number_words n
answer_words (Err r) = refusal_words r

abbrev pub entry_words : Result TileIndexEntry Refusal → Words
entry_words (Ok e) = answered (cond e.is_water 1 0 ∷ e.offset ∷ e.offset_abs ∷ [])
entry_words (Err r) = refusal_words r
