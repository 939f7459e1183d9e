-- The line that is printed of an answer.
use Rattle.std.specs.Prelude.{ℕ, List, [], ◌∷◌, ◌++◌, take, min}
use Rattle.std.specs.Fmt.{decimal}
use Rattle.std.specs.List.{flat_map}
use Rattle.report.specs.declared.Words.{Words}

-- a word behind a space
abbrev pub word_text : ℕ → List ℕ
word_text n = 32 ∷ decimal n

abbrev pub words_text : List ℕ → List ℕ
words_text ws = flat_map word_text ws

-- the letter of what was asked, the words of the answer, and the line's end
unfoldable pub line_of : ℕ → Words → List ℕ
line_of l w = l ∷ (words_text (take (min w.count 40) w.words) ++ (10 ∷ []))
