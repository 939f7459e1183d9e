-- What is printed of an answer, one piece behind the other.
use Rattle.std.proofs.Common.{◌≡◌, ℕ, List, [], ◌∷◌, ◌++◌, take, min, ap, ◌∙◌, append_assoc}
use Rattle.std.specs.Prelude.{None, Some, OnOk, Ok, Err, Result}
use Rattle.std.specs.declared.option.Option.{Option}
use Rattle.std.specs.Io.KnownBytes.{Appends}
use Rattle.report.specs.declared.Words.{Words}
use Rattle.report.specs.Lines.{words_text, line_of}

-- two appends in turn
pub appends-more : (a b c : Option (List ℕ)) (xs ys : List ℕ) → Appends a b xs → Appends b c ys → Appends a c (xs ++ ys)
appends-more None b c xs ys f g = tt
appends-more (Some x) None c xs ys f g = absurd f
appends-more (Some x) (Some y) None xs ys f g = absurd g
appends-more (Some x) (Some y) (Some z) xs ys f g = g ∙ ap (λ (t : List ℕ). t ++ ys) f ∙ append_assoc x xs ys

-- the letter, the words and the line's end
pub line-whole : {A E : Type 0} (a b c d : Option (List ℕ)) (l n : ℕ) (w : Words) (r : Result A E) → n ≡ min w.count 40 → Appends a b (l ∷ []) → Appends b c (words_text (take n w.words)) → OnOk r (Appends c d (10 ∷ [])) → OnOk r (Appends a d (line_of l w))
unfolding line_of
line-whole a b c d l n w (Ok x) e f g h =
    let k = appends-more a b d (l ∷ []) (words_text (take n w.words) ++ (10 ∷ [])) f (appends-more b c d (words_text (take n w.words)) (10 ∷ []) g h) in
    rw e at k
line-whole a b c d l n w (Err x) e f g h = tt
