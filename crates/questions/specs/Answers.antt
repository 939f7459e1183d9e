-- The simplest answers as words (compare/src/answer.rs has the same).
use Rattle.std.specs.Prelude.{ℕ, cond, List, [], ◌∷◌, eqb, take}
use Rattle.error.specs.Refusals.{number_of, values_of, lent_values}
use Rattle.error.specs.declared.LentRefusal.{LentRefusal}
use Rattle.error.specs.declared.LentRefusal.TheVariants.{Refused, Short}
use Rattle.error.specs.declared.Refusal.{Refusal}
use Rattle.report.specs.declared.Words.{Words}
use Rattle.report.specs.Words.{no_words, pushed}

abbrev pub pushed_all : Words → List ℕ → Words
pushed_all w [] = w
pushed_all w (x ∷ xs) = pushed_all (pushed w x) xs

-- a success is 0 and its values
abbrev pub answered : List ℕ → Words
answered xs = pushed_all (pushed no_words 0) xs

-- what stands for document 01's refusal in the Rust: a map that ends in an index entry (19) or in a tile's head (20) is its `Source`
abbrev pub in_rust : {A : Type 0} → (number : ℕ) → (source other : A) → A
in_rust n a b = cond (eqb n 19) a (cond (eqb n 20) a b)

-- a refusal is its number and its values
unfoldable pub refusal_words : Refusal → Words
refusal_words r = pushed_all (pushed no_words (in_rust (number_of r) 1 (number_of r))) (in_rust (number_of r) [] (values_of r))

-- of the six lengths needed those of the first three lists
unfoldable pub lent_refusal_words : LentRefusal → Words
lent_refusal_words (Refused r) = refusal_words r
lent_refusal_words (Short l) = pushed_all (pushed no_words 15) (take 3 (lent_values (Short l)))
