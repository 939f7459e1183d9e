-- The number of a question, from what the reader answered.
use Prim.Native.Nat.{ℕ}
use mathlib.Core.Path.{◌≡◌, ap, ◌∙◌}
use Rattle.std.specs.Prelude.{Result, Ok, Err}
use Rattle.std.specs.Result.{MatchResult}
use Rattle.parsing.specs.Parse.{Res}
use Rattle.error.specs.declared.Refusal.{Refusal}
use Rattle.byte_source.specs.Answers.{read_res}
use Rattle.questions.specs.Numbers.{value_or}

pub found : {A : Type 0} (g : Result (A × ℕ) Refusal) (d : A) (r : Res A) (x : A) → read_res g ≡ r → MatchResult g (λ v. x ≡ v.0) (λ _. x ≡ d) → x ≡ value_or d r
found (Ok (v, n)) d r x e h = h ∙ ap (value_or d) e
found (Err z) d r x e h = h ∙ ap (value_or d) e
