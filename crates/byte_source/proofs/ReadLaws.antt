-- A read that was made, in a definition that goes on from it: its value, and its refusal, which a `?` hands up.
use Prim.Native.Nat.{ℕ, ◌<◌, ◌^◌}
use lib.IntN.{ℤ}
use lib.Signed.{mag}
use mir.Syntax.{w32}
use mir.Val.{to_z, of_z}
use mir.Facts.{to_z-of_z}
use mathlib.Core.List.{List}
use mathlib.Core.Path.{◌≡◌, sym, ap, ◌∙◌}
use Rattle.std.specs.Prelude.{Result, Ok, Err}
use Rattle.std.specs.Result.{IsErr, IsErrAnd}
use Rattle.parsing.specs.Parse.{Res, ok, Parser, and_then, map_res, many}
use Rattle.parsing.proofs.Loops.{view-no}
use Rattle.parsing.proofs.Views.{viewed, view-stop}
use Rattle.parsing.proofs.Steps as steps
use Rattle.error.specs.Refusals.{refused}
use Rattle.error.specs.declared.Refusal.{Refusal}
use Rattle.byte_source.specs.Answers.{read_by}

module _ {A B : Type 0} where
  -- the rest of the definition, at the value that was read
  pub went-on : (v : A) (n : ℕ) (r : Res A) (f : A → ℕ → Res B) (x : Res B) → ok v n ≡ r → x ≡ f v n → x ≡ and_then r f
  went-on v n r f x e p = p ∙ ap (λ q. and_then q f) e

  pub refused-on : (e : Refusal) (r : Res A) (f : A → ℕ → Res B) → refused e ≡ r → refused e ≡ and_then r f
  refused-on e r f p = ap (λ q. and_then q f) p

-- the code's local holds a signed number's bits, and its value is read back from them
pub int-on : {B : Type 0} (v : ℤ) (n : ℕ) (r : Res ℤ) (f : ℤ → ℕ → Res B) (x : Res B) → ok v n ≡ r → mag v < 2 ^ 31 → x ≡ f (to_z w32 (of_z w32 v)) n → x ≡ and_then r f
int-on v n r f x e m p = went-on v n r f x e (rw (to_z-of_z {w = w32} {z = v} (record { sfits = m })) at p)

-- the same where only a view of what is stored is known
module _ {A B C : Type 0} (view : A → C) where
  pub view-on : (v : C) (n : ℕ) (r : Res A) (f : A → ℕ → Res B) (x : Res B) → ok v n ≡ map_res view r → ((a : A) → v ≡ view a → x ≡ f a n) → x ≡ and_then r f
  view-on v n r f x e p = viewed view r f (sym e) p

  pub view-refused : (e : Refusal) (r : Res A) (f : A → ℕ → Res B) → refused e ≡ map_res view r → refused e ≡ and_then r f
  view-refused e r f p = view-stop view r f (sym p)

-- what a `?` hands up is the refusal that it met
pub met : {T E : Type 0} {g : Result T E} {e : E} → IsErr g × IsErrAnd g (λ x. x ≡ e) → g ≡ Err e
met {g = Ok v} h = absurd h.1
met {g = Err x} h = ap Err h.1

pub handed-up : {A C : Type 0} (view : C → A) (g : Result (C × ℕ) Refusal) (e : Refusal) (r : Res A) → IsErr g × IsErrAnd g (λ x. x ≡ e) → refused e ≡ r → read_by view g ≡ r
handed-up view g e r h p = ap (read_by view) (met h) ∙ p

-- a read that is refused in a loop, of whose values only views are known: f of those that were read, w of the one that is refused
pub loop-refused : {A B C : Type 0} (p : Parser A) (f : List A → B) (w : A → C) (s : List ℕ) (i k at n : ℕ) (b : B) (e : Refusal) → ok b n ≡ map_res f (many p i s at) → refused e ≡ map_res w (p s n) → i < k → refused e ≡ many p k s at
loop-refused p f w s i k at n v e a q b = sym (view-no p s f w i k at (sym a) (sym q) b)

pub ruleset reads = (steps.reads, went-on, int-on, refused-on, handed-up)
