-- The header's first fields, in definitions that go on from them; comparisons of bytes; bytes that were read as a part.
use Prim.Native.Nat.{ℕ}
use mathlib.Core.Path.{◌≡◌, sym, ap, ◌∙◌}
use mathlib.Core.Bool.{Bool, true, false, cond}
use mathlib.Core.List.{List}
use Rattle.parsing.specs.Parse.{Res, ok, and_then, chunk, Part, part}
use Rattle.parsing.proofs.Views.{viewed, view-stop}
use Rattle.parsing.proofs.Flags.{flags, flag-yes, flag-no}
use Rattle.error.specs.Refusals.{refused}
use Rattle.error.specs.declared.Refusal.{Refusal}
use Rattle.utils.proofs.NumberLaws as numbers
use Rattle.format.specs.Header.{same}

-- bytes l that a call compared, known to be k
module _ {B : Type 0} (r : Bool) (l k t : List ℕ) (x p q : Res B) where
  pub same-yes : r ≡ same l t → l ≡ k → r ≡ true → x ≡ p → x ≡ cond (same k t) p q
  same-yes h e d z = flag-yes r (same k t) x p q (h ∙ ap (λ (a : List ℕ). same a t) e) d z

  pub same-no : r ≡ same l t → l ≡ k → r ≡ false → x ≡ q → x ≡ cond (same k t) p q
  same-no h e d z = flag-no r (same k t) x p q (h ∙ ap (λ (a : List ℕ). same a t) e) d z

-- bytes that were read as a part, in a definition that goes on from the bytes alone
abbrev part_at : ℕ → ℕ → List ℕ → Part
part_at at n b = record { start = at; size = n; bytes = b }

module _ {B : Type 0} (m : List ℕ) (n at : ℕ) where
  pub chunk-on : (v : Part) (e : ℕ) (f : List ℕ → ℕ → Res B) (x : Res B) → ok v e ≡ part n m at → x ≡ f v.bytes e → x ≡ and_then (chunk n m at) f
  unfolding part
  chunk-on v e f x q p = viewed (part_at at n) (chunk n m at) f (sym q) (λ b w. p ∙ ap (λ (a : Part). f a.bytes e) w)

  pub chunk-refused : (e : Refusal) (f : List ℕ → ℕ → Res B) → refused e ≡ part n m at → refused e ≡ and_then (chunk n m at) f
  unfolding part
  chunk-refused e f q = view-stop (part_at at n) (chunk n m at) f (sym q)

pub ruleset reads = (numbers.reads, flags, same-yes, same-no, chunk-on, chunk-refused)
