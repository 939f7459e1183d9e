-- Tests whose outcome a bool holds: r is what a call gave, c what the definition says.
use mathlib.Core.Path.{◌≡◌, sym, ◌∙◌}
use mathlib.Core.Bool.{Bool, true, false, cond, ◌&&◌}
use borrow.Author.Tests.{not-true, not-false}
use Rattle.parsing.specs.Parse.{Res}

module _ (r c : Bool) where
  pub flag_is : (b : Bool) → r ≡ c → r ≡ b → b ≡ c
  flag_is b h k = sym k ∙ h

  pub flag-yes : {B : Type 0} (x p q : Res B) → r ≡ c → r ≡ true → x ≡ p → x ≡ cond c p q
  flag-yes x p q h k e = rw (sym h ∙ k) e

  pub flag-no : {B : Type 0} (x p q : Res B) → r ≡ c → r ≡ false → x ≡ q → x ≡ cond c p q
  flag-no x p q h k e = rw (sym h ∙ k) e

module _ (c d : Bool) where
  pub and_no : false ≡ c → false ≡ c && d
  and_no h = rw (sym h)

  pub and-on : (x : Bool) → true ≡ c → x ≡ d → x ≡ c && d
  and-on x h e = rw (sym h) e

pub ruleset flags = (flag_is, flag-yes, flag-no, and_no, and-on, not-true, not-false)
