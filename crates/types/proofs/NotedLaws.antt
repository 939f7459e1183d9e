-- Noted values, one more of them.
use mathlib.Core.Path.{◌≡◌, refl, ap}
use mathlib.Core.Bool.{Bool, true, false, ◌&&◌}
use mathlib.Core.List.{List, [], ◌∷◌, ◌++◌}
use Prim.Native.Nat.{suc}
use lib.ListN.{length}
use Rattle.utils.specs.Vbe.{Noted, values_of, all_plain}

pub and_assoc : (a b c : Bool) → (a && (b && c)) ≡ (a && b && c)
and_assoc true b c = refl
and_assoc false b c = refl

pub and-true : (a : Bool) → (a && true) ≡ a
and-true true = refl
and-true false = refl

module _ {A : Type 0} where
  pub values_length : (l : List (Noted A)) → length (values_of l) ≡ length l
  values_length [] = refl
  values_length (a ∷ l) = ap suc (values_length l)

  pub values-snoc : (l : List (Noted A)) (a : Noted A) → values_of (l ++ (a ∷ [])) ≡ values_of l ++ (a.value ∷ [])
  values-snoc [] a = refl
  values-snoc (b ∷ l) a = ap (λ z. b.value ∷ z) (values-snoc l a)

  pub plain-snoc : (l : List (Noted A)) (a : Noted A) → all_plain (l ++ (a ∷ [])) ≡ (all_plain l && a.plain)
  plain-snoc [] a = and-true a.plain
  plain-snoc (b ∷ l) a = rw (plain-snoc l a) (and_assoc b.plain (all_plain l) a.plain)
