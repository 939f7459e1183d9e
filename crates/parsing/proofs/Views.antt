-- A result that is known only by a view of its value: what holds of every value with that view holds.
use Prim.Native.Nat.{ℕ}
use mathlib.Core.Path.{◌≡◌, sym, ap, ◌∙◌}
use mathlib.Core.List.{List}
use Rattle.parsing.specs.Parse.{Res, ok, no, and_then, map_res}
use Rattle.parsing.specs.Good.{ok-val, ok_at, no_ok}

module _ {A B C : Type 0} (view : A → C) where
  pub viewed : {v : C} {n : ℕ} (r : Res A) (f : A → ℕ → Res B) {x : Res B} → map_res view r ≡ ok v n → ((a : A) → v ≡ view a → x ≡ f a n) → x ≡ and_then r f
  viewed (ok a e) f q p = p a (sym (ok-val q)) ∙ ap (f a) (sym (ok_at q))
  viewed (no k l) f q p = no_ok q

  -- a refusal is the same in every view
  pub view-stop : {k : ℕ} {l : List ℕ} (r : Res A) (f : A → ℕ → Res B) → map_res view r ≡ no k l → no k l ≡ and_then r f
  view-stop (ok a e) f q = no_ok (sym q)
  view-stop (no k l) f q = cc
