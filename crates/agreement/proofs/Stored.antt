-- What was read, where only a view of it is known: a value with that view, or the same refusal.
use Prim.Native.Nat.{ℕ}
use mathlib.Core.Path.{◌≡◌, sym, ap}
use mathlib.Core.List.{List}
use Rattle.parsing.specs.Parse.{Res, ok, no, map_res}
use Rattle.parsing.specs.Good.{ok-val, ok_at, no_ok}

pub record Stored {A C : Type 0} (view : A → C) (v : C) (n : ℕ) (r : Res A) : Type 0 where
  pub value : A
  pub shown : v ≡ view value
  pub same : r ≡ ok value n

pub stored : {A C : Type 0} (view : A → C) (v : C) (n : ℕ) (r : Res A) → ok v n ≡ map_res view r → Stored view v n r
stored view v n (ok a e) q = record { value = a; shown = ok-val q; same = ap (ok a) (sym (ok_at q)) }
stored view v n (no k l) q = no_ok (sym q)

pub stopped : {A C : Type 0} (view : A → C) (k : ℕ) (l : List ℕ) (r : Res A) → no k l ≡ map_res view r → r ≡ no k l
stopped view k l (ok a e) q = no_ok q
stopped view k l (no x y) q = cc
