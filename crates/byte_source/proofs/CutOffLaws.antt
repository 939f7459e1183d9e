-- A read whose refusal 1 goes by another number: what it gives is what the read gives, of which only a view may be known.
use Prim.Native.Nat.{ℕ}
use mathlib.Core.Path.{◌≡◌, refl, ap, ◌∙◌}
use mathlib.Core.Bool.{Bool, true, false, cond}
use mathlib.Core.List.{[], ◌∷◌}
use lib.Dec.{eqb}
use Rattle.std.specs.Prelude.{Result, Ok, Err}
use Rattle.std.specs.Result.{MatchResult, IsErrAnd}
use Rattle.parsing.specs.Parse.{Res, ok, no, map_res, renumbered}
use Rattle.error.specs.Refusals.{refused, in_index, in_tile_head}
use Rattle.error.specs.declared.Refusal.{Refusal}
use Rattle.error.proofs.RefusalLaws.{in-index, in-tile-head}
use Rattle.byte_source.specs.Answers.{read_by}

-- what a `map_err` makes of what a read answers
abbrev pub Mapped : {T : Type 0} → (Refusal → Refusal) → (g g' : Result T Refusal) → Type 0
Mapped f g g' = MatchResult g (λ x. g' ≡ Ok x) (λ e. IsErrAnd g' (λ d. d ≡ f e))

module _ {T C : Type 0} (view : T → C) (k w : ℕ) (f : Refusal → Refusal) (law : (e : Refusal) → refused {A = C} (f e) ≡ renumbered k w (refused e)) where
  mapped : (r : Res C) (g g' : Result (T × ℕ) Refusal) → Mapped f g g' → read_by view g ≡ r → read_by view g' ≡ renumbered k w r
  mapped r (Ok (v, n)) g' h q = ap (read_by view) h ∙ ap (renumbered k w) q
  mapped r (Err e) (Ok x) h q = absurd h
  mapped r (Err e) (Err d) h q = ap refused h ∙ law e ∙ ap (renumbered k w) q

pub mapped-index : {T C : Type 0} (view : T → C) (w : ℕ) (r : Res C) (g g' : Result (T × ℕ) Refusal) → Mapped (in_index w) g g' → read_by view g ≡ r → read_by view g' ≡ renumbered 19 w r
mapped-index view w r g g' h q = mapped view 19 w (in_index w) (in-index w) r g g' h q

pub mapped-head : {T C : Type 0} (view : T → C) (w : ℕ) (r : Res C) (g g' : Result (T × ℕ) Refusal) → Mapped (in_tile_head w) g g' → read_by view g ≡ r → read_by view g' ≡ renumbered 20 w r
mapped-head view w r g g' h q = mapped view 20 w (in_tile_head w) (in-tile-head w) r g g' h q

pub renumbered-map : {A B : Type 0} (f : A → B) (k w : ℕ) (r : Res A) → renumbered k w (map_res f r) ≡ map_res f (renumbered k w r)
renumbered-map f k w (ok a e) = refl
renumbered-map f k w (no j v) = go (eqb j 1)
  where
    go : (c : Bool) → cond c (no k (w ∷ [])) (no j v) ≡ map_res f (cond c (no k (w ∷ [])) (no j v))
    go true = refl
    go false = refl
