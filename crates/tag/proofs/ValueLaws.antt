-- An inline value by its kind.
use Prim.Native.Nat.{ℕ}
use mathlib.Core.List.{List}
use mathlib.Core.Path.{◌≡◌, sym, ap, ◌∙◌}
use Rattle.parsing.specs.Parse.{Res, Part}
use Rattle.utils.specs.Vbe.{Noted}
use Rattle.utils.proofs.NumberLaws.{reads}
use Rattle.tag.specs.Value.{value}
use Rattle.tag.specs.declared.Kind.{Kind}

pub value-at : (m : List ℕ) (at : ℕ) (k k' : Kind) (x : Res (Noted Part)) → k ≡ k' → x ≡ value k' m at → x ≡ value k m at
value-at m at k k' x e h = h ∙ ap (λ z. value z m at) (sym e)

pub ruleset values = (reads, value-at)
