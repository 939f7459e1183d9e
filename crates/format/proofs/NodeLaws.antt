-- Laws of specs/Nodes.antt that an edit of its definitions must break.
use Rattle.std.specs.Prelude.{◌≡◌, refl, Bool, cond, List, [], ◌∷◌, map, ℕ, suc, ℤ, length, Float}
use Rattle.std.proofs.Common.{ap}
use Rattle.std.specs.Float.Ieee as Ieee
use Rattle.std.specs.Float.{binary64}
use Rattle.utils.specs.Degree.{degrees}
use Rattle.format.specs.WayData.{Node, concat}
use Rattle.format.specs.Lent.{LentLists}
use Rattle.format.specs.Nodes.{next_delta, later_nodes, block_nodes}

-- the laws: each node has its coordinate
length-later_nodes : (double : Bool) (last delta : Float) (l : List ℤ) → length (later_nodes double last delta l) ≡ length l
length-later_nodes double last delta [] = refl
length-later_nodes double last delta (z ∷ l) =
    let next = next_delta double delta (degrees z) in
    ap suc (length-later_nodes double (Ieee.add binary64 last next) next l)

pub length-block_nodes : (double : Bool) (l : List ℤ) → length (block_nodes double l) ≡ length l
length-block_nodes double [] = refl
length-block_nodes double (z ∷ l) = ap suc (length-later_nodes double _ _ l)
