-- Document 01, way.rs: a block's nodes in degrees. Node 0 is as stored; later nodes add a delta, or in double delta a delta that is
-- itself summed; every step rounds once, in the order of the Rust's `decode_way_nodes`. (The format document's pseudocode takes
-- the double delta from the sums: in exact numbers the same.)
use Rattle.std.specs.Prelude.{◌≡◌, refl, Bool, cond, List, [], ◌∷◌, map, ℕ, suc, ℤ, length, Float}
use Rattle.std.proofs.Common.{ap}
use Rattle.std.specs.Float.Ieee as Ieee
use Rattle.std.specs.Float.{binary64}
use Rattle.utils.specs.Degree.{degrees}
use Rattle.format.specs.WayData.{Node, concat}
use Rattle.format.specs.Lent.{LentLists}

abbrev pub zero64 : Float
zero64 = Ieee.of_bits binary64 0

-- a node's delta, from the delta of the node before it and the degrees stored
abbrev pub next_delta : Bool → Float → Float → Float
next_delta double delta stored = cond double (Ieee.add binary64 delta stored) stored

-- the nodes behind one at `last` that was reached by `delta`
abbrev pub later_nodes : Bool → Float → Float → List ℤ → List Float
later_nodes double last delta [] = []
later_nodes double last delta (z ∷ l) =
    let next = next_delta double delta (degrees z) in
    let at = Ieee.add binary64 last next in
    at ∷ later_nodes double at next l

-- one coordinate of all nodes of a block
abbrev pub block_nodes : Bool → List ℤ → List Float
block_nodes double [] = []
block_nodes double (z ∷ l) = degrees z ∷ later_nodes double (degrees z) zero64 l

-- a block's initial position: its node 0, or 0 and 0 if it is empty
abbrev pub initial_node : List ℤ → Float
initial_node [] = zero64
initial_node (z ∷ l) = degrees z

abbrev pub latitude_of : Node → ℤ
latitude_of n = n.latitude

abbrev pub longitude_of : Node → ℤ
longitude_of n = n.longitude

-- of all blocks of a way: node counts, latitudes and longitudes, and the initial positions
abbrev pub node_counts : List (List Node) → List ℕ
node_counts blocks = map length blocks

abbrev pub latitudes : Bool → List (List Node) → List Float
latitudes double blocks = concat (map (λ b. block_nodes double (map latitude_of b)) blocks)

abbrev pub longitudes : Bool → List (List Node) → List Float
longitudes double blocks = concat (map (λ b. block_nodes double (map longitude_of b)) blocks)

abbrev pub way_lists : Bool → List (List Node) → LentLists
way_lists double blocks = record { counts = node_counts blocks; latitudes = latitudes double blocks; longitudes = longitudes double blocks }

abbrev pub initial_latitudes : List (List Node) → List Float
initial_latitudes blocks = map (λ b. initial_node (map latitude_of b)) blocks

abbrev pub initial_longitudes : List (List Node) → List Float
initial_longitudes blocks = map (λ b. initial_node (map longitude_of b)) blocks
