-- Format document, "Way data"; document 01, way.rs and refusal 10: a way's geometry as stored.
use Rattle.std.specs.Prelude.{ℕ, ◌^◌, ◌&&◌, List, [], ◌∷◌, ◌++◌, leb, ℤ, length}
use Rattle.parsing.specs.Parse.{Parser, ◌>>=◌, return, fail, pick, many}
use Rattle.parsing.specs.Good.{Good, Strict, total}
use Rattle.utils.specs.Vbe.{Noted, noted, values_of, all_plain, noted_unsigned, noted_coordinate, numbers, numbers-strict}

-- a position in microdegrees, as stored: in a block the first node's; of a later one its delta, or the delta of its delta
pub record Node : Type 0 where
  pub latitude : ℤ
  pub longitude : ℤ

unfoldable pub node : Parser (Noted Node)
node = do
  latitude ← noted_coordinate
  longitude ← noted_coordinate
  return (noted (record { latitude = latitude.value; longitude = longitude.value }) (latitude.plain && longitude.plain))

-- a number, and that many values
abbrev pub counted : {A : Type 0} → Noted ℕ → List (Noted A) → Noted (List A)
counted n l = noted (values_of l) (n.plain && all_plain l)

-- a way coordinate block: a number of nodes, at most 2 ^ 20, and the nodes
unfoldable pub block : Parser (Noted (List Node))
block = do
  n ← noted_unsigned
  pick (leb n.value (2 ^ 20)) (do
    l ← many node n.value
    return (counted n l)) (fail 10 [])

-- a way data block: a number of way coordinate blocks, and the blocks
unfoldable pub data_block : Parser (Noted (List (List Node)))
data_block = do
  n ← noted_unsigned
  l ← many block n.value
  return (counted n l)

-- the way data blocks of a way, whose number stands in its properties
unfoldable pub way_data : ℕ → Parser (List (Noted (List (List Node))))
way_data k = many data_block k

-- the lists of a list, one behind the other: of a way's data, the coordinate blocks that are delivered
abbrev pub concat : {A : Type 0} → List (List A) → List A
concat [] = []
concat (x ∷ l) = x ++ concat l

-- how many nodes these blocks have
abbrev pub node_count : List (List Node) → ℕ
node_count blocks = total length blocks

-- the laws
pub node-good : Good node
unfolding node
node-good = search numbers

pub block-good : Good block
unfolding block
block-good = search (numbers, node-good) depth 12

pub data_block-good : Good data_block
unfolding data_block
data_block-good = search (numbers, block-good)

pub way_data-good : (k : ℕ) → Good (way_data k)
unfolding way_data
way_data-good k = search (numbers, data_block-good)

pub node-strict : Strict node
unfolding node
node-strict = search numbers-strict

pub block-strict : Strict block
unfolding block
block-strict = search (numbers-strict, node-good)

pub data_block-strict : Strict data_block
unfolding data_block
data_block-strict = search (numbers-strict, block-good)
