-- What private functions ask and leave, which need not be believed: the test of the lists' lengths, and the second pass, over a way's
-- data that is known to be readable.
use Rattle.std.specs.Prelude.{ℕ, ◌+◌, ◌≤◌, ◌^◌, Bool, ◌||◌, ◌≡◌, List, [], ◌∷◌, map, ltb, leb, ℤ, nat_abs, length, Float}
use Rattle.std.proofs.lemmas.List.Edits.{sets}
use Rattle.std.specs.Float.Ieee as Ieee
use Rattle.std.specs.Float.{binary64}
use Rattle.parsing.specs.Parse.{Res, ok, Parser, ◌>>=◌, return, fail, pick, many, Fine, end_of, list_of}
use Rattle.utils.specs.Vbe.{unsigned, coordinate}
use Rattle.utils.specs.Degree.{degrees}
use Rattle.format.specs.WayData.{Node, node_count}
use Rattle.format.specs.Nodes.{zero64, next_delta, later_nodes, block_nodes, latitude_of, longitude_of, node_counts, latitudes, longitudes}
use Rattle.error.specs.declared.LentRefusal.{LentRefusal}
use Rattle.error.specs.declared.LentRefusal.TheVariants.{Short}
use Rattle.utils.specs.declared.Microdegrees.{Microdegrees}
use Rattle.way_measure.specs.Answers.{node_held}
use Rattle.way_measure.specs.declared.Node.{Node as CodeNode}
use Rattle.way_measure.specs.declared.Sizes.{Sizes}
use Rattle.way_data.specs.declared.Cursor.{Cursor}
use Rattle.way_data.specs.declared.Progress.{Progress}

-- whether a list is shorter than what goes to it, by the lists' lengths
abbrev pub shorter : Sizes → ℕ → ℕ → ℕ → Bool
shorter s counts lats lons = ltb counts s.blocks || ltb lats s.nodes || ltb lons s.nodes

-- the lengths needed: a node count for each block, a latitude and a longitude for each node
abbrev pub too_short : Sizes → LentRefusal
too_short s = Short (record { list1 = s.blocks; list2 = s.nodes; list3 = s.nodes; list4 = 0; list5 = 0; buffer = 0 })

-- what the second pass reads: the values alone
unfoldable pub node_alone : Parser Node
node_alone = do
  latitude ← coordinate
  longitude ← coordinate
  return (record { latitude = latitude; longitude = longitude })

unfoldable pub block_alone : Parser (List Node)
block_alone = do
  n ← unsigned
  pick (leb n (2 ^ 20)) (many node_alone n) (fail 10 [])

unfoldable pub data_block_alone : Parser (List (List Node))
data_block_alone = do
  n ← unsigned
  many block_alone n

-- and what it read, with the place behind it
abbrev pub coordinate_res : Microdegrees × ℕ → Res ℤ
coordinate_res r = ok r.0.0 r.1

abbrev pub node_res : CodeNode × ℕ → Res Node
node_res r = ok (node_held r.0) r.1

-- whose coordinates are exact as floats
abbrev pub Exact : CodeNode → Type 0
Exact n = (nat_abs n.latitude.0 ≤ 2 ^ 53) × (nat_abs n.longitude.0 ≤ 2 ^ 53)

-- a block's first node
abbrev pub start_at : CodeNode → Cursor
start_at n = record { latitude = degrees n.latitude.0; longitude = degrees n.longitude.0; dlat = zero64; dlon = zero64 }

-- a later node
abbrev pub moved_by : Bool → Cursor → CodeNode → Cursor
moved_by double last n =
    let dlat = next_delta double last.dlat (degrees n.latitude.0) in
    let dlon = next_delta double last.dlon (degrees n.longitude.0) in
    record {
      latitude = Ieee.add binary64 last.latitude dlat;
      longitude = Ieee.add binary64 last.longitude dlon;
      dlat = dlat;
      dlon = dlon;
    }

-- the coordinates of some nodes
pub record Coordinates : Type 0 where
  pub lats : List Float
  pub lons : List Float

-- of the nodes behind one where the cursor stands
abbrev pub later : Bool → Cursor → List Node → Coordinates
later double last l = record {
  lats = later_nodes double last.latitude last.dlat (map latitude_of l);
  lons = later_nodes double last.longitude last.dlon (map longitude_of l);
}

-- of all nodes of a block
abbrev pub in_block : Bool → List Node → Coordinates
in_block double l = record { lats = block_nodes double (map latitude_of l); lons = block_nodes double (map longitude_of l) }

-- n nodes are no refusal, and the lists are long enough from `from` on
pub record NodesFit (s : List ℕ) (at n from : ℕ) (la lo : List Float) : Type 0 where
  pub fine : Fine (many node_alone n s at)
  pub lats : from + n ≤ length la
  pub lons : from + n ≤ length lo

-- the coordinates of nodes written to the lists from `from` on, and the place behind the nodes
pub record NodesWritten (f : List Node → Coordinates) (r : Res (List Node)) (from : ℕ) (la₀ lo₀ : List Float) (next : ℕ) (la lo : List Float) : Type 0 where
  pub end : next ≡ end_of r
  pub lats : la ≡ sets la₀ from (f (list_of r)).lats
  pub lons : lo ≡ sets lo₀ from (f (list_of r)).lons

-- a block as the only one of a list
unfoldable pub one_block : Parser (List (List Node))
one_block = do
  b ← block_alone
  return (b ∷ [])

-- blocks are no refusal, and the lists are long enough from p on
pub record BlocksFit (r : Res (List (List Node))) (p : Progress) (c : List ℕ) (la lo : List Float) : Type 0 where
  pub fine : Fine r
  pub counts : p.blocks + length (list_of r) ≤ length c
  pub lats : p.nodes + node_count (list_of r) ≤ length la
  pub lons : p.nodes + node_count (list_of r) ≤ length lo

-- blocks written to the lists from p to q
pub record BlocksWritten (double : Bool) (r : Res (List (List Node))) (p : Progress) (c₀ : List ℕ) (la₀ lo₀ : List Float) (q : Progress) (c : List ℕ) (la lo : List Float) : Type 0 where
  pub end : q.next ≡ end_of r
  pub blocks : q.blocks ≡ p.blocks + length (list_of r)
  pub nodes : q.nodes ≡ p.nodes + node_count (list_of r)
  pub counts : c ≡ sets c₀ p.blocks (node_counts (list_of r))
  pub lats : la ≡ sets la₀ p.nodes (latitudes double (list_of r))
  pub lons : lo ≡ sets lo₀ p.nodes (longitudes double (list_of r))
