-- What the readers answer, as the format has it.
use Rattle.std.specs.Prelude.{ℕ, Bool, ◌&&◌, List, length}
use Rattle.utils.specs.Vbe.{Noted, noted, values_of, all_plain}
use Rattle.format.specs.WayData.{Node, concat, node_count}
use Rattle.way_measure.specs.declared.Node.{Node as Held}
use Rattle.way_measure.specs.declared.Sizes.{Sizes}

abbrev pub node_held : Held → Node
node_held n = record { latitude = n.latitude.0; longitude = n.longitude.0 }

-- how many coordinate blocks, how many nodes they have, and whether every number was plain
abbrev pub sizes_of : Noted (List (List Node)) → Sizes
sizes_of b = record { blocks = length b.value; nodes = node_count b.value; plain = b.plain }

-- the same of a way's data
abbrev pub way_sizes : List (Noted (List (List Node))) → Sizes
way_sizes d = sizes_of (noted (concat (values_of d)) (all_plain d))

-- Of private functions, which need not be believed: how many nodes a block has
abbrev pub count_of : Noted (List Node) → Noted ℕ
count_of b = noted (length b.value) b.plain

-- nodes, and blocks, behind their number, of which p is said
abbrev pub nodes_count : (p : Bool) → List (Noted Node) → Noted ℕ
nodes_count p l = count_of (noted (values_of l) (p && all_plain l))

abbrev pub blocks_sizes : (p : Bool) → List (Noted (List Node)) → Sizes
blocks_sizes p l = sizes_of (noted (values_of l) (p && all_plain l))
