-- What is known of a point that was read. It stands in what private functions promise each other, and need not be believed.
use Rattle.std.specs.Prelude.{ℕ, ◌^◌, ◌≤◌, ◌≡◌, List, length}
use Rattle.parsing.specs.Parse.{Part, Maybe}
use Rattle.format.specs.Tile.{Point}
use Rattle.types.specs.Types.{optional_span, maybe_part}
use Rattle.fetched.specs.Fetched.{part_bytes}

-- a text as the code holds it is the stored one
pub record Stored (m : List ℕ) (o : Maybe Part) : Type 0 where
  pub same : maybe_part m (optional_span o) ≡ o
  pub short : length (part_bytes o) ≤ 2 ^ 20

pub record PointTexts (m : List ℕ) (p : Point) : Type 0 where
  pub few : length p.tagged.ids ≤ 15
  pub name : Stored m p.name
  pub house_number : Stored m p.house_number
