-- Document 01, "The stream and the collected tile": a way body is decoded whole, then its node counts, latitudes and longitudes go to
-- the front of three lent lists.
use Rattle.std.specs.Prelude.{ℕ, Bool, List, Float, Result}
use Rattle.parsing.specs.Parse.{Res}
use Rattle.error.specs.declared.LentRefusal.{LentRefusal}
use Rattle.byte_source.specs.Answers.{lent_res}
use Rattle.format.specs.Lent.{LentLists, Reply, deliver}
use Rattle.utils.specs.Vbe.{Noted, values_of}
use Rattle.format.specs.WayData.{Node, concat}
use Rattle.format.specs.Nodes.{way_lists}
use Rattle.way_measure.specs.Answers.{way_sizes}
use Rattle.way_measure.specs.declared.Sizes.{Sizes}

abbrev pub lent : List ℕ → List Float → List Float → LentLists
lent counts lats lons = record { counts = counts; latitudes = lats; longitudes = lons }

-- the reply of `read_way_data`, from what the bytes say and the lists before the call
abbrev pub read_way_data : Bool → Res (List (Noted (List (List Node)))) → List ℕ → List Float → List Float → Reply (Res Sizes)
read_way_data double r counts lats lons = deliver way_sizes (λ d. way_lists double (concat (values_of d))) r (lent counts lats lons)

-- an answer of the code, with the lists after the call
abbrev pub reply : Result (Sizes × ℕ) LentRefusal → List ℕ → List Float → List Float → Reply (Res Sizes)
reply r counts lats lons = record { answer = lent_res r; lists = lent counts lats lons }
