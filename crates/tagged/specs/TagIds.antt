-- Layer and tag ids of a feature as they are handed out (document 01, poi.rs and way.rs: "Each feature carries its up to 15 tag ids in
-- its own record").
use Rattle.std.specs.Prelude.{ℕ, Bool, List, ℤ, length, replicate}
use Rattle.parsing.specs.Parse.{Part}
use Rattle.utils.specs.Vbe.{Noted, noted, values_of, all_plain}
use Rattle.format.specs.Lent.{front}
use Rattle.format.specs.Tile.{Tagged}
use Rattle.tagged.specs.declared.TagIds.{TagIds}
use Rattle.tagged.specs.declared.Tagged.{Tagged as HeldTags}

-- the ids from the front, zeros behind them
unfoldable pub filled_ids : List ℕ → List ℕ
filled_ids l = front l (replicate 15 0)

abbrev pub tag_ids : List ℕ → TagIds
tag_ids l = record { ids = filled_ids l; count = length l }

-- what is shown of a feature's tags: the values behind the ids are not
pub record ShownTags : Type 0 where
  pub layer : ℤ
  pub ids : TagIds
  pub plain : Bool

abbrev pub tags_of : Tagged → ShownTags
tags_of t = record { layer = t.layer; ids = tag_ids t.ids; plain = t.plain }

abbrev pub shown_tags : HeldTags → ShownTags
shown_tags t = record { layer = t.layer; ids = t.tag_ids; plain = t.plain }

-- ids in an array, and whether all were plain
abbrev pub noted_ids : List (Noted ℕ) → Noted (List ℕ)
noted_ids l = noted (filled_ids (values_of l)) (all_plain l)

-- the values are not handed out
abbrev pub noted_values : List (Noted Part) → Noted Unit
noted_values l = noted tt (all_plain l)
