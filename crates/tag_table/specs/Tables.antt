-- Tag tables as the code holds them (document 01, header.rs): where the names stand and how many there are; and which entries of the
-- listed tag strings are theirs (request 3, document 02).
use Rattle.std.specs.Prelude.{ℕ, ◌+◌, cond, ltb, List, length, Result, Ok, Err, Option, Some, None}
use Rattle.parsing.specs.Parse.{Res, ok}
use Rattle.error.specs.Refusals.{refused}
use Rattle.error.specs.declared.Refusal.{Refusal}
use Rattle.format.specs.Header.{Tags}
use Rattle.format.specs.TagTable.{Table}
use Rattle.format.specs.TagLists.{kinds_in}
use Rattle.tag.specs.declared.Kind.{Kind}
use Rattle.types.specs.declared.TagRange.{TagRange}
use Rattle.types.specs.declared.TagTable.{TagTable}

-- the table of tag names that were read
abbrev pub tag_table : Tags → TagTable
tag_table t = record { start = t.start; count = length t.texts }

abbrev pub table_in : TagTable → Table
table_in t = record { start = t.start; count = t.count }

-- the place behind what was read
abbrev pub place_res : Result ℕ Refusal → Res Unit
place_res (Ok n) = ok tt n
place_res (Err r) = refused r

-- where tag k's entry stands in a list of this length, if there is one
abbrev pub entry : (len : ℕ) → TagRange → ℕ → Option ℕ
entry len r k = cond (ltb k r.count) (cond (ltb (r.first + k) len) (Some (r.first + k)) None) None

-- the kinds of the tags' inline values, by their listed letters
abbrev pub kinds_by : (letters : List ℕ) → TagRange → List Kind
kinds_by letters r = kinds_in letters r.first r.count
