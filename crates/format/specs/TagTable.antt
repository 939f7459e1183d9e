-- A tag name by its id, from the format document, "File header" ("POI tags", "Way tags": ids are counted from 0), and document 01,
-- refusal 7 (with the id).
use Rattle.std.specs.Prelude.{ℕ, zero, suc, ◌+◌, cond, List, [], ◌∷◌, ltb, length}
use Rattle.parsing.specs.Parse.{Res, ok, no, and_then, many, Part, Maybe, none, some}
use Rattle.utils.specs.Vbe.{text}
use Rattle.format.specs.Header.{Tags}

-- where the first of a number of tag names stands
pub record Table : Type 0 where
  pub start : ℕ
  pub count : ℕ

abbrev pub table_of : Tags → Table
table_of t = record { start = t.start; count = length t.texts }

-- tag name k of a table: the text behind k texts
unfoldable pub tag_text : Table → ℕ → List ℕ → Res Part
tag_text t k m = cond (ltb k t.count) (and_then (many text k m t.start) (λ _ e. text m e)) (no 7 (k ∷ []))

-- the tag name of an id as a result: the text with the place behind it, or refusal 7
abbrev pub named : ℕ → Maybe Part → Res Part
named k none = no 7 (k ∷ [])
named k (some p) = ok p (p.start + p.size)
