-- The kinds of the inline values of a map's tags, by a walk through the header (document 01, tag.rs; "Values follow all ids").
use Rattle.std.specs.Prelude.{ℕ, zero, suc, List, [], ◌∷◌}
use Rattle.parsing.specs.Parse.{Res, ok, no, Part}
use Rattle.text.specs.Utf8.{replaced}
use Rattle.tag.specs.Tag.{kind}
use Rattle.tag.specs.declared.Kind.{Kind}
use Rattle.tag.specs.declared.Kind.TheVariants.{Nothing}
use Rattle.format.specs.TagTable.{Table, tag_text}

-- of a tag's text
abbrev pub kind_of_text : Part → Kind
kind_of_text p = kind (replaced p.bytes)

-- a name that the walk does not reach has no inline value; in a map that was opened it reaches every one
abbrev pub kind_found : Res Part → Kind
kind_found (ok p e) = kind_of_text p
kind_found (no n v) = Nothing

-- of tag k of a table
unfoldable pub tag_kind : Table → ℕ → List ℕ → Kind
tag_kind t k m = kind_found (tag_text t k m)

-- the values of a function at 0, 1, … below n
abbrev pub upto : {A : Type 0} → ℕ → (ℕ → A) → List A
upto zero f = []
upto (suc n) f = f zero ∷ upto n (λ k. f (suc k))

-- one for each tag of a table
unfoldable pub tag_kinds : Table → List ℕ → List Kind
tag_kinds t m = upto t.count (λ k. tag_kind t k m)
