-- What private functions promise each other, which need not be believed: the fields of a header (document 01, header.rs) from its
-- parts as the code holds them: a and b are the tag names that the tables stand for, and l are the intervals, of which the code holds
-- the number.
use Rattle.std.specs.Prelude.{ℕ, ◌≡◌, List, length}
use Rattle.format.specs.Header.{Tags, Interval}
use Rattle.types.specs.declared.HeaderFields.{HeaderFields}
use Rattle.types.specs.declared.TagTable.{TagTable}
use Rattle.header_parts.specs.Parts.{front_of, options_of}
use Rattle.header_parts.specs.declared.Front.{Front}
use Rattle.header_parts.specs.declared.Options.{Options}
use Rattle.tag_table.specs.Tables.{tag_table}
use Rattle.header.specs.HeaderView.{header_fields}

-- h has the fields of these parts
pub record Made (f : Front) (o : Options) (p w : TagTable) (n : ℕ) (h : HeaderFields) : Type 0 where
  pub made : (m : List ℕ) (a b : Tags) (l : List Interval) → p ≡ tag_table a → w ≡ tag_table b → n ≡ length l → h ≡ header_fields (record { front = front_of m f; options = options_of m o; poi_tags = a; way_tags = b; intervals = l })
