-- Request 3 (document 02), from the contract of `open_map`: "With lists that opening filled from this map and nobody has written since, each entry
-- equals what a walk through the header finds", and so what calls skip and name by the lists is what they would by a walk.
use Rattle.std.specs.Prelude.{ℕ, ◌+◌, ◌<◌, ◌≡◌, List, get_or}
use Rattle.parsing.specs.Parse.{ok, many, passed}
use Rattle.utils.specs.Vbe.{text}
use Rattle.tag.specs.Tag.{letter_of}
use Rattle.format.specs.Kinds.{tag_kind, tag_kinds}
use Rattle.format.specs.TagLists.{TagLists, listed_text}
use Rattle.format.specs.TagTable.{tag_text}
use Rattle.types.specs.declared.MapHeader.{MapHeader}
use Rattle.types.specs.declared.TagRange.{TagRange}
use Rattle.types.specs.declared.TagTable.{TagTable}
use Rattle.tag_table.specs.Tables.{table_in, kinds_by}
use Rattle.tile_layout.specs.TileLayout.{layout_of}

-- of one table of tags, whose entries are these
pub record TableListed (m : List ℕ) (t : TagTable) (r : TagRange) (tags : TagLists) : Type 0 where
  -- a tag starts where the texts before it end; its letter is that of its text
  pub start : (k : ℕ) → k < t.count → passed (many text k m t.start) ≡ ok tt (get_or tags.starts (r.first + k) 0)
  pub letter : (k : ℕ) → k < t.count → get_or tags.letters (r.first + k) 0 ≡ letter_of (tag_kind (table_in t) k m)
  -- the kinds by which values are skipped, and the names, also of an id that no tag has
  pub kinds : kinds_by tags.letters r ≡ tag_kinds (table_in t) m
  pub name : (k : ℕ) → listed_text tags.starts r.first r.count k m ≡ tag_text (table_in t) k m

-- of both tables of a header
pub record ListedTags (m : List ℕ) (h : MapHeader) (tags : TagLists) : Type 0 where
  pub poi : TableListed m h.poi_tags (layout_of h).poi_tags tags
  pub way : TableListed m h.way_tags (layout_of h).way_tags tags
