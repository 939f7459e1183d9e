-- A Mapsforge map, for one tile of one sub file, as demand 3 takes it (crate agreement, MapLayout): the definitions of crate format, put
-- together. Everything but the bytes of the tile is a function of the header's value and of what is read of the index, which are the
-- same in a map that is altered elsewhere.
use Rattle.std.specs.Prelude.{ℕ, cond, List, [], map}
use Rattle.parsing.specs.Parse.{no, Maybe, none, some, nth}
use Rattle.format.specs.Header.{Interval, Header, header, signature, debug}
use Rattle.format.specs.Index.{in_sub_file, Grid, entry_at, Located, located, tile_at}
use Rattle.format.specs.Kinds.{kind_of_text}
use Rattle.format.specs.Rows.{located_head}
use Rattle.agreement.specs.Format.{Format}
use Rattle.agreement.specs.MapLayout.{MapLayout}
use Rattle.agreement.specs.TileFormat.{tile_end, tile_format}
use Rattle.map_agreement.specs.TileView.{tile_view}

abbrev pub of_interval : {A : Type 0} → A → (Interval → A) → Maybe Interval → A
of_interval d f none = d
of_interval d f (some z) = f z

-- where an index signature stands
abbrev pub signature_places : Header → List ℕ
signature_places h = cond (debug h) (map (λ z. z.start) h.intervals) []

module _ (sub_file : ℕ) (grid : Grid) (number : ℕ) where
  abbrev pub interval : Header → Maybe Interval
  interval h = nth h.intervals sub_file

  abbrev pub lowest : Header → ℕ
  lowest h = of_interval 0 (λ z. z.min) (interval h)

  abbrev pub highest : Header → ℕ
  highest h = of_interval 0 (λ z. z.max) (interval h)

  abbrev pub format_in : Header → Format
  format_in h = tile_format (debug h) (map kind_of_text h.poi_tags.texts) (map kind_of_text h.way_tags.texts)

  abbrev pub mapsforge : MapLayout
  mapsforge = record {
    Header = Header;
    Entry = Located;
    header = header;
    signature = signature;
    signatures_at = signature_places;
    entry = λ h m i. in_sub_file (interval h) (no 8 []) (λ z. located grid number z m i);
    entry_at = λ h. of_interval 0 (λ z. entry_at (debug h) z.start number) (interval h);
    tile_at = λ h l. tile_at l;
    tile_head = λ h l. located_head (debug h) l;
    format = format_in;
    low = lowest;
    high = highest;
    end = λ h l. tile_end sub_file l.entry.water;
    view = λ h.
        tile_view (debug h) (map kind_of_text h.poi_tags.texts) (map kind_of_text h.way_tags.texts)
        h.poi_tags.texts h.way_tags.texts;
  }
