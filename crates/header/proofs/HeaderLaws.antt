-- The header from its parts, and a header that was read, in definitions that go on from it.
use Prim.Native.Nat.{ℕ}
use mathlib.Core.Path.{◌≡◌, refl, sym, ap, ◌∙◌}
use mathlib.Core.List.{List, [], ◌∷◌}
use mathlib.Core.List.{map as mapped}
use lib.ListN.{length, drop, replicate, length-map}
use lib.Seq.{take_at}
use Rattle.std.specs.Prelude.{Option, Some, None}
use Rattle.parsing.specs.Parse.{Res, ok, no, and_then, map_res, nth}
use Rattle.parsing.specs.Good.{ok-val, ok_at, no_ok}
use Rattle.byte_source.proofs.ReadLaws.{reads, view-on, view-refused, handed-up}
use Rattle.format.specs.Header.{Header, Interval, Tags, header}
use Rattle.format.specs.TagTable.{tag_text, named}
use Rattle.format.proofs.TagLaws.{header-tags}
use Rattle.format.proofs.IntervalLaws.{intervals-stand}
use Rattle.types.specs.Types.{interval_of, intervals_of, optional_byte, optional_position}
use Rattle.types.specs.declared.Position.{Position}
use Rattle.types.specs.declared.BoundingBox.{BoundingBox}
use Rattle.types.specs.declared.HeaderFields.{HeaderFields}
use Rattle.types.specs.declared.MapHeader.{MapHeader}
use Rattle.types.specs.declared.TagTable.{TagTable}
use Rattle.types.proofs.TypeLaws.{part-back}
use Rattle.header_fields.specs.Fields.{box_of}
use Rattle.header_parts.specs.Parts.{front_of, options_of, maybe_place, maybe_byte}
use Rattle.header_parts.specs.declared.Front.{Front}
use Rattle.header_parts.specs.declared.Options.{Options}
use Rattle.tag_table.specs.Tables.{tag_table, table_in}
use Rattle.zoom_intervals.specs.Intervals.{zoom_interval, empty_interval, filled}
use Rattle.header.specs.HeaderView.{bounding_box, header_fields, with_intervals, map_header, whole}
use Rattle.header.specs.Made.{Made}

-- what the code holds of an optional field is what is stored
byte-back : (b : Option ℕ) → optional_byte (maybe_byte b) ≡ b
byte-back None = refl
byte-back (Some b) = refl

pub fields_made : (f : Front) (o : Options) (p w : TagTable) (n : ℕ) (b : BoundingBox) (s : Option Position)
    → b ≡ bounding_box (box_of f.bounding_box) → s ≡ optional_position (maybe_place o.start_position)
    → Made f o p w n (record {
      magic = record { start = 0; size = 20 };
      header_size = f.preamble.header_size;
      file_version = f.preamble.file_version;
      file_size = f.preamble.file_size;
      creation_date = f.preamble.creation_date;
      bounding_box = b;
      tile_size = f.tile_size;
      projection = f.projection;
      flags = f.flags;
      map_start_position = s;
      start_zoom_level = o.start_zoom_level;
      language_preference = o.language_preference;
      comment = o.comment;
      created_by = o.created_by;
      poi_tags = p;
      way_tags = w;
      num_zoom_intervals = n;
    })
fields_made f o p w n b s h k = record {
  made = λ m a a' l q q' e.
      rw (h, k, q, q', e, byte-back o.start_zoom_level, part-back m o.language_preference, part-back m o.comment, part-back m o.created_by);
}

-- in a definition that has them
pub made-on : (m : List ℕ) (f : Front) (o : Options) (p w : TagTable) (n e : ℕ) (h : HeaderFields) (a b : Tags) (l : List Interval) → Made f o p w n h → p ≡ tag_table a → w ≡ tag_table b → n ≡ length l
    → ok h e ≡ ok (header_fields (record { front = front_of m f; options = options_of m o; poi_tags = a; way_tags = b; intervals = l })) e
made-on m f o p w n e h a b l c q q' r = ap (λ h. ok h e) (c.made m a b l q q' r)

pub ruleset tables = (reads, view-on, view-refused, made-on)

-- what is stored, where fields were read of it
pub record Stored (stored : Res Header) (f : HeaderFields) (n : ℕ) : Type 0 where
  pub header : Header
  pub read : stored ≡ ok header n
  pub shown : f ≡ header_fields header

pub fields-stored : (stored : Res Header) (f : HeaderFields) (n : ℕ) → ok f n ≡ map_res header_fields stored → Stored stored f n
fields-stored stored f n q = go stored refl q
  where
    go : (r : Res Header) → stored ≡ r → ok f n ≡ map_res header_fields r → Stored stored f n
    go (ok h e) k z = record { header = h; read = k ∙ ap (ok h) (sym (ok_at z)); shown = ok-val z }
    go (no x v) k z = no_ok (sym z)

-- it is the stored one, where what is stored is what this map's header gives
pub whole_read : (m : List ℕ) (stored : Res Header) (g : Res HeaderFields) (x : Res MapHeader) → ((h : Header) (e : ℕ) → stored ≡ ok h e → header m 0 ≡ ok h e) → g ≡ map_res header_fields stored → x ≡ and_then g (whole m) → x ≡ map_res map_header stored
whole_read m stored g x sure q p = p ∙ ap (λ g. and_then g (whole m)) q ∙ go stored sure
  where
    go : (r : Res Header) → ((h : Header) (e : ℕ) → r ≡ ok h e → header m 0 ≡ ok h e) → and_then (map_res header_fields r) (whole m) ≡ map_res map_header r
    go (ok h e) sure = ap (map_res (λ l. with_intervals (header_fields h) (filled l))) (intervals-stand m h e (sure h e refl))
    go (no n v) sure = refl

-- the intervals of a header that is handed out are the stored ones
pub intervals-back : (h : Header) → intervals_of (map_header h) ≡ h.intervals
unfolding filled
intervals-back h =
    let l = h.intervals in
    let n : length (mapped zoom_interval l) ≡ length l = length-map l zoom_interval in
    ap (mapped interval_of) (take_at (mapped zoom_interval l) (drop (length (mapped zoom_interval l)) (replicate 255 empty_interval)) (length l) n) ∙ same l
  where
    same : (l : List Interval) → mapped interval_of (mapped zoom_interval l) ≡ l
    same [] = refl
    same (z ∷ l) = ap (λ r. z ∷ r) (same l)

-- and a tag name of its tables is that element of the stored list
module _ (m : List ℕ) (h : Header) (e k : ℕ) where
  pub poi-name : header m 0 ≡ ok h e → tag_text (table_in (map_header h).poi_tags) k m ≡ named k (nth h.poi_tags.texts k)
  poi-name q = (header-tags m 0 h e q).poi k

  pub way-name : header m 0 ≡ ok h e → tag_text (table_in (map_header h).way_tags) k m ≡ named k (nth h.way_tags.texts k)
  way-name q = (header-tags m 0 h e q).way k
