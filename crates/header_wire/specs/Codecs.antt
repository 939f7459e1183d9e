-- How the other program reads the header's words, and that nothing is lost on the way, whatever words it lent.
use Rattle.std.specs.Prelude.{ℕ, ◌≡◌, refl, [], ◌∷◌, Option, Some, None, Result, Ok, Err}
use Rattle.byte_source.specs.declared.Span.{Span}
use Rattle.error.specs.declared.LentRefusal.{LentRefusal}
use Rattle.types.specs.declared.Position.{Position}
use Rattle.types.specs.declared.HeaderFields.{HeaderFields}
use Rattle.wire.specs.Wire.{Wire, Lent, Codec, word, there}
use Rattle.wire.specs.Codecs.{settle_lent, settled-lent, span_in, span-back, place_in, place-back, degree}
use Rattle.wire.specs.Spread.{spread_wire, spread-out}
use Rattle.header_wire.specs.Header.{header_wire, byte_words}

-- a byte that may be absent
abbrev pub byte_in : (present value : ℕ) → Option ℕ
byte_in p b = there p None (Some b)

pub byte-back : (b : Option ℕ) → byte_in (byte_words b).present (byte_words b).value ≡ b
byte-back None = refl
byte-back (Some b) = refl

-- the header
abbrev pub fields_in : Wire → HeaderFields
fields_in w = record {
  magic = record { start = word w 0 13; size = word w 0 14 };
  header_size = word w 0 7;
  file_version = word w 0 8;
  file_size = word w 0 9;
  creation_date = word w 0 10;
  bounding_box = record { min = record { latitude = degree w 0; longitude = degree w 1 }; max = record { latitude = degree w 2; longitude = degree w 3 } };
  tile_size = word w 0 11;
  projection = record { start = word w 0 15; size = word w 0 16 };
  flags = word w 0 12;
  map_start_position = place_in (word w 0 17) (degree w 4) (degree w 5);
  start_zoom_level = byte_in (word w 0 18) (word w 0 19);
  language_preference = span_in (word w 0 20) (word w 0 21) (word w 0 22);
  comment = span_in (word w 0 23) (word w 0 24) (word w 0 25);
  created_by = span_in (word w 0 26) (word w 0 27) (word w 0 28);
  poi_tags = record { start = word w 0 29; count = word w 0 30 };
  way_tags = record { start = word w 0 31; count = word w 0 32 };
  num_zoom_intervals = word w 0 33;
}

abbrev Listed : Type 0
Listed = Result (HeaderFields × ℕ) LentRefusal

abbrev pub header_in : Wire → Listed
header_in w = settle_lent Err (Ok (fields_in w, word w 0 6)) w

abbrev header_part : Option Position → Option ℕ → (language comment created_by : Option Span) → HeaderFields → HeaderFields
header_part p z a b d h = record {
  magic = h.magic;
  header_size = h.header_size;
  file_version = h.file_version;
  file_size = h.file_size;
  creation_date = h.creation_date;
  bounding_box = h.bounding_box;
  tile_size = h.tile_size;
  projection = h.projection;
  flags = h.flags;
  map_start_position = p;
  start_zoom_level = z;
  language_preference = a;
  comment = b;
  created_by = d;
  poi_tags = h.poi_tags;
  way_tags = h.way_tags;
  num_zoom_intervals = h.num_zoom_intervals;
}

header-with : (h : HeaderFields) (e : ℕ) (p p' : Option Position) (z z' : Option ℕ) (a a' b b' d d' : Option Span) → p ≡ p' → z ≡ z' → a ≡ a' → b ≡ b' → d ≡ d' → ◌≡◌ {A = Listed} (Ok (header_part p z a b d h, e)) (Ok (header_part p' z' a' b' d' h, e))
header-with h e p p' z z' a a' b b' d d' q1 q2 q3 q4 q5 = rw (q1, q2, q3, q4, q5) refl

abbrev pub HeaderLent : Wire → Type 0
HeaderLent = Lent (34 ∷ 7 ∷ []) 0 6

pub header-back : (w : Wire) → HeaderLent w → (r : Listed) → header_in (header_wire w r) ≡ r
header-back w k r = spread-out (34 ∷ 7 ∷ []) 0 6 w k (λ v. header_in (header_wire v r) ≡ r) (go r)
  where
    go : (r : Listed) → header_in (header_wire (spread_wire (34 ∷ 7 ∷ []) 0 6 w) r) ≡ r
    go (Ok (h, e)) = header-with h e _ _ _ _ _ _ _ _ _ _ (place-back h.map_start_position) (byte-back h.start_zoom_level) (span-back h.language_preference) (span-back h.comment) (span-back h.created_by)
    go (Err r) = settled-lent {A = Listed} Err _ _ _ _ _ _ _ _ r

abbrev pub header_codec : (w : Wire) → HeaderLent w → Codec (header_wire w)
header_codec w h = record { decode = header_in; back = header-back w h }
