-- How the other program reads the words of a tile and a feature, and that nothing is lost on the way.
use Rattle.std.specs.Prelude.{ℕ, ℤ, zero, suc, ◌≤◌, Bool, ◌≡◌, refl, List, [], ◌∷◌, ◌++◌, length, get_or, drop, Option, Some, None, Result, Ok, Err}
use Rattle.std.proofs.Common.{arith, ap}
use Rattle.std.proofs.lemmas.List.{length-map}
use Rattle.std.proofs.lemmas.List.Edits.{sets}
use Rattle.byte_source.specs.declared.Span.{Span}
use Rattle.types.specs.declared.Position.{Position}
use Rattle.error.specs.declared.LentRefusal.{LentRefusal}
use Rattle.format.specs.Lent.{front, sets-front}
use Rattle.zoom_table.specs.declared.ZoomRow.{ZoomRow}
use Rattle.tile.specs.Tile.{row_points, row_ways}
use Rattle.tile.specs.declared.TileSummary.{TileSummary}
use Rattle.fetched.specs.declared.TagText.{TagText}
use Rattle.fetched.specs.declared.Feature.{Feature}
use Rattle.fetched.specs.declared.Feature.TheVariants as feature
use Rattle.fetched.specs.declared.FeatureTexts.{FeatureTexts}
use Rattle.fetched.specs.declared.FetchedPoi.{FetchedPoi}
use Rattle.fetched.specs.declared.FetchedWay.{FetchedWay}
use Rattle.wire.specs.Wire.{Wire, Lent, Decoder, Codec, list_of, word, signed_at, truth, there}
use Rattle.wire.specs.Codecs.{settle_lent, settled-lent, truth-back, span_in, span-back, place_in, place-back, degree}
use Rattle.wire.specs.Elevation.{metres_in, metres-back}
use Rattle.wire.specs.Spread.{spread_wire, spread-out}
use Rattle.feature_wire.specs.Features.{tile_wire, text_words, tag_words, fetch_wire}

-- what is said of a collected tile
abbrev pub summary_in : Wire → TileSummary
summary_in w = record {
  signature = span_in (word w 0 6) (word w 0 7) (word w 0 8);
  first_way_offset = word w 0 10;
  points = word w 0 11;
  ways = word w 0 12;
  rows = word w 0 9;
  exact = truth (word w 0 13);
  plain = truth (word w 0 14);
}

abbrev pub tile_in : Wire → Result TileSummary LentRefusal
tile_in w = settle_lent Err (Ok (summary_in w)) w

summary-with : (t : TileSummary) (s s' : Option Span) (b b' a a' : Bool) → s ≡ s' → b ≡ b' → a ≡ a' → ◌≡◌ {A = Result TileSummary LentRefusal} (Ok (record { signature = s; first_way_offset = t.first_way_offset; points = t.points; ways = t.ways; rows = t.rows; exact = b; plain = a })) (Ok (record { signature = s'; first_way_offset = t.first_way_offset; points = t.points; ways = t.ways; rows = t.rows; exact = b'; plain = a' }))
summary-with t s s' b b' a a' q1 q2 q3 = rw (q1, q2, q3) refl

tile-spread : (w : Wire) (r : Result TileSummary LentRefusal) → tile_in (tile_wire (spread_wire (15 ∷ []) 0 0 w) r) ≡ r
tile-spread w (Ok t) = summary-with t _ _ _ _ _ _ (span-back t.signature) (truth-back t.exact) (truth-back t.plain)
tile-spread w (Err r) = settled-lent Err _ _ _ _ _ _ _ _ r

pub tile-back : (w : Wire) → Lent (15 ∷ []) 0 0 w → (r : Result TileSummary LentRefusal) → tile_in (tile_wire w r) ≡ r
tile-back w h r = spread-out (15 ∷ []) 0 0 w h (λ (v : Wire). tile_in (tile_wire v r) ≡ r) (tile-spread w r)

abbrev pub tile_codec : (w : Wire) → Lent (15 ∷ []) 0 0 w → Codec (tile_wire w)
tile_codec w h = record { decode = tile_in; back = tile-back w h }

-- its rows, so many from the fronts of two lists
abbrev pub rows_in : ℕ → (points ways : List ℕ) → List ZoomRow
rows_in zero ps ws = []
rows_in (suc n) ps ws = record { points = get_or ps 0 0; ways = get_or ws 0 0 } ∷ rows_in n (drop 1 ps) (drop 1 ws)

rows-front : (l : List ZoomRow) (ps ws : List ℕ) → rows_in (length l) (row_points l ++ ps) (row_ways l ++ ws) ≡ l
rows-front [] ps ws = refl
rows-front (r ∷ l) ps ws = ap (λ (x : List ZoomRow). r ∷ x) (rows-front l ps ws)

pub rows_back : (l : List ZoomRow) (ps ws : List ℕ) → length l ≤ length ps → length l ≤ length ws → rows_in (length l) (sets ps 0 (row_points l)) (sets ws 0 (row_ways l)) ≡ l
rows_back l ps ws h k =
    let p : sets ps 0 (row_points l) ≡ front (row_points l) ps = sets-front (row_points l) ps (omega (arith, length-map l (λ (r : ZoomRow). r.points))) in
    let w : sets ws 0 (row_ways l) ≡ front (row_ways l) ws = sets-front (row_ways l) ws (omega (arith, length-map l (λ (r : ZoomRow). r.ways))) in
    rw (p, w) (rows-front l _ _)

-- a fetched feature, or why there is none
pub data Given : Type 0 where
  a_poi : FetchedPoi → Given
  a_line : FetchedWay → Given
  no_feature : LentRefusal → Given

abbrev pub given : Result Feature LentRefusal → Given
given (Ok (feature.Point p)) = a_poi p
given (Ok (feature.Way y)) = a_line y
given (Err r) = no_feature r

abbrev pub text_in : (present len key_len value_len key_code value_code : ℕ) → Option TagText
text_in p n k v a b = there p None (Some (record { len = n; tag = record { key_len = k; value_len = v; key_code = a; value_code = b } }))

pub text-back : (t : Option TagText) → text_in (text_words t).present (text_words t).len (text_words t).key_len (text_words t).value_len (text_words t).key_code (text_words t).value_code ≡ t
text-back None = refl
text-back (Some t) = refl

unfoldable pub tags_in : List ℕ → List TagText
tags_in (n ∷ k ∷ v ∷ a ∷ b ∷ l) = record { len = n; tag = record { key_len = k; value_len = v; key_code = a; value_code = b } } ∷ tags_in l
tags_in [] = []
tags_in (n ∷ []) = []
tags_in (n ∷ k ∷ []) = []
tags_in (n ∷ k ∷ v ∷ []) = []
tags_in (n ∷ k ∷ v ∷ a ∷ []) = []

pub tags-back : (l : List TagText) → tags_in (tag_words l) ≡ l
unfolding tag_words tags_in
tags-back [] = refl
tags-back (t ∷ l) = ap (λ (x : List TagText). t ∷ x) (tags-back l)

abbrev pub texts_in : Wire → FeatureTexts
texts_in w = record {
  tags = tags_in (list_of w 2);
  name = text_in (word w 0 11) (word w 0 12) (word w 0 13) (word w 0 14) (word w 0 15) (word w 0 16);
  house_number = text_in (word w 0 17) (word w 0 18) (word w 0 19) (word w 0 20) (word w 0 21) (word w 0 22);
  reference = text_in (word w 0 23) (word w 0 24) (word w 0 25) (word w 0 26) (word w 0 27) (word w 0 28);
}

abbrev pub poi_in : Wire → FetchedPoi
poi_in w = record {
  signature = span_in (word w 0 8) (word w 0 9) (word w 0 10);
  position = record { latitude = degree w 0; longitude = degree w 1 };
  layer = signed_at w 0;
  tag_ids = record { ids = list_of w 1; count = word w 0 7 };
  texts = texts_in w;
  elevation = metres_in (word w 0 29) (signed_at w 1);
  plain = truth (word w 0 35);
}

abbrev pub line_in : Wire → FetchedWay
line_in w = record {
  signature = span_in (word w 0 8) (word w 0 9) (word w 0 10);
  bitmap = word w 0 30;
  layer = signed_at w 0;
  tag_ids = record { ids = list_of w 1; count = word w 0 7 };
  texts = texts_in w;
  label_position = place_in (word w 0 34) (degree w 0) (degree w 1);
  double_delta = truth (word w 0 31);
  blocks = word w 0 32;
  nodes = word w 0 33;
  plain = truth (word w 0 35);
  head_plain = truth (word w 0 36);
}

abbrev pub fetch_in : Wire → Given
fetch_in w = settle_lent no_feature (get_or (a_poi (poi_in w) ∷ []) (word w 0 6) (a_line (line_in w))) w

texts-with : (g g' : List TagText) (n n' h h' r r' : Option TagText) → g ≡ g' → n ≡ n' → h ≡ h' → r ≡ r' → ◌≡◌ {A = FeatureTexts} (record { tags = g; name = n; house_number = h; reference = r }) (record { tags = g'; name = n'; house_number = h'; reference = r' })
texts-with g g' n n' h h' r r' q1 q2 q3 q4 = rw (q1, q2, q3, q4) refl

texts-back : (t : FeatureTexts) → ◌≡◌ {A = FeatureTexts} (record {
  tags = tags_in (tag_words t.tags);
  name = text_in (text_words t.name).present (text_words t.name).len (text_words t.name).key_len (text_words t.name).value_len (text_words t.name).key_code (text_words t.name).value_code;
  house_number = text_in (text_words t.house_number).present (text_words t.house_number).len (text_words t.house_number).key_len (text_words t.house_number).value_len (text_words t.house_number).key_code (text_words t.house_number).value_code;
  reference = text_in (text_words t.reference).present (text_words t.reference).len (text_words t.reference).key_len (text_words t.reference).value_len (text_words t.reference).key_code (text_words t.reference).value_code;
}) t
texts-back t = texts-with _ _ _ _ _ _ _ _ (tags-back t.tags) (text-back t.name) (text-back t.house_number) (text-back t.reference)

poi-with : (p : FetchedPoi) (s s' : Option Span) (t t' : FeatureTexts) (e e' : Option ℤ) (b b' : Bool) → s ≡ s' → t ≡ t' → e ≡ e' → b ≡ b' → ◌≡◌ {A = Given} (a_poi (record { signature = s; position = p.position; layer = p.layer; tag_ids = p.tag_ids; texts = t; elevation = e; plain = b })) (a_poi (record { signature = s'; position = p.position; layer = p.layer; tag_ids = p.tag_ids; texts = t'; elevation = e'; plain = b' }))
poi-with p s s' t t' e e' b b' q1 q2 q3 q4 = rw (q1, q2, q3, q4) refl

line-with : (y : FetchedWay) (s s' : Option Span) (t t' : FeatureTexts) (p p' : Option Position) (b b' a a' h h' : Bool) → s ≡ s' → t ≡ t' → p ≡ p' → b ≡ b' → a ≡ a' → h ≡ h' → ◌≡◌ {A = Given} (a_line (record { signature = s; bitmap = y.bitmap; layer = y.layer; tag_ids = y.tag_ids; texts = t; label_position = p; double_delta = b; blocks = y.blocks; nodes = y.nodes; plain = a; head_plain = h })) (a_line (record { signature = s'; bitmap = y.bitmap; layer = y.layer; tag_ids = y.tag_ids; texts = t'; label_position = p'; double_delta = b'; blocks = y.blocks; nodes = y.nodes; plain = a'; head_plain = h' }))
line-with y s s' t t' p p' b b' a a' h h' q1 q2 q3 q4 q5 q6 = rw (q1, q2, q3, q4, q5, q6) refl

fetch-spread : (w : Wire) (f : Result Feature LentRefusal) → fetch_in (fetch_wire (spread_wire (37 ∷ 15 ∷ 75 ∷ []) 2 2 w) f) ≡ given f
fetch-spread w (Ok (feature.Point p)) = poi-with p _ _ _ _ _ _ _ _ (span-back p.signature) (texts-back p.texts) (metres-back p.elevation) (truth-back p.plain)
fetch-spread w (Ok (feature.Way y)) = line-with y _ _ _ _ _ _ _ _ _ _ _ _ (span-back y.signature) (texts-back y.texts) (place-back y.label_position) (truth-back y.double_delta) (truth-back y.plain) (truth-back y.head_plain)
fetch-spread w (Err r) = settled-lent no_feature _ _ _ _ _ _ _ _ r

pub fetch-back : (w : Wire) → Lent (37 ∷ 15 ∷ 75 ∷ []) 2 2 w → (f : Result Feature LentRefusal) → fetch_in (fetch_wire w f) ≡ given f
fetch-back w h f = spread-out (37 ∷ 15 ∷ 75 ∷ []) 2 2 w h (λ (v : Wire). fetch_in (fetch_wire v f) ≡ given f) (fetch-spread w f)

abbrev pub fetch_decoder : (w : Wire) → Lent (37 ∷ 15 ∷ 75 ∷ []) 2 2 w → Decoder (fetch_wire w) given
fetch_decoder w h = record { decode = fetch_in; back = fetch-back w h }
