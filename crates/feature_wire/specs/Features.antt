-- A collected tile, and a fetched feature, as words: which ones each answer writes. The others keep their values.
use Rattle.std.specs.Prelude.{ℕ, cond, List, [], ◌∷◌, Option, Some, None, Result, Ok, Err}
use Rattle.byte_source.specs.declared.Span.{Span}
use Rattle.error.specs.declared.LentRefusal.{LentRefusal}
use Rattle.tile.specs.declared.TileSummary.{TileSummary}
use Rattle.fetched.specs.declared.TagText.{TagText}
use Rattle.fetched.specs.declared.Feature.{Feature}
use Rattle.fetched.specs.declared.Feature.TheVariants as feature
use Rattle.fetched.specs.declared.FeatureTexts.{FeatureTexts}
use Rattle.fetched.specs.declared.FetchedPoi.{FetchedPoi}
use Rattle.fetched.specs.declared.FetchedWay.{FetchedWay}
use Rattle.wire.specs.Wire.{Wire, put, put_all, put_signed, put_degrees, numbered, put_lent_refusal}
use Rattle.wire.specs.Verdicts.{span_words, place_words}
use Rattle.wire.specs.Elevation.{metre_words}
use Rattle.feature_wire.specs.declared.TextWords.{TextWords}

-- a span's three words in front of others
abbrev pub span_before : Option Span → List ℕ → List ℕ
span_before s l = (span_words s).present ∷ (span_words s).start ∷ (span_words s).size ∷ l

-- collecting: words from 6 on; the rows go to two lent lists (`CollectIs` of crate tile)
abbrev pub put_summary : TileSummary → Wire → Wire
put_summary s w = put 0 6 (span_before s.signature (s.rows ∷ s.first_way_offset ∷ s.points ∷ s.ways ∷ cond s.exact 1 0 ∷ cond s.plain 1 0 ∷ [])) w

abbrev pub tile_wire : (before : Wire) → Result TileSummary LentRefusal → Wire
tile_wire w (Ok s) = numbered 0 (put_summary s w)
tile_wire w (Err r) = put_lent_refusal r w

-- fetching: words from 6 on, the tag ids, the tags
abbrev pub text_words : Option TagText → TextWords
text_words None = record { present = 0; len = 0; key_len = 0; value_len = 0; key_code = 0; value_code = 0 }
text_words (Some t) = record {
  present = 1;
  len = t.len;
  key_len = t.tag.key_len;
  value_len = t.tag.value_len;
  key_code = t.tag.key_code;
  value_code = t.tag.value_code;
}

-- a text's six words in front of others
abbrev pub text_before : TextWords → List ℕ → List ℕ
text_before t l = t.present ∷ t.len ∷ t.key_len ∷ t.value_len ∷ t.key_code ∷ t.value_code ∷ l

abbrev pub texts_before : FeatureTexts → List ℕ → List ℕ
texts_before t l = text_before (text_words t.name) (text_before (text_words t.house_number) (text_before (text_words t.reference) l))

-- five words for each tag
unfoldable pub tag_words : List TagText → List ℕ
tag_words [] = []
tag_words (t ∷ l) = t.len ∷ t.tag.key_len ∷ t.tag.value_len ∷ t.tag.key_code ∷ t.tag.value_code ∷ tag_words l

abbrev pub put_point : FetchedPoi → Wire → Wire
put_point p w =
    put 0 35 (cond p.plain 1 0 ∷ []) (put 0 6 (0 ∷ p.tag_ids.count ∷ span_before p.signature (texts_before p.texts ((metre_words p.elevation).present ∷ [])))
    (put_all 1 p.tag_ids.ids (put_all 2 (tag_words p.texts.tags)
    (put_signed 0 (p.layer ∷ (metre_words p.elevation).metres ∷ []) (put_degrees 0 (p.position.latitude ∷ p.position.longitude ∷ []) w)))))

abbrev pub put_way : FetchedWay → Wire → Wire
put_way y w =
    put 0 30 (y.bitmap ∷ cond y.double_delta 1 0 ∷ y.blocks ∷ y.nodes ∷ (place_words y.label_position).present ∷ cond y.plain 1 0 ∷ cond y.head_plain 1 0 ∷ [])
    (put 0 6 (1 ∷ y.tag_ids.count ∷ span_before y.signature (texts_before y.texts []))
    (put_all 1 y.tag_ids.ids (put_all 2 (tag_words y.texts.tags)
    (put_signed 0 (y.layer ∷ []) (put_degrees 0 ((place_words y.label_position).latitude ∷ (place_words y.label_position).longitude ∷ []) w)))))

abbrev pub fetch_wire : (before : Wire) → Result Feature LentRefusal → Wire
fetch_wire w (Ok (feature.Point p)) = numbered 0 (put_point p w)
fetch_wire w (Ok (feature.Way y)) = numbered 0 (put_way y w)
fetch_wire w (Err r) = put_lent_refusal r w
