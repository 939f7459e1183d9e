-- Encode, then decode, is the identity, whatever words were lent: how the other program reads the words, and that nothing is lost on the
-- way. (Of a tag whose text is refused, the kind does not cross.)
use Rattle.std.specs.Prelude.{ℕ, ◌%◌, ◌<◌, Bool, ◌≡◌, refl, [], ◌∷◌, get_or, ℤ, Option, Some, None, Result, Ok, Err}
use Rattle.std.proofs.Common.{arith, ap}
use Rattle.error.specs.declared.Refusal.{Refusal}
use Rattle.error.specs.declared.LentRefusal.{LentRefusal}
use Rattle.byte_source.specs.declared.Span.{Span}
use Rattle.utils.specs.declared.Degrees.{Degrees}
use Rattle.tag.specs.declared.Kind.{Kind}
use Rattle.tag.specs.declared.Kind.TheVariants as kind
use Rattle.types.specs.declared.ZoomInterval.{ZoomInterval}
use Rattle.index.specs.declared.TileIndexEntry.{TileIndexEntry}
use Rattle.way_measure.specs.declared.Sizes.{Sizes}
use Rattle.wire.specs.Wire.{Wire, Lent, Decoder, Codec, list_of, word, signed_at, truth, there}
use Rattle.wire.specs.Spread.{spread_wire, spread-out}
use Rattle.index_wire.specs.Index.{Named, kind_word, number_wire, interval_wire, interval_row, interval_in, entry_wire, tag_with, tag_wire, text_wire, column_wire, longitude_wire, way_data_wire, data_written_wire}
use Rattle.wire.specs.Codecs.{settle, settled, settle_lent, settled-lent, truth-back, degree}

-- sub files, tiles, tags, texts and columns
abbrev Number : Type 0
Number = Result (Option ℕ) Refusal

abbrev pub number_in : Wire → Number
number_in w = settle Err (there (word w 0 6) (Ok None) (Ok (Some (word w 0 7)))) w

pub number-back : (w : Wire) → Lent (8 ∷ []) 0 0 w → (a : Number) → number_in (number_wire w a) ≡ a
number-back w h a = spread-out (8 ∷ []) 0 0 w h (λ v. number_in (number_wire v a) ≡ a) (go a)
  where
    go : (a : Number) → number_in (number_wire (spread_wire (8 ∷ []) 0 0 w) a) ≡ a
    go (Ok None) = refl
    go (Ok (Some n)) = refl
    go (Err r) = settled {A = Number} Err _ _ _ r

abbrev pub number_codec : (w : Wire) → Lent (8 ∷ []) 0 0 w → Codec (number_wire w)
number_codec w h = record { decode = number_in; back = number-back w h }

abbrev Interval : Type 0
Interval = Result (Option ZoomInterval) Refusal

abbrev pub interval_answer_in : Wire → Interval
interval_answer_in w = settle Err (there (word w 1 0) (Ok None) (Ok (Some (record { base_zoom_level = word w 1 1; min_zoom_level = word w 1 2; max_zoom_level = word w 1 3; sub_file_start = word w 1 4; sub_file_size = word w 1 5 })))) w

pub interval-back : (w : Wire) → Lent (6 ∷ 6 ∷ []) 0 0 w → (a : Interval) → interval_answer_in (interval_wire w a) ≡ a
interval-back w h a = spread-out (6 ∷ 6 ∷ []) 0 0 w h (λ v. interval_answer_in (interval_wire v a) ≡ a) (go a)
  where
    go : (a : Interval) → interval_answer_in (interval_wire (spread_wire (6 ∷ 6 ∷ []) 0 0 w) a) ≡ a
    go (Ok None) = refl
    go (Ok (Some z)) = refl
    go (Err r) = settled {A = Interval} Err _ _ _ r

abbrev pub interval_codec : (w : Wire) → Lent (6 ∷ 6 ∷ []) 0 0 w → Codec (interval_wire w)
interval_codec w h = record { decode = interval_answer_in; back = interval-back w h }

-- and other calls take the words as what was handed out: an interval as the same one, as its zooms are bytes, and a missing one as missing
pub interval-row : (w : Wire) → Lent (6 ∷ 6 ∷ []) 0 0 w → (z : ZoomInterval) → list_of (interval_wire w (Ok (Some z))) 1 ≡ interval_row z
interval-row w h z = spread-out (6 ∷ 6 ∷ []) 0 0 w h (λ v. list_of (interval_wire v (Ok (Some z))) 1 ≡ interval_row z) refl

pub interval-taken : (w : Wire) → Lent (6 ∷ 6 ∷ []) 0 0 w → (z : ZoomInterval) → z.base_zoom_level < 256 → z.min_zoom_level < 256 → z.max_zoom_level < 256 → interval_in (list_of (interval_wire w (Ok (Some z))) 1) ≡ Some z
interval-taken w h z a b c =
    let x : z.base_zoom_level % 256 ≡ z.base_zoom_level = omega arith in
    let y : z.min_zoom_level % 256 ≡ z.min_zoom_level = omega arith in
    let t : z.max_zoom_level % 256 ≡ z.max_zoom_level = omega arith in
    rw (interval-row w h z, x, y, t) refl

pub missing-taken : (w : Wire) → Lent (6 ∷ 6 ∷ []) 0 0 w → interval_in (list_of (interval_wire w (Ok None)) 1) ≡ None
missing-taken w h = spread-out (6 ∷ 6 ∷ []) 0 0 w h (λ v. interval_in (list_of (interval_wire v (Ok None)) 1) ≡ None) refl

abbrev Entry : Type 0
Entry = Result TileIndexEntry Refusal

abbrev pub entry_in : Wire → Entry
entry_in w = settle Err (Ok (record { is_water = truth (word w 0 6); offset = word w 0 7; offset_abs = word w 0 8 })) w

pub entry-back : (w : Wire) → Lent (9 ∷ []) 0 0 w → (a : Entry) → entry_in (entry_wire w a) ≡ a
entry-back w h a = spread-out (9 ∷ []) 0 0 w h (λ v. entry_in (entry_wire v a) ≡ a) (go a)
  where
    go : (a : Entry) → entry_in (entry_wire (spread_wire (9 ∷ []) 0 0 w) a) ≡ a
    go (Ok e) = ap (λ (b : Bool). Ok (record { is_water = b; offset = e.offset; offset_abs = e.offset_abs })) (truth-back e.is_water)
    go (Err r) = settled {A = Entry} Err _ _ _ r

abbrev pub entry_codec : (w : Wire) → Lent (9 ∷ []) 0 0 w → Codec (entry_wire w)
entry_codec w h = record { decode = entry_in; back = entry-back w h }

abbrev pub kind_in : ℕ → Kind
kind_in n = get_or (kind.Nothing ∷ kind.Byte ∷ kind.Short ∷ kind.Int ∷ kind.Float ∷ kind.Text ∷ []) n kind.Nothing

pub kind-back : (k : Kind) → kind_in (kind_word k) ≡ k
kind-back kind.Nothing = refl
kind-back kind.Byte = refl
kind-back kind.Short = refl
kind-back kind.Int = refl
kind-back kind.Float = refl
kind-back kind.Text = refl

-- without a text there is no kind to tell
abbrev pub unnamed : Refusal → Named
unnamed r = record { text = Err r; kind = kind.Nothing }

abbrev pub named : Result (Span × ℕ) Refusal → Kind → Named
named (Ok (s, e)) k = record { text = Ok (s, e); kind = k }
named (Err r) k = unnamed r

abbrev pub tag_in : Wire → Named
tag_in w = settle unnamed (named (Ok (record { start = word w 0 6; size = word w 0 7 }, word w 0 8)) (kind_in (word w 0 9))) w

pub tag_back : (w : Wire) → Lent (10 ∷ []) 0 0 w → (a : Named) → tag_in (tag_wire w a) ≡ named a.text a.kind
tag_back w h a = spread-out (10 ∷ []) 0 0 w h (λ v. tag_in (tag_wire v a) ≡ named a.text a.kind) (go a.text a.kind)
  where
    go : (g : Result (Span × ℕ) Refusal) (k : Kind) → tag_in (tag_with g k (spread_wire (10 ∷ []) 0 0 w)) ≡ named g k
    go (Ok (s, e)) k = ap (named (Ok (s, e))) (kind-back k)
    go (Err r) k = settled unnamed _ _ _ r

abbrev pub tag_decoder : (w : Wire) → Lent (10 ∷ []) 0 0 w → Decoder (tag_wire w) (λ a. named a.text a.kind)
tag_decoder w h = record { decode = tag_in; back = tag_back w h }

abbrev Text : Type 0
Text = Result ℕ LentRefusal

abbrev pub text_in : Wire → Text
text_in w = settle_lent Err (Ok (word w 0 6)) w

pub text-back : (w : Wire) → Lent (7 ∷ []) 0 0 w → (a : Text) → text_in (text_wire w a) ≡ a
text-back w h a = spread-out (7 ∷ []) 0 0 w h (λ v. text_in (text_wire v a) ≡ a) (go a)
  where
    go : (a : Text) → text_in (text_wire (spread_wire (7 ∷ []) 0 0 w) a) ≡ a
    go (Ok n) = refl
    go (Err r) = settled-lent {A = Text} Err _ _ _ _ _ _ _ _ r

abbrev pub text_codec : (w : Wire) → Lent (7 ∷ []) 0 0 w → Codec (text_wire w)
text_codec w h = record { decode = text_in; back = text-back w h }

abbrev Column : Type 0
Column = Result ℤ Refusal

abbrev pub column_in : Wire → Column
column_in w = settle Err (Ok (signed_at w 0)) w

pub column-back : (w : Wire) → Lent (6 ∷ []) 1 0 w → (a : Column) → column_in (column_wire w a) ≡ a
column-back w h a = spread-out (6 ∷ []) 1 0 w h (λ v. column_in (column_wire v a) ≡ a) (go a)
  where
    go : (a : Column) → column_in (column_wire (spread_wire (6 ∷ []) 1 0 w) a) ≡ a
    go (Ok x) = refl
    go (Err r) = settled {A = Column} Err _ _ _ r

abbrev pub column_codec : (w : Wire) → Lent (6 ∷ []) 1 0 w → Codec (column_wire w)
column_codec w h = record { decode = column_in; back = column-back w h }

abbrev Longitude : Type 0
Longitude = Result Degrees Refusal

abbrev pub longitude_in : Wire → Longitude
longitude_in w = settle Err (Ok (record { 0 = degree w 0 })) w

pub longitude-back : (w : Wire) → Lent (6 ∷ []) 0 1 w → (a : Longitude) → longitude_in (longitude_wire w a) ≡ a
longitude-back w h a = spread-out (6 ∷ []) 0 1 w h (λ v. longitude_in (longitude_wire v a) ≡ a) (go a)
  where
    go : (a : Longitude) → longitude_in (longitude_wire (spread_wire (6 ∷ []) 0 1 w) a) ≡ a
    go (Ok d) = refl
    go (Err r) = settled {A = Longitude} Err _ _ _ r

abbrev pub longitude_codec : (w : Wire) → Lent (6 ∷ []) 0 1 w → Codec (longitude_wire w)
longitude_codec w h = record { decode = longitude_in; back = longitude-back w h }

abbrev WayData : Type 0
WayData = Result (Sizes × ℕ) Refusal

abbrev pub way_data_in : Wire → WayData
way_data_in w = settle Err (Ok (record { blocks = word w 0 6; nodes = word w 0 7; plain = truth (word w 0 9) }, word w 0 8)) w

pub way_data-back : (w : Wire) → Lent (10 ∷ []) 0 0 w → (a : WayData) → way_data_in (way_data_wire w a) ≡ a
way_data-back w h a = spread-out (10 ∷ []) 0 0 w h (λ v. way_data_in (way_data_wire v a) ≡ a) (go a)
  where
    go : (a : WayData) → way_data_in (way_data_wire (spread_wire (10 ∷ []) 0 0 w) a) ≡ a
    go (Ok (s, e)) = ap (λ (b : Bool). Ok (record { blocks = s.blocks; nodes = s.nodes; plain = b }, e)) (truth-back s.plain)
    go (Err r) = settled {A = WayData} Err _ _ _ r

abbrev pub way_data_codec : (w : Wire) → Lent (10 ∷ []) 0 0 w → Codec (way_data_wire w)
way_data_codec w h = record { decode = way_data_in; back = way_data-back w h }

abbrev Written : Type 0
Written = Result (Sizes × ℕ) LentRefusal

abbrev pub data_written_in : Wire → Written
data_written_in w = settle_lent Err (Ok (record { blocks = word w 0 6; nodes = word w 0 7; plain = truth (word w 0 9) }, word w 0 8)) w

pub data_written-back : (w : Wire) → Lent (10 ∷ []) 0 0 w → (a : Written) → data_written_in (data_written_wire w a) ≡ a
data_written-back w h a = spread-out (10 ∷ []) 0 0 w h (λ v. data_written_in (data_written_wire v a) ≡ a) (go a)
  where
    go : (a : Written) → data_written_in (data_written_wire (spread_wire (10 ∷ []) 0 0 w) a) ≡ a
    go (Ok (s, e)) = ap (λ (b : Bool). Ok (record { blocks = s.blocks; nodes = s.nodes; plain = b }, e)) (truth-back s.plain)
    go (Err r) = settled-lent {A = Written} Err _ _ _ _ _ _ _ _ r

abbrev pub data_written_codec : (w : Wire) → Lent (10 ∷ []) 0 0 w → Codec (data_written_wire w)
data_written_codec w h = record { decode = data_written_in; back = data_written-back w h }
