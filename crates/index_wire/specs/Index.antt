-- The answers about sub files, tiles, tags, texts, columns and a way's data as words: which ones each writes. The others keep their values.
use Rattle.std.specs.Prelude.{ℕ, ℤ, ◌%◌, cond, List, [], ◌∷◌, get_or, Option, Some, None, Result, Ok, Err}
use Rattle.error.specs.declared.Refusal.{Refusal}
use Rattle.error.specs.declared.LentRefusal.{LentRefusal}
use Rattle.byte_source.specs.declared.Span.{Span}
use Rattle.utils.specs.declared.Degrees.{Degrees}
use Rattle.tag.specs.declared.Kind.{Kind}
use Rattle.tag.specs.declared.Kind.TheVariants as kind
use Rattle.types.specs.declared.ZoomInterval.{ZoomInterval}
use Rattle.index.specs.declared.TileIndexEntry.{TileIndexEntry}
use Rattle.way_measure.specs.declared.Sizes.{Sizes}
use Rattle.wire.specs.Wire.{Wire, put, put_signed, put_degrees, numbered, put_refusal, put_lent_refusal, there}

-- a number that may be absent: 1 and the number, or 0
abbrev pub put_found : ℕ → Wire → Wire
put_found n w = numbered 0 (put 0 6 (1 ∷ n ∷ []) w)

abbrev pub put_absent : Wire → Wire
put_absent w = numbered 0 (put 0 6 (0 ∷ []) w)

-- how many tiles a sub file has, a tile's number, and a sub file's
abbrev pub number_wire : (before : Wire) → Result (Option ℕ) Refusal → Wire
number_wire w (Ok None) = put_absent w
number_wire w (Ok (Some n)) = put_found n w
number_wire w (Err r) = put_refusal r w

-- a sub file's interval as other calls take it: 1, base, lowest and highest zoom, start, size; of a missing one only 0
abbrev pub interval_row : ZoomInterval → List ℕ
interval_row z = 1 ∷ z.base_zoom_level ∷ z.min_zoom_level ∷ z.max_zoom_level ∷ z.sub_file_start ∷ z.sub_file_size ∷ []

abbrev pub interval_wire : (before : Wire) → Result (Option ZoomInterval) Refusal → Wire
interval_wire w (Ok None) = numbered 0 (put 1 0 (0 ∷ []) w)
interval_wire w (Ok (Some z)) = numbered 0 (put 1 0 (interval_row z) w)
interval_wire w (Err r) = put_refusal r w

-- as it is taken: a zoom is one byte
abbrev pub interval_in : List ℕ → Option ZoomInterval
interval_in l =
    there (get_or l 0 0) None
    (Some (record {
      base_zoom_level = get_or l 1 0 % 256;
      min_zoom_level = get_or l 2 0 % 256;
      max_zoom_level = get_or l 3 0 % 256;
      sub_file_start = get_or l 4 0;
      sub_file_size = get_or l 5 0;
    }))

abbrev pub entry_wire : (before : Wire) → Result TileIndexEntry Refusal → Wire
entry_wire w (Ok e) = numbered 0 (put 0 6 (cond e.is_water 1 0 ∷ e.offset ∷ e.offset_abs ∷ []) w)
entry_wire w (Err r) = put_refusal r w

-- a tag's text, and the kind of its inline value
pub record Named : Type 0 where
  pub text : Result (Span × ℕ) Refusal
  pub kind : Kind

abbrev pub kind_word : Kind → ℕ
kind_word kind.Nothing = 0
kind_word kind.Byte = 1
kind_word kind.Short = 2
kind_word kind.Int = 3
kind_word kind.Float = 4
kind_word kind.Text = 5

abbrev pub tag_with : Result (Span × ℕ) Refusal → Kind → Wire → Wire
tag_with (Ok (s, e)) k w = numbered 0 (put 0 6 (s.start ∷ s.size ∷ e ∷ kind_word k ∷ []) w)
tag_with (Err r) k w = put_refusal r w

abbrev pub tag_wire : (before : Wire) → Named → Wire
tag_wire w a = tag_with a.text a.kind w

abbrev pub text_wire : (before : Wire) → Result ℕ LentRefusal → Wire
text_wire w (Ok n) = numbered 0 (put 0 6 (n ∷ []) w)
text_wire w (Err r) = put_lent_refusal r w

abbrev pub column_wire : (before : Wire) → Result ℤ Refusal → Wire
column_wire w (Ok x) = numbered 0 (put_signed 0 (x ∷ []) w)
column_wire w (Err r) = put_refusal r w

abbrev pub longitude_wire : (before : Wire) → Result Degrees Refusal → Wire
longitude_wire w (Ok d) = numbered 0 (put_degrees 0 (d.0 ∷ []) w)
longitude_wire w (Err r) = put_refusal r w

-- the numbers of blocks and nodes of a way's data, and the place behind them
abbrev pub put_sizes : Sizes → (end : ℕ) → Wire → Wire
put_sizes s e w = numbered 0 (put 0 6 (s.blocks ∷ s.nodes ∷ e ∷ cond s.plain 1 0 ∷ []) w)

abbrev pub way_data_wire : (before : Wire) → Result (Sizes × ℕ) Refusal → Wire
way_data_wire w (Ok (s, e)) = put_sizes s e w
way_data_wire w (Err r) = put_refusal r w

-- the same of data that was written
abbrev pub data_written_wire : (before : Wire) → Result (Sizes × ℕ) LentRefusal → Wire
data_written_wire w (Ok (s, e)) = put_sizes s e w
data_written_wire w (Err r) = put_lent_refusal r w
