-- Document 01, "Answers other than a result": the number and the values of each refusal. Every promise goes through these.
use Rattle.std.specs.Prelude.{ℕ, List, [], ◌∷◌, cond, eqb}
use Rattle.parsing.specs.Parse.{Res, ok, no}
use Rattle.error.specs.declared.Lengths.{Lengths}
use Rattle.error.specs.declared.Refusal.{Refusal}
use Rattle.error.specs.declared.LentRefusal.{LentRefusal}
use Rattle.error.specs.declared.LentRefusal.TheVariants.{Refused, Short}
use Rattle.error.specs.declared.Refusal.TheVariants.{Source, InvalidMagic, UnsupportedVersion, InvalidBoundingBox, InvalidHeaderSize, InvalidIndexSignature, InvalidTagId, InvalidTileIndex, TextTooLong, TooManyNodes, NumberTooLong, CoordinateTooLarge, ReversedInterval, InvalidGrid, OutOfTurn, InvalidFeature, ZoomTooLarge, IndexCutOff, TileHeadCutOff}

abbrev pub number_of : Refusal → ℕ
number_of Source = 1
number_of InvalidMagic = 2
number_of (UnsupportedVersion v) = 3
number_of InvalidBoundingBox = 4
number_of InvalidHeaderSize = 5
number_of InvalidIndexSignature = 6
number_of (InvalidTagId i) = 7
number_of InvalidTileIndex = 8
number_of TextTooLong = 9
number_of TooManyNodes = 10
number_of NumberTooLong = 11
number_of CoordinateTooLarge = 12
number_of ReversedInterval = 13
number_of InvalidGrid = 14
number_of OutOfTurn = 16
number_of InvalidFeature = 17
number_of ZoomTooLarge = 18
number_of (IndexCutOff i) = 19
number_of (TileHeadCutOff i) = 20

abbrev pub values_of : Refusal → List ℕ
values_of Source = []
values_of InvalidMagic = []
values_of (UnsupportedVersion v) = v ∷ []
values_of InvalidBoundingBox = []
values_of InvalidHeaderSize = []
values_of InvalidIndexSignature = []
values_of (InvalidTagId i) = i ∷ []
values_of InvalidTileIndex = []
values_of TextTooLong = []
values_of TooManyNodes = []
values_of NumberTooLong = []
values_of CoordinateTooLarge = []
values_of ReversedInterval = []
values_of InvalidGrid = []
values_of OutOfTurn = []
values_of InvalidFeature = []
values_of ZoomTooLarge = []
values_of (IndexCutOff i) = i ∷ []
values_of (TileHeadCutOff i) = i ∷ []

-- a refusal as a result
abbrev pub refused : {A : Type 0} → Refusal → Res A
refused r = no (number_of r) (values_of r)

-- 15 comes from a call that is lent lists or a buffer: the lengths needed, of five lists and a buffer; 0 where a call lends none
abbrev pub lengths : ℕ → ℕ → ℕ → ℕ → ℕ → ℕ → List ℕ
lengths a b c d e buffer = a ∷ b ∷ c ∷ d ∷ e ∷ buffer ∷ []

abbrev pub lent_number : LentRefusal → ℕ
lent_number (Refused r) = number_of r
lent_number (Short l) = 15

abbrev pub lent_values : LentRefusal → List ℕ
lent_values (Refused r) = values_of r
lent_values (Short l) = lengths l.list1 l.list2 l.list3 l.list4 l.list5 l.buffer

abbrev pub lent_refused : {A : Type 0} → LentRefusal → Res A
lent_refused r = no (lent_number r) (lent_values r)

-- only the buffer is too short
abbrev pub short_buffer : ℕ → LentRefusal
short_buffer n = Short (record { list1 = 0; list2 = 0; list3 = 0; list4 = 0; list5 = 0; buffer = n })

-- what stands for refusal 1 where a map that is cut off has a refusal of its own
abbrev pub cut_off_as : Refusal → Refusal → Refusal
cut_off_as cut_off r = cond (eqb (number_of r) 1) cut_off r

-- in an index entry that is read at a place, and in a tile's head
abbrev pub in_index : ℕ → Refusal → Refusal
in_index place = cut_off_as (IndexCutOff place)

abbrev pub in_tile_head : ℕ → Refusal → Refusal
in_tile_head place = cut_off_as (TileHeadCutOff place)
