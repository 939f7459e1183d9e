-- What the quick readers say: where they have an answer, it is what the format's parsers give, and every number of it was plain; else nothing.
use Rattle.std.specs.Prelude.{ℕ, ◌+◌, ◌≤◌, Bool, true, cond, ◌≡◌, List, eqb, ℤ, length}
use Rattle.parsing.specs.Parse.{Res, ok, map_res, Part}
use Rattle.byte_source.specs.BigEndian.{big_endian}
use Rattle.utils.specs.Vbe.{Noted, noted, values_of, all_plain, noted_unsigned, signed_of}
use Rattle.arithmetic.specs.Cut.{cut}
use Rattle.format.specs.Lent.{front}
use Rattle.format.specs.Tile.{Tagged, Head}

-- a read that succeeded within a map of n bytes, by a view of its value
pub record Reads {A B : Type 0} (view : A → B) (r : Res A) (n : ℕ) (v : B) (e : ℕ) : Type 0 where
  pub same : map_res view r ≡ ok v e
  pub inside : e ≤ n

abbrev pub whole : {A : Type 0} → A → A
whole a = a

-- of a value that is skipped, whether its length was plain
abbrev pub is_plain : Noted Part → Bool
is_plain v = v.plain

abbrev pub are_plain : List (Noted Part) → Bool
are_plain l = all_plain l

-- the bytes of a value of a letter that is no s
abbrev pub width_of : ℕ → ℕ
width_of l = cond (eqb l 98) 1 (cond (eqb l 104) 2 (cond (eqb l 105) 4 (cond (eqb l 102) 4 0)))

-- ids go to the front of a lent array; entries behind them keep their values
unfoldable pub put : List ℕ → List ℕ → List ℕ
put lent l = front l lent

abbrev pub filled : List ℕ → List (Noted ℕ) → Noted (List ℕ)
filled lent l = noted (put lent (values_of l)) (all_plain l)

pub record ShownTags : Type 0 where
  pub layer : ℤ
  pub ids : List ℕ
  pub count : ℕ
  pub plain : Bool

abbrev pub tags_of : List ℕ → Tagged → ShownTags
tags_of lent t = record { layer = t.layer; ids = put lent t.ids; count = length t.ids; plain = t.plain }

-- of a way's head: where declining it goes, its bitmap and tags, and whether it was plain
pub record ShownHead : Type 0 where
  pub past : ℕ
  pub bitmap : ℕ
  pub tags : ShownTags
  pub plain : Bool

abbrev pub head_of : List ℕ → Head → ShownHead
head_of lent h = record { past = cut (h.start + h.size); bitmap = h.bitmap; tags = tags_of lent h.tagged; plain = h.plain }

-- what stands in front of a way's tags
pub record FrontIs (m : List ℕ) (at size start bitmap : ℕ) : Type 0 where
  pub sized : noted_unsigned m at ≡ ok (noted size true) start
  pub mapped : big_endian 2 m start ≡ ok bitmap (start + 2)
  pub inside : start + 2 ≤ length m

-- what the bytes of a signed number say
pub record SignedIs (v sign : ℕ) (Plain : Type 0) (e : ℕ) (z : ℤ) (next : ℕ) : Type 0 where
  pub plain : Plain
  pub value : z ≡ signed_of v sign
  pub behind : next ≡ e
