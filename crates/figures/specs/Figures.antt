-- Document 01, "Worked figures": the lines marked with a dagger, proved of the definitions together, as entries of one list under one
-- theorem, and with them the smallest examples of its table of refusals that the same definitions give.
use Rattle.std.specs.Prelude.{ℕ, ◌≡◌, refl, Bool, true, false, List, [], ◌∷◌, ℤ, pos, negsuc}
use Rattle.parsing.specs.Parse.{ok, no, part}
use Rattle.byte_source.specs.BigEndian.{big_endian_of, big_endian}
use Rattle.utils.specs.Vbe.{groups, noted, noted_unsigned, noted_signed, noted_coordinate, noted_text, unsigned, signed, coordinate, text}
use Rattle.text.specs.Utf8.{follow, sequence_by, sequences_from, all_chars, valid, codes_of, code_points, bytes_of_all, replaced}
use Rattle.text.specs.Hash.{hash_from, hash}
use Rattle.tag.specs.Tag.{equals_at, key_of, value_of as tag_value, letter_after, kind}
use Rattle.tag.specs.declared.Kind.{Kind}
use Rattle.tag.specs.declared.Kind.TheVariants as kinds
use Rattle.format.specs.Index.{entry}

pub data Figure : Type 0 where
  -- these bytes are this number, and there are so many of them
  an-unsigned : List ℕ → ℕ → ℕ → Figure
  a_signed : List ℕ → ℤ → ℕ → Figure
  -- and whether it is plain (request 6 of document 02)
  noted-unsigned : List ℕ → ℕ → Bool → ℕ → Figure
  noted-signed : List ℕ → ℤ → Bool → ℕ → Figure
  -- these bytes are refused with this number
  no_unsigned : List ℕ → ℕ → Figure
  no-coordinate : List ℕ → ℕ → Figure
  no_text : List ℕ → ℕ → Figure
  -- a text's hash, and the text with its ill-formed parts replaced
  a-hash : List ℕ → ℕ → Figure
  becomes : List ℕ → List ℕ → Figure
  a-validity : List ℕ → Bool → Figure
  characters : List ℕ → List ℕ → Figure
  -- a tag's key and value, and the kind of its inline value
  a-split : List ℕ → List ℕ → List ℕ → Figure
  a-kind : List ℕ → Kind → Figure
  -- an index entry of a sub file that starts at a place: water, offset and absolute offset
  an-entry : List ℕ → ℕ → Bool → ℕ → ℕ → Figure

abbrev pub Holds : Figure → Type 0
Holds (an-unsigned s v n) = unsigned s 0 ≡ ok v n
Holds (a_signed s v n) = signed s 0 ≡ ok v n
Holds (noted-unsigned s v p n) = noted_unsigned s 0 ≡ ok (noted v p) n
Holds (noted-signed s v p n) = noted_signed s 0 ≡ ok (noted v p) n
Holds (no_unsigned s r) = unsigned s 0 ≡ no r []
Holds (no-coordinate s r) = coordinate s 0 ≡ no r []
Holds (no_text s r) = text s 0 ≡ no r []
Holds (a-hash s h) = hash (code_points (replaced s)) ≡ h
Holds (becomes s t) = replaced s ≡ t
Holds (a-validity s b) = valid s ≡ b
Holds (characters s cs) = code_points s ≡ cs
Holds (a-split s k v) = key_of s ∷ tag_value s ∷ [] ≡ k ∷ v ∷ []
Holds (a-kind s k) = kind s ≡ k
Holds (an-entry s start w o a) = entry start s 0 ≡ ok (record { water = w; offset = o; absolute = a }) 5

infixr 20 ◌and◌
pub data AllHold : List Figure → Type 0 where
  done : AllHold []
  ◌and◌ : {f : Figure} {fs : List Figure} → Holds f → AllHold fs → AllHold (f ∷ fs)

abbrev pub figures : List Figure
figures =
    an-unsigned (0x7F ∷ []) 127 1
    ∷ an-unsigned (0x80 ∷ 0x01 ∷ []) 128 2
    ∷ an-unsigned (0x81 ∷ 0x80 ∷ 0x40 ∷ []) 1048577 3
    ∷ a_signed (0x40 ∷ []) (pos 0) 1
    ∷ a_signed (0x41 ∷ []) (negsuc 0) 1
    ∷ a_signed (0xC0 ∷ 0x00 ∷ []) (pos 64) 2
    ∷ a_signed (0xC0 ∷ 0x40 ∷ []) (negsuc 63) 2
    ∷ noted-unsigned (0x00 ∷ []) 0 true 1
    ∷ noted-unsigned (0x80 ∷ 0x00 ∷ []) 0 false 2
    ∷ noted-unsigned (0x80 ∷ 0x01 ∷ []) 128 true 2
    ∷ noted-signed (0x40 ∷ []) (pos 0) false 1
    ∷ noted-signed (0x41 ∷ []) (negsuc 0) true 1
    ∷ noted-signed (0x80 ∷ 0x00 ∷ []) (pos 0) false 2
    ∷ noted-signed (0xBF ∷ 0x00 ∷ []) (pos 63) false 2
    ∷ noted-signed (0x81 ∷ 0x40 ∷ []) (negsuc 0) false 2
    ∷ noted-signed (0xC0 ∷ 0x00 ∷ []) (pos 64) true 2
    ∷ noted-signed (0xC0 ∷ 0x40 ∷ []) (negsuc 63) true 2
    ∷ no_unsigned [] 1
    ∷ no_unsigned (0x80 ∷ 0x80 ∷ 0x80 ∷ 0x80 ∷ 0x80 ∷ 0x80 ∷ 0x80 ∷ 0x80 ∷ 0x80 ∷ []) 11
    ∷ no-coordinate (0x81 ∷ 0x80 ∷ 0x80 ∷ 0x80 ∷ 0x80 ∷ 0x80 ∷ 0x80 ∷ 0x10 ∷ []) 12
    ∷ no_text (0x81 ∷ 0x80 ∷ 0x40 ∷ []) 9
    ∷ no_text (0x80 ∷ 0x80 ∷ 0x80 ∷ 0x80 ∷ 0x10 ∷ []) 9
    ∷ a-hash [] 0
    ∷ a-hash (97 ∷ []) 93217
    ∷ a-hash (97 ∷ 98 ∷ []) 2777121825
    ∷ becomes (0x61 ∷ 0xFF ∷ 0x62 ∷ []) (0x61 ∷ 0xEF ∷ 0xBF ∷ 0xBD ∷ 0x62 ∷ [])
    ∷ becomes (0xE2 ∷ 0x82 ∷ 0x41 ∷ []) (0xEF ∷ 0xBF ∷ 0xBD ∷ 0x41 ∷ [])
    ∷ becomes (0xF0 ∷ 0x80 ∷ []) (0xEF ∷ 0xBF ∷ 0xBD ∷ 0xEF ∷ 0xBF ∷ 0xBD ∷ [])
    ∷ a-validity (0xED ∷ 0x9F ∷ 0xBF ∷ []) true
    ∷ a-validity (0xED ∷ 0xA0 ∷ 0x80 ∷ []) false
    ∷ characters (0x24 ∷ 0xC2 ∷ 0xA3 ∷ 0xE2 ∷ 0x82 ∷ 0xAC ∷ 0xF0 ∷ 0x90 ∷ 0x8D ∷ 0x88 ∷ []) (0x24 ∷ 0xA3 ∷ 0x20AC ∷ 0x10348 ∷ [])
    ∷ a-split (97 ∷ 61 ∷ 98 ∷ 61 ∷ 99 ∷ []) (97 ∷ []) (98 ∷ 61 ∷ 99 ∷ [])
    ∷ a-split (97 ∷ 98 ∷ []) (97 ∷ 98 ∷ []) []
    ∷ a-kind (97 ∷ 61 ∷ 37 ∷ 98 ∷ 61 ∷ 37 ∷ 115 ∷ []) kinds.Byte
    ∷ a-kind (97 ∷ 61 ∷ 37 ∷ []) kinds.Nothing
    ∷ an-entry (0x80 ∷ 0x00 ∷ 0x00 ∷ 0x00 ∷ 0x07 ∷ []) 100 true 7 107
    ∷ []

pub figures-hold : AllHold figures
unfolding groups noted_unsigned noted_signed noted_coordinate noted_text unsigned signed coordinate text part follow sequence_by sequences_from all_chars codes_of bytes_of_all hash_from equals_at letter_after big_endian_of big_endian entry
figures-hold =
    refl and refl and refl and refl and refl and refl and refl and refl and refl and refl and refl and refl and refl and refl
    and refl and refl and refl and refl and refl and refl and refl and refl and refl and refl and refl and refl and refl and refl and refl and refl and refl and refl and refl and refl and refl and refl and done
