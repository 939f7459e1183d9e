-- Document 01, tag.rs: the key and the value of a tag, the three tags that are made of a feature's texts, and the letter that says
-- what inline value a tag has.
use Rattle.std.specs.Prelude.{ℕ, suc, List, [], ◌∷◌, Bool, false, cond, length, take, drop, eqb}
use Rattle.arithmetic.specs.Cut.{cut}
use Rattle.text.specs.Utf8.{code_points, replaced}
use Rattle.text.specs.Hash.{hash}
use Rattle.tag.specs.declared.Tag.{Tag}
use Rattle.tag.specs.declared.TextKey.{TextKey}
use Rattle.tag.specs.declared.TextKey.TheVariants.{Name, HouseNumber, Ref}
use Rattle.tag.specs.declared.Kind.{Kind}
use Rattle.tag.specs.declared.Kind.TheVariants.{Byte, Short, Int, Float, Text, Nothing}

-- the place of the first `=`, or the length
unfoldable pub equals_at : List ℕ → ℕ
equals_at [] = 0
equals_at (b ∷ s) = cond (eqb b 61) 0 (suc (equals_at s))

-- a tag splits at its first `=`; without one its value is empty
abbrev pub key_of : List ℕ → List ℕ
key_of s = take (equals_at s) s

abbrev pub value_of : List ℕ → List ℕ
value_of s = drop (suc (equals_at s)) s

-- the tag of a key and a value: their lengths in bytes and their hashes
abbrev pub new_tag : List ℕ → List ℕ → Tag
new_tag key value =
    record {
      key_len = cut (length key);
      value_len = cut (length value);
      key_code = hash (code_points key);
      value_code = hash (code_points value);
    }

-- the tag of a stored text: keys, values and hashes are taken over the replaced text
abbrev pub tag_of : List ℕ → Tag
tag_of s = new_tag (key_of (replaced s)) (value_of (replaced s))

-- the keys of the tags that are made of a feature's texts: `name`, `addr:housenumber`, `ref`
abbrev pub key_bytes : TextKey → List ℕ
key_bytes Name = 110 ∷ 97 ∷ 109 ∷ 101 ∷ []
key_bytes HouseNumber =
    97 ∷ 100 ∷ 100 ∷ 114 ∷ 58 ∷ 104 ∷ 111 ∷ 117 ∷ 115 ∷ 101 ∷ 110 ∷ 117 ∷ 109 ∷ 98 ∷ 101 ∷ 114 ∷ []
key_bytes Ref = 114 ∷ 101 ∷ 102 ∷ []

-- whether two bytes are `=%`
abbrev pub mark : ℕ → ℕ → Bool
mark b d = cond (eqb b 61) (eqb d 37) false

-- the first byte, or 0
abbrev pub first : List ℕ → ℕ
first [] = 0
first (b ∷ s) = b

-- the byte behind the first `=%`, or 0
unfoldable pub letter_after : List ℕ → ℕ
letter_after [] = 0
letter_after (b ∷ []) = 0
letter_after (b ∷ d ∷ s) = cond (mark b d) (first s) (letter_after (d ∷ s))

-- the letter of each kind of inline value: b 1 byte, h 2, i and f 4, s a text; 0 for any other letter, or none
abbrev pub letter_of : Kind → ℕ
letter_of Byte = 98
letter_of Short = 104
letter_of Int = 105
letter_of Float = 102
letter_of Text = 115
letter_of Nothing = 0

abbrev pub kind_of : ℕ → Kind
kind_of l =
    cond (eqb l (letter_of Byte)) Byte
    (cond (eqb l (letter_of Short)) Short
    (cond (eqb l (letter_of Int)) Int
    (cond (eqb l (letter_of Float)) Float
    (cond (eqb l (letter_of Text)) Text Nothing))))

-- what inline value a tag has
abbrev pub kind : List ℕ → Kind
kind s = kind_of (letter_after s)
