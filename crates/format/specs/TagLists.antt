-- The tag strings of a map, as opening lists them (request 3, document 02): of each point tag, then of each way tag, its start (the first
-- byte of its length), and the letter of its inline value (b, h, i, f, s), or 0 for any other or none. The calls on a tile take the lists
-- and go by them, whatever they hold; lists that opening filled say what a walk through the header finds (proofs/ListLaws.antt).
use Rattle.std.specs.Prelude.{ℕ, ◌+◌, Bool, ◌&&◌, cond, List, [], ◌∷◌, ◌++◌, map, leb, ltb, length, get_or}
use Rattle.parsing.specs.Parse.{Res, no, Part}
use Rattle.error.specs.Refusals.{lengths}
use Rattle.utils.specs.Vbe.{text}
use Rattle.tag.specs.Tag.{letter_of, kind_of}
use Rattle.tag.specs.declared.Kind.{Kind}
use Rattle.format.specs.Header.{Header}
use Rattle.format.specs.Kinds.{kind_of_text, upto}
use Rattle.format.specs.Lent.{front, Replied, deliver_to}

pub record TagLists : Type 0 where
  pub starts : List ℕ
  pub letters : List ℕ

-- where the texts of a table start that stands at a place: the first one there, each other one behind the one before it
abbrev pub starts_of : ℕ → List Part → List ℕ
starts_of at [] = []
starts_of at (p ∷ ps) = at ∷ starts_of (p.start + p.size) ps

abbrev pub letter_of_text : Part → ℕ
letter_of_text p = letter_of (kind_of_text p)

-- what is listed of a header
abbrev pub tag_lists : Header → TagLists
tag_lists h = record {
  starts = starts_of h.poi_tags.start h.poi_tags.texts ++ starts_of h.way_tags.start h.way_tags.texts;
  letters = map letter_of_text h.poi_tags.texts ++ map letter_of_text h.way_tags.texts;
}

abbrev pub lists_fit : (values lent : TagLists) → Bool
lists_fit v l = leb (length v.starts) (length l.starts) && leb (length v.letters) (length l.letters)

abbrev pub lists_written : (values lent : TagLists) → TagLists
lists_written v l = record { starts = front v.starts l.starts; letters = front v.letters l.letters }

abbrev pub lists_needed : TagLists → List ℕ
lists_needed v = lengths (length v.starts) (length v.letters) 0 0 0 0

-- opening with lent lists: refused as opening is; 15, if a list is shorter than both tag counts together, comes last
abbrev pub listing : Res Header → (lent : TagLists) → Replied TagLists (Res Header)
listing r l = deliver_to (record { room = lists_fit; put = lists_written; need = lists_needed }) (λ h. h) tag_lists r l

-- What lists say, whatever they hold. Of `count` tags from entry `first` on: the kind of each, by its letter, or none behind the list's end,
unfoldable pub kinds_in : (letters : List ℕ) → (first count : ℕ) → List Kind
kinds_in letters first count = upto count (λ k. kind_of (get_or letters (first + k) 0))

-- and the text of tag k, at its listed start
unfoldable pub listed_text : (starts : List ℕ) → (first count k : ℕ) → List ℕ → Res Part
listed_text starts first count k m =
    cond (ltb k count) (cond (ltb (first + k) (length starts)) (text m (get_or starts (first + k) 0)) (no 7 (k ∷ []))) (no 7 (k ∷ []))
