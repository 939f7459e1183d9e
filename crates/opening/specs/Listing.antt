-- What private functions ask and leave, which need not be believed: the test of the lists' lengths, the walk over the texts of tables that are
-- known to be readable.
use Rattle.std.specs.Prelude.{ℕ, ◌+◌, ◌≤◌, Bool, ◌&&◌, ◌≡◌, List, ◌++◌, map, leb, length}
use Rattle.std.proofs.lemmas.List.Edits.{sets}
use Rattle.parsing.specs.Parse.{Res, Part, many, Fine, list_of}
use Rattle.error.specs.declared.LentRefusal.{LentRefusal}
use Rattle.error.specs.declared.LentRefusal.TheVariants.{Short}
use Rattle.utils.specs.Vbe.{text}
use Rattle.format.specs.Lent.{front}
use Rattle.format.specs.TagLists.{starts_of, letter_of_text}
use Rattle.types.specs.declared.TagTable.{TagTable}

-- lists of these lengths have room for n entries each
abbrev pub long_enough : (n starts letters : ℕ) → Bool
long_enough n starts letters = leb n starts && leb n letters

abbrev pub too_short : ℕ → LentRefusal
too_short n = Short (record { list1 = n; list2 = n; list3 = 0; list4 = 0; list5 = 0; buffer = 0 })

-- the texts of a table
abbrev pub texts_in : List ℕ → TagTable → Res (List Part)
texts_in m t = many text t.count m t.start

abbrev pub starts_in : List ℕ → TagTable → List ℕ
starts_in m t = starts_of t.start (list_of (texts_in m t))

abbrev pub letters_in : List ℕ → TagTable → List ℕ
letters_in m t = map letter_of_text (list_of (texts_in m t))

-- a table's texts are no refusal, and the lists are long enough from entry `first` on
pub record TagsFit (m : List ℕ) (t : TagTable) (first : ℕ) (s l : List ℕ) : Type 0 where
  pub fine : Fine (texts_in m t)
  pub starts : first + t.count ≤ length s
  pub letters : first + t.count ≤ length l

-- they are written to the lists from there on
pub record TagsListed (m : List ℕ) (t : TagTable) (first : ℕ) (s₀ l₀ s l : List ℕ) : Type 0 where
  pub starts : s ≡ sets s₀ first (starts_in m t)
  pub letters : l ≡ sets l₀ first (letters_in m t)

-- the same of both tables, one behind the other
pub record BothFit (m : List ℕ) (p w : TagTable) (s l : List ℕ) : Type 0 where
  pub poi : Fine (texts_in m p)
  pub way : Fine (texts_in m w)
  pub starts : p.count + w.count ≤ length s
  pub letters : p.count + w.count ≤ length l

pub record BothListed (m : List ℕ) (p w : TagTable) (s₀ l₀ s l : List ℕ) : Type 0 where
  pub starts : s ≡ front (starts_in m p ++ starts_in m w) s₀
  pub letters : l ≡ front (letters_in m p ++ letters_in m w) l₀
