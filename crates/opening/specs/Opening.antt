-- Opening a map that lists its tag strings (request 3, document 02): what the calls answer, and the lent lists after the call. The answer is
-- the stored header in a view, or the refusal, which may be 15.
use Rattle.std.specs.Prelude.{ℕ, ◌≡◌, List, Result}
use Rattle.parsing.specs.Parse.{Res, map_res}
use Rattle.error.specs.declared.LentRefusal.{LentRefusal}
use Rattle.byte_source.specs.Answers.{lent_res}
use Rattle.format.specs.Header.{Header}
use Rattle.format.specs.Lent.{Replied}
use Rattle.format.specs.TagLists.{TagLists, listing}
use Rattle.types.specs.declared.HeaderFields.{HeaderFields}
use Rattle.types.specs.declared.MapHeader.{MapHeader}
use Rattle.header.specs.HeaderView.{header_fields, map_header}

abbrev pub lists : (starts letters : List ℕ) → TagLists
lists starts letters = record { starts = starts; letters = letters }

-- what opening replies, with the header in a view
abbrev pub listing_as : {A : Type 0} → (view : Header → A) → Res Header → (lent : TagLists) → Replied TagLists (Res A)
listing_as view stored lent = record { answer = map_res view (listing stored lent).answer; lists = (listing stored lent).lists }

-- the header of the code with the place behind it, or why there is none
abbrev pub replied : {A : Type 0} → Result (A × ℕ) LentRefusal → (left : TagLists) → Replied TagLists (Res A)
replied r left = record { answer = lent_res r; lists = left }

-- without the array of intervals
abbrev pub ListedIs : Res Header → (lent : TagLists) → Result (HeaderFields × ℕ) LentRefusal → (left : TagLists) → Type 0
ListedIs stored lent r left = replied r left ≡ listing_as header_fields stored lent

-- with it
abbrev pub OpenIs : Res Header → (lent : TagLists) → Result (MapHeader × ℕ) LentRefusal → (left : TagLists) → Type 0
OpenIs stored lent r left = replied r left ≡ listing_as map_header stored lent
