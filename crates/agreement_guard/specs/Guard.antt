-- What the program of this crate is answered: of each step the contracts of the functions that it calls, and in the end that its replies
-- are the book's (crate map_agreement, BookSays.antt).
use Rattle.error.specs.declared.LentRefusal.{LentRefusal}
use Rattle.std.specs.Prelude.{Result, Ok, Err, MatchResult, Option, Some, None, ℕ, ◌≡◌, Bool, true, false, List, [], ◌∷◌}
use Rattle.parsing.specs.Parse.{Res, ok, no, and_then, map_res, nth}
use Rattle.error.specs.Refusals.{lent_refused}
use Rattle.format.specs.Header.{Header, opened}
use Rattle.format.specs.Index.{answer, Grid, Located}
use Rattle.format.specs.Lent.{LentLists, Replied, Reply}
use Rattle.format.specs.TagLists.{TagLists, tag_lists, lists_written, listing}
use Rattle.types.specs.Types.{intervals_of}
use Rattle.header.specs.HeaderView.{map_header}
use Rattle.opening.specs.Opening.{OpenIs}
use Rattle.types.specs.declared.MapHeader.{MapHeader}
use Rattle.index.specs.Answers.{interval_found}
use Rattle.tile_layout.specs.TileLayout.{layout_of, TileKinds, kinds_of}
use Rattle.agreement.specs.Calls.{Call, next, accept, decline, no_lists}
use Rattle.agreement.specs.Collected.{StoredTile}
use Rattle.agreement.specs.Demand3.{MapCollects}
use Rattle.visit.specs.Visit.{ShownAnswer, next_answer, accept_answer, decline_answer}
use Rattle.visit.specs.declared.Stream.{Stream}
use Rattle.tile.specs.Tile.{collect_tile, tile_places, listed}
use Rattle.tile.specs.declared.Tile.{Tile}
use Rattle.map_agreement.specs.MapsforgeMap.{mapsforge}
use Rattle.map_agreement.specs.Called.{Called}
use Rattle.map_agreement.specs.BookSays.{MapRead, book_at}
use Rattle.agreement_guard.specs.declared.OpenedMap.{OpenedMap}
use Rattle.agreement_guard.specs.declared.Replies.{Replies}

-- what `layout_of` and `interval_of` give of the header that `open_map` answered
pub record Opened (sub_file : ℕ) (read : MapRead) (o : OpenedMap) : Type 0 where
  pub header : MapHeader
  pub end : ℕ
  pub opens : read ≡ Ok (header, end)
  pub layout : o.layout ≡ layout_of header
  pub found : interval_found o.found ≡ nth (intervals_of header) sub_file

-- `open_map`, `layout_of` and `interval_of`, as the theorem supposes them
pub record OpenedIs (m : List ℕ) (sub_file : ℕ) (lent left : TagLists) (r : Result OpenedMap LentRefusal) : Type 0 where
  pub read : MapRead
  pub opens : OpenIs (opened m) lent read left
  pub gives : MatchResult r (Opened sub_file read) (λ x. read ≡ Err x)

-- next, accept and decline, by the lists lent to accept
abbrev pub three_calls : LentLists → List Call
three_calls lent = next ∷ accept lent ∷ decline ∷ []

-- and their replies, by the lists after accept
abbrev pub three_replies : Replies → LentLists → List (Reply ShownAnswer)
three_replies r left =
    record { answer = next_answer r.next; lists = no_lists }
    ∷ record { answer = accept_answer r.accepted; lists = left }
    ∷ record { answer = decline_answer r.declined; lists = no_lists }
    ∷ []

abbrev pub Called3 : (m : List ℕ) (l : TileKinds) (s : Stream) (lent left : LentLists) → Replies → Type 0
Called3 m l s lent left r = Called m l s (three_calls lent) (three_replies r left)

-- collecting by the letters that opening listed: what is answered, and the list of places after it
abbrev pub collected_in : List ℕ → (lent : TagLists) → (sub_file : ℕ) → Grid → (number : ℕ) → (places : List ℕ) → Header → Replied (List ℕ) (Res Tile)
collected_in m lent sub_file grid number places h =
    let l = kinds_of (layout_of (map_header h)) (lists_written (tag_lists h) lent).letters in
    let i = nth (intervals_of (map_header h)) sub_file in
    listed (collect_tile l i grid number m) (tile_places l i grid number m) places

-- whether every stored size of a map's tile is the decoded length; or the refusal, if the map does not open with these lists or the tile
-- does not collect, or its list is too short
abbrev pub exact_in : List ℕ → (lent : TagLists) → (sub_file : ℕ) → Grid → (number : ℕ) → (places : List ℕ) → Res Bool
exact_in m lent sub_file grid number places =
    and_then (listing (opened m) lent).answer (λ h _. map_res (λ (t : Tile). t.exact) (collected_in m lent sub_file grid number places h).answer)

-- the list of places after the call: as it was, where the map does not open
abbrev pub places_left : List ℕ → (lent : TagLists) → (sub_file : ℕ) → Grid → (number : ℕ) → (places : List ℕ) → Res Header → List ℕ
places_left m lent sub_file grid number places (ok h e) = (collected_in m lent sub_file grid number places h).lists
places_left m lent sub_file grid number places (no n v) = places

-- what a program is answered: the replies, none where a stored size is not the decoded length, or a refusal
abbrev pub Outcome : Type 0
Outcome = Result (Option Replies) LentRefusal

-- what the outcome says of it
abbrev pub exactness : Outcome → Res Bool
exactness (Err r) = lent_refused r
exactness (Ok None) = answer false
exactness (Ok (Some a)) = answer true

-- the replies are those of the book that is fed the collected tile
pub record BookReplied (m : List ℕ) (sub_file : ℕ) (grid : Grid) (number zoom : ℕ) (lent left : LentLists) (r : Replies) : Type 0 where
  pub stored : Header
  pub place : Located
  pub tile : StoredTile ((mapsforge sub_file grid number).format stored)
  pub collects : MapCollects (mapsforge sub_file grid number) m stored place tile
  pub replies : three_replies r left ≡ book_at sub_file grid number stored place tile zoom (three_calls lent)

-- where nothing is called, the lists of nodes are as they were
abbrev pub Replying : (m : List ℕ) (sub_file : ℕ) (grid : Grid) (number zoom : ℕ) (lent left : LentLists) → Outcome → Type 0
Replying m sub_file grid number zoom lent left (Err r) = left ≡ lent
Replying m sub_file grid number zoom lent left (Ok None) = left ≡ lent
Replying m sub_file grid number zoom lent left (Ok (Some a)) = BookReplied m sub_file grid number zoom lent left a

-- `tags`, `room` and `lent` before, `tagged`, `places` and `left` after: whatever the outcome, the lists of tags are as opening leaves them, and
-- the list of places is as collecting does
pub record OutcomeIs (m : List ℕ) (sub_file : ℕ) (grid : Grid) (number zoom : ℕ) (tags tagged : TagLists) (room places : List ℕ) (lent left : LentLists) (r : Outcome) : Type 0 where
  pub collecting : exactness r ≡ exact_in m tags sub_file grid number room
  pub placing : places ≡ places_left m tags sub_file grid number room (listing (opened m) tags).answer
  pub listing : tagged ≡ (listing (opened m) tags).lists
  pub replying : Replying m sub_file grid number zoom lent left r
