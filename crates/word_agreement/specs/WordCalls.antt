-- What a program in another language knows that calls `mapsforge_stream_next`, `mapsforge_stream_accept` and `mapsforge_stream_decline`
-- one after the other: of each call its contract (crate exports), with the state's words that the last call left. It reads the words by
-- `next_in`, `accept_in` and `decline_in` of crate stream_wire. Nothing else stands here.
use Rattle.std.specs.Prelude.{ℕ, ℤ, ◌≡◌, List, [], ◌∷◌, Float}
use Rattle.format.specs.Lent.{LentLists, Reply}
use Rattle.types.specs.declared.Grid.{Grid}
use Rattle.agreement.specs.Calls.{Call, next, accept, decline, no_lists}
use Rattle.visit.specs.Visit.{ShownAnswer, next_answer, accept_answer, decline_answer}
use Rattle.wire.specs.Wire.{Wire, lending, list_of, Crosses}
use Rattle.header_wire.specs.Header.{layout_in}
use Rattle.index_wire.specs.Index.{interval_in}
use Rattle.stream_wire.specs.Streams.{stream_in, opened_wire, next_wire, accept_wire, decline_wire}
use Rattle.stream_wire.specs.Codecs.{OpenedLent, NextLent, next_in, AcceptLent, accept_in, DeclineLent, decline_in}
use Rattle.exports.specs.Calls.{StreamOf, NextOf, AcceptOf, DeclineOf}

-- calls on the map m with these layout words and letters, from these state words on, whatever other words were lent, and the replies that the program read
pub data WordCalled (m layout letters : List ℕ) : List ℕ → List Call → List (Reply ShownAnswer) → Type 0 where
  no_call : {s : List ℕ} → WordCalled m layout letters s [] []
  call_next : (words ids : List ℕ) (signed : List ℤ) (degrees : List Float) (after : Wire) {s : List ℕ} {cs : List Call} {rs : List (Reply ShownAnswer)}
      → NextLent (lending (words ∷ ids ∷ s ∷ []) signed degrees)
      → Crosses (next_wire (lending (words ∷ ids ∷ s ∷ []) signed degrees)) (NextOf m letters (layout_in layout) (stream_in s)) after
      → WordCalled m layout letters (list_of after 2) cs rs
      → WordCalled m layout letters s (next ∷ cs) (record { answer = next_answer (next_in after).answer; lists = no_lists } ∷ rs)
  call-accept : (words : List ℕ) (degrees : List Float) (after : Wire) (lists left : LentLists) {s : List ℕ} {cs : List Call} {rs : List (Reply ShownAnswer)}
      → AcceptLent (lending (words ∷ s ∷ []) [] degrees)
      → Crosses (accept_wire (lending (words ∷ s ∷ []) [] degrees)) (AcceptOf m (stream_in s) lists left) after
      → WordCalled m layout letters (list_of after 1) cs rs
      → WordCalled m layout letters s (accept lists ∷ cs) (record { answer = accept_answer (accept_in after).answer; lists = left } ∷ rs)
  call-decline : (words : List ℕ) (after : Wire) {s : List ℕ} {cs : List Call} {rs : List (Reply ShownAnswer)}
      → DeclineLent (lending (words ∷ s ∷ []) [] [])
      → Crosses (decline_wire (lending (words ∷ s ∷ []) [] [])) (DeclineOf (stream_in s)) after
      → WordCalled m layout letters (list_of after 1) cs rs
      → WordCalled m layout letters s (decline ∷ cs) (record { answer = decline_answer (decline_in after).answer; lists = no_lists } ∷ rs)

-- Whatever words were lent: `mapsforge_stream_open` returns 0, and from the state's words on the calls cs get these replies.
pub record WordStreams (m : List ℕ) (sub_file : ℕ) (grid : Grid) (number zoom : ℕ) (layout letters interval : List ℕ) (cs : List Call) (replied : List (Reply ShownAnswer)) : Type 0 where
  pub opens : (before after : Wire) → OpenedLent before
      → Crosses (opened_wire before) (StreamOf m sub_file number zoom (layout_in layout) (interval_in interval) grid) after → after.number ≡ 0
  pub replies : (before after : Wire) → OpenedLent before
      → Crosses (opened_wire before) (StreamOf m sub_file number zoom (layout_in layout) (interval_in interval) grid) after
      → (rs : List (Reply ShownAnswer)) → WordCalled m layout letters (list_of after 1) cs rs → rs ≡ replied
