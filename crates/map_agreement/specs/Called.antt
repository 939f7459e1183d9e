-- What a program that calls next, accept and decline one after the other knows of the answers: of each call its contract, with the
-- stream that the last call left. Nothing but the contracts of crate visit stands here; crate agreement_guard has code that makes such
-- calls, and holds this file to what their functions ensure.
use Rattle.std.specs.Prelude.{ℕ, ◌≡◌, List, [], ◌∷◌, Float}
use Rattle.format.specs.BodyLists.{body_lists}
use Rattle.format.specs.Lent.{Reply}
use Rattle.format.specs.Tile.{body}
use Rattle.way_data.specs.Reply.{lent}
use Rattle.tile_layout.specs.TileLayout.{TileKinds, format_of}
use Rattle.agreement.specs.Calls.{Call, next, accept, decline, no_lists}
use Rattle.agreement.specs.Stream.{on_next, on_accept, on_decline}
use Rattle.agreement.specs.TileFormat.{whole_body, note_body}
use Rattle.visit.specs.Visit.{state_of, ShownAnswer, shown_step, next_answer, NextIs, accept_answer, accept_step, decline_answer, decline_step, NextStep, Accepted, Declined}
use Rattle.visit.specs.declared.Stream.{Stream}

-- calls on the map m from stream s on, with one layout and one list of letters, and the replies that the program saw
pub data Called (m : List ℕ) (l : TileKinds) : Stream → List Call → List (Reply ShownAnswer) → Type 0 where
  no_call : {s : Stream} → Called m l s [] []
  call_next : (r : NextStep) {s : Stream} {cs : List Call} {rs : List (Reply ShownAnswer)}
      → NextIs (shown_step (on_next (format_of l) m (state_of s))) r
      → Called m l r.stream cs rs
      → Called m l s (next ∷ cs) (record { answer = next_answer r.answer; lists = no_lists } ∷ rs)
  call-accept : (r : Accepted) (c₀ c : List ℕ) (la₀ lo₀ la lo : List Float) {s : Stream} {cs : List Call} {rs : List (Reply ShownAnswer)}
      → accept_step r c la lo ≡ shown_step (on_accept body body_lists whole_body note_body m (state_of s) (lent c₀ la₀ lo₀))
      → Called m l r.stream cs rs
      → Called m l s (accept (lent c₀ la₀ lo₀) ∷ cs) (record { answer = accept_answer r.answer; lists = lent c la lo } ∷ rs)
  call-decline : (r : Declined) {s : Stream} {cs : List Call} {rs : List (Reply ShownAnswer)}
      → decline_step r ≡ shown_step (on_decline (state_of s))
      → Called m l r.stream cs rs
      → Called m l s (decline ∷ cs) (record { answer = decline_answer r.answer; lists = no_lists } ∷ rs)
