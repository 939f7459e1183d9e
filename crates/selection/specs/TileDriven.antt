-- What a program knows that has the answers of `mapsforge_stream_next_selected` and of `accept`, one after the other, from their contracts
-- alone: it sees a tile's stream under the rule of window and rules.
use Rattle.std.specs.Prelude.{ℕ, ◌≡◌, List, [], ◌∷◌, map, Float}
use Rattle.format.specs.BodyLists.{body_lists}
use Rattle.format.specs.Lent.{LentLists}
use Rattle.format.specs.Tile.{Point, Head, Body, body}
use Rattle.poi.specs.declared.Poi.{Poi}
use Rattle.way_data.specs.Reply.{lent}
use Rattle.tile_layout.specs.TileLayout.{TileKinds, format_of}
use Rattle.agreement.specs.Calls.{got_point, got_head, got_body, ended}
use Rattle.agreement.specs.Stream.{on_accept}
use Rattle.agreement.specs.TileFormat.{TileEnd, whole_body, note_body}
use Rattle.zooming.specs.Zooming.{Delivered, by_head, whole}
use Rattle.visit.specs.Visit.{TileState, state_of, shown_point, shown_head, shown_body, shown_step, next_answer, NextIs, accept_answer, accept_step, NextStep, Accepted}
use Rattle.visit.specs.declared.Stream.{Stream}
use Rattle.visit.specs.declared.StreamedHead.{StreamedHead}
use Rattle.visit.specs.declared.StreamedBody.{StreamedBody}
use Rattle.selection.specs.Selected.{selected_next}
use Rattle.selection.specs.Selects.{selected}
use Rattle.selection.specs.Driven.{DrivenWell}
use Rattle.selection.specs.declared.Selection.{Selection}

abbrev pub SeenWay : Type 0
SeenWay = Delivered StreamedHead StreamedBody

-- the calls, each with its contract, to a good end; every way that is given is accepted
pub data Drove (m : List ℕ) (k : TileKinds) (w : Selection) (classes : List ℕ) : Stream → (lists : List LentLists) → List Poi → List SeenWay → TileEnd → Type 0 where
  call-end : (r : NextStep) {s : Stream} {z : TileEnd} → NextIs (shown_step (selected_next (format_of k) m (selected w classes) (state_of s))) r
      → next_answer r.answer ≡ ended z → Drove m k w classes s [] [] [] z
  call-point : (r : NextStep) {s : Stream} {p : Poi} {ls : List LentLists} {ps : List Poi} {ws : List SeenWay} {z : TileEnd} → NextIs (shown_step (selected_next (format_of k) m (selected w classes) (state_of s))) r
      → next_answer r.answer ≡ got_point p → Drove m k w classes r.stream ls ps ws z → Drove m k w classes s ls (p ∷ ps) ws z
  call-way : (r : NextStep) (a : Accepted) (c₀ c : List ℕ) (la₀ lo₀ la lo : List Float) {s : Stream} {h : StreamedHead} {b : StreamedBody} {ls : List LentLists} {ws : List SeenWay} {z : TileEnd}
      → NextIs (shown_step (selected_next (format_of k) m (selected w classes) (state_of s))) r → next_answer r.answer ≡ got_head h
      → accept_step a c la lo ≡ shown_step (on_accept body body_lists whole_body note_body m (state_of r.stream) (lent c₀ la₀ lo₀)) → accept_answer a.answer ≡ got_body b
      → Drove m k w classes a.stream ls [] ws z → Drove m k w classes s (lent c₀ la₀ lo₀ ∷ ls) [] (whole h (lent c₀ la₀ lo₀) b (lent c la lo) ∷ ws) z

-- a stored way, as it is shown
abbrev pub seen : Delivered Head Body → SeenWay
seen (by_head h) = by_head (shown_head h)
seen (whole h l b l') = whole (shown_head h) l (shown_body b) l'

-- a driven stream of stored features that shows this
pub record DroveWell (m : List ℕ) (k : TileKinds) (w : Selection) (classes : List ℕ) (s : TileState) (lists : List LentLists) (ps : List Poi) (ws : List SeenWay) (z : TileEnd) : Type 0 where
  pub points : List Point
  pub ways : List (Delivered Head Body)
  pub driven : DrivenWell (format_of k) m (selected w classes) s lists points ways z
  pub points-shown : map shown_point points ≡ ps
  pub ways-shown : map seen ways ≡ ws
