-- From the contracts of `mapsforge_stream_next_selected` and `accept` to the driven stream of stored features.
use Prim.Native.Nat.{ℕ}
use native.Mathlib.Omega.{arith}
use mathlib.Core.Path.{◌≡◌, refl, sym, ap, ◌∙◌, subst}
use mathlib.Core.List.{List, [], ◌∷◌, map}
use Rattle.format.specs.Lent.{LentLists}
use Rattle.format.specs.Tile.{Point, Head, Body}
use Rattle.poi.specs.declared.Poi.{Poi}
use Rattle.way_data.specs.Reply.{lent}
use Rattle.tile_layout.specs.TileLayout.{TileKinds, format_of}
use Rattle.agreement.specs.Calls.{accept, Answer, got_point, got_head, got_body, declined, ended, refused, Step, plain, lending}
use Rattle.agreement.specs.Stream.{stream}
use Rattle.agreement.specs.TileFormat.{TileEnd}
use Rattle.zooming.specs.Zooming.{whole}
use Rattle.visit.specs.Visit.{TileState, state_of, shown_point, shown_head, shown_body, ShownAnswer, shown, shown_step, next_answer, accept_answer, NextStep, Accepted}
use Rattle.visit.specs.declared.Stream.{Stream}
use Rattle.visit.specs.declared.StreamedHead.{StreamedHead}
use Rattle.visit.specs.declared.StreamedBody.{StreamedBody}
use Rattle.selection.specs.Selected.{selected_next}
use Rattle.selection.specs.Selects.{selected}
use Rattle.selection.specs.Driven.{DrivenWell, at-end, on-point, on-way}
use Rattle.selection.specs.TileDriven.{SeenWay, Drove, call-end, call-point, call-way, seen, DroveWell}
use Rattle.selection.specs.declared.Selection.{Selection}
use Rattle.selection.proofs.SelectedLaws.{other}

abbrev Stored : Type 0
Stored = Answer Point Head Body TileEnd

abbrev StoredStep : Type 0
StoredStep = Step Stored TileState

record Shown {A C : Type 0} (make : A → Stored) (view : A → C) (a : Stored) (c : C) : Type 0 where
  value : A
  is : a ≡ make value
  shows : view value ≡ c

point-of : (a : Stored) (p : Poi) → got_point p ≡ shown a → Shown got_point shown_point a p
point-of (got_point q) p e = record { value = q; is = refl; shows = cc }
point-of (got_head q) p e = other e (λ k. omega arith)
point-of (got_body q) p e = other e (λ k. omega arith)
point-of declined p e = other e (λ k. omega arith)
point-of (ended q) p e = other e (λ k. omega arith)
point-of (refused n v) p e = other e (λ k. omega arith)

head_of : (a : Stored) (h : StreamedHead) → got_head h ≡ shown a → Shown got_head shown_head a h
head_of (got_point q) h e = other e (λ k. omega arith)
head_of (got_head q) h e = record { value = q; is = refl; shows = cc }
head_of (got_body q) h e = other e (λ k. omega arith)
head_of declined h e = other e (λ k. omega arith)
head_of (ended q) h e = other e (λ k. omega arith)
head_of (refused n v) h e = other e (λ k. omega arith)

body_of : (a : Stored) (b : StreamedBody) → got_body b ≡ shown a → Shown got_body shown_body a b
body_of (got_point q) b e = other e (λ k. omega arith)
body_of (got_head q) b e = other e (λ k. omega arith)
body_of (got_body q) b e = record { value = q; is = refl; shows = cc }
body_of declined b e = other e (λ k. omega arith)
body_of (ended q) b e = other e (λ k. omega arith)
body_of (refused n v) b e = other e (λ k. omega arith)

ended_of : (a : Stored) (y : TileEnd) → ended y ≡ shown a → a ≡ ended y
ended_of (got_point q) y e = other e (λ k. omega arith)
ended_of (got_head q) y e = other e (λ k. omega arith)
ended_of (got_body q) y e = other e (λ k. omega arith)
ended_of declined y e = other e (λ k. omega arith)
ended_of (ended q) y e = ap ended (let f : y ≡ q = cc in sym f)
ended_of (refused n v) y e = other e (λ k. omega arith)

-- a step, by what is shown of it
module _ (x : StoredStep) (a : ShownAnswer) (l : LentLists) (s : TileState) (e : lending a l s ≡ shown_step x) where
  answer-is : a ≡ shown x.reply.answer
  answer-is = ap (λ (t : Step ShownAnswer TileState). t.reply.answer) e

  step_is : (b : Stored) → x.reply.answer ≡ b → x ≡ lending b l s
  step_is b f =
      let i : x.reply.lists ≡ l = sym (ap (λ (t : Step ShownAnswer TileState). t.reply.lists) e) in
      let j : x.left ≡ s = sym (ap (λ (t : Step ShownAnswer TileState). t.left) e) in
      ap (λ c. lending c x.reply.lists x.left) f ∙ ap (λ c. lending b c x.left) i ∙ ap (lending b l) j

module _ (m : List ℕ) (k : TileKinds) (w : Selection) (classes : List ℕ) where
  abbrev go : Stream → StoredStep
  go s = selected_next (format_of k) m (selected w classes) (state_of s)

  no-points : (ps : List Point) → map shown_point ps ≡ [] → ps ≡ []
  no-points [] e = refl
  no-points (p ∷ ps) e = absurd (let z : ◌≡◌ {A = ℕ} 0 1 = cc in omega arith)

  way-well : (r : NextStep) (a : Accepted) (l₀ l₁ : LentLists) (s : Stream) (h : StreamedHead) (b : StreamedBody) (ls : List LentLists) (ws : List SeenWay) (z : TileEnd)
      → plain (next_answer r.answer) (state_of r.stream) ≡ shown_step (go s) → next_answer r.answer ≡ got_head h
      → lending (accept_answer a.answer) l₁ (state_of a.stream) ≡ shown_step (stream (format_of k) m (state_of r.stream) (accept l₀)) → accept_answer a.answer ≡ got_body b
      → DroveWell m k w classes (state_of a.stream) ls [] ws z → DroveWell m k w classes (state_of s) (l₀ ∷ ls) [] (whole h l₀ b l₁ ∷ ws) z
  way-well r a l₀ l₁ s h b ls ws z n e f g u =
      let y : StoredStep = stream (format_of k) m (state_of r.stream) (accept l₀) in
      let i = head_of (go s).reply.answer h (sym e ∙ answer-is (go s) _ _ _ n) in
      let j = body_of y.reply.answer b (sym g ∙ answer-is y (accept_answer a.answer) l₁ (state_of a.stream) f) in
      record {
        points = [];
        ways = whole i.value l₀ j.value l₁ ∷ u.ways;
        driven =
            on-way (step_is (go s) _ _ _ n (got_head i.value) i.is) (step_is y (accept_answer a.answer) l₁ (state_of a.stream) f (got_body j.value) j.is)
            (subst (λ ps. DrivenWell (format_of k) m (selected w classes) (state_of a.stream) ls ps u.ways z) (no-points u.points u.points-shown) u.driven);
        points-shown = refl;
        ways-shown =
            ap (λ (q : StreamedHead). whole q l₀ (shown_body j.value) l₁ ∷ map seen u.ways) i.shows
            ∙ ap (λ (q : StreamedBody). whole h l₀ q l₁ ∷ map seen u.ways) j.shows
            ∙ ap (λ (q : List SeenWay). whole h l₀ b l₁ ∷ q) u.ways-shown;
      }

  pub drove-well : {s : Stream} {ls : List LentLists} {ps : List Poi} {ws : List SeenWay} {z : TileEnd} → Drove m k w classes s ls ps ws z → DroveWell m k w classes (state_of s) ls ps ws z
  drove-well (call-end r {s = s} {z = z} n e) =
      let a = answer-is (go s) _ _ _ n in
      record { points = []; ways = []; driven = at-end (step_is (go s) _ _ _ n (ended z) (ended_of (go s).reply.answer z (sym e ∙ a))); points-shown = refl; ways-shown = refl }
  drove-well (call-point r {s = s} {p = p} n e d) =
      let a = point-of (go s).reply.answer p (sym e ∙ answer-is (go s) _ _ _ n) in
      let u = drove-well d in
      record {
        points = a.value ∷ u.points;
        ways = u.ways;
        driven = on-point (step_is (go s) _ _ _ n (got_point a.value) a.is) u.driven;
        points-shown = ap (λ q. q ∷ map shown_point u.points) a.shows ∙ ap (λ q. p ∷ q) u.points-shown;
        ways-shown = u.ways-shown;
      }
  drove-well (call-way r a c₀ c la₀ lo₀ la lo {s = s} {h = h} {b = b} {ls = ls} {ws = ws} {z = z} n e f g d) =
      way-well r a (lent c₀ la₀ lo₀) (lent c la lo) s h b ls ws z n e f g (drove-well d)
