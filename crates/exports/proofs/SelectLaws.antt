-- The call that goes by a selection, which calls next and decline: from their contracts, by what their words say.
use Prim.Native.Nat.{ℕ, ◌<◌}
use lib.IntN.{ℤ}
use mathlib.Core.Path.{◌≡◌, refl, sym, ap, ◌∙◌, subst}
use mathlib.Core.Bool.{Bool, true, false, not}
use mathlib.Core.List.{List, [], ◌∷◌}
use lib.Ieee.{Float}
use lib.ListN.{length}
use Rattle.tile_layout.specs.TileLayout.{kinds_of}
use Rattle.tile_layout.specs.declared.TileLayout.{TileLayout}
use Rattle.format.specs.Tile.{Point, Head, Body}
use Rattle.agreement.specs.Stream.{on_decline}
use Rattle.visit.specs.Visit.{state_of, NextStep}
use Rattle.visit.specs.declared.Stream.{Stream}
use Rattle.selection.specs.Selected.{ways_of}
use Rattle.selection.specs.declared.Selection.{Selection}
use Rattle.std.proofs.lemmas.Bool.{not-true, not-false}
use Rattle.selection.proofs.NextLaws.{Left, returned, goes_on, fewer, given_back}
use Rattle.selection.proofs.NextLaws as selection
use Rattle.wire.specs.Wire.{Wire, wire, lending, list_of, there, Crosses}
use Rattle.stream_wire.specs.Streams.{stream_in, goes_past, next_wire, decline_wire}
use Rattle.stream_wire.proofs.WordLaws.{keeping, says_past, next-long, past-left, next-given, decline-long, decline-left}
use Rattle.exports.specs.Calls.{NextOf, SelectedOf, DeclineOf}

-- Before a next: the words are as they were lent, and what is still to be done from the current state is what was to be done at first.
pub record Going (m letters classes : List ℕ) (l : TileLayout) (c : Selection) (lent₀ lent : Wire) (current : List ℕ) : Type 0 where
  pub same : lent ≡ lent₀
  pub words : length (list_of lent 0) ≡ 22
  pub first : length (list_of lent 2) ≡ 8
  pub state : length current ≡ 8
  pub left : Left (kinds_of l letters) m c classes (stream_in (list_of lent₀ 2)) (state_of (stream_in current))

module _ (m letters classes : List ℕ) (l : TileLayout) (c : Selection) (lent₀ : Wire) (w i s cur : List ℕ) (z : List ℤ) (d : List Float)
    (g : Going m letters classes l c lent₀ (lending (w ∷ i ∷ s ∷ []) z d) cur)
    (n : ℕ) (w' i' cur' : List ℕ) (z' : List ℤ) (d' : List Float)
    (x : Crosses (next_wire (lending (w ∷ i ∷ cur ∷ []) z d)) (NextOf m letters l (stream_in cur)) (wire n (w' ∷ i' ∷ cur' ∷ []) z' d'))
    (b : Bool) (e : b ≡ goes_past c classes n w' i') where
  abbrev a : NextStep
  a = x.answer

  abbrev s₀ : Stream
  s₀ = stream_in (list_of lent₀ 2)

  same-state : s ≡ list_of lent₀ 2
  same-state = ap (λ (v : Wire). list_of v 2) g.same

  told : b ≡ selection.goes_past c classes a
  told = e ∙ ap (λ (v : Wire). goes_past c classes v.number (list_of v 0) (list_of v 1)) x.crossed ∙ says_past w i cur z d a g.words c classes

  -- it is given back
  pub selected-crosses : (c' : Selection) → c ≡ c' → not b ≡ true → (r : ℕ) (s' : List ℕ) → (r ≡ n) × (s' ≡ there n cur' s)
      → Crosses (next_wire lent₀) (SelectedOf m letters classes l c' s₀) (wire r (w' ∷ i' ∷ s' ∷ []) z' d')
  selected-crosses c' q u r s' k =
      subst (λ (y : Selection). Crosses (next_wire lent₀) (SelectedOf m letters classes l y s₀) (wire r (w' ∷ i' ∷ s' ∷ []) z' d')) q
      (record {
        answer = given_back a s₀;
        is = returned (kinds_of l letters) m c classes s₀ (state_of (stream_in cur)) a x.is g.left (sym told ∙ not-true b u);
        crossed =
            ap (λ (j : ℕ). wire j (w' ∷ i' ∷ s' ∷ []) z' d') k.0
            ∙ ap (λ (j : List ℕ). wire n (w' ∷ i' ∷ j ∷ []) z' d') k.1
            ∙ ap (keeping s) x.crossed
            ∙ next-given w i cur z d a g.state s g.first s₀
            ∙ ap (λ (v : Wire). next_wire v (given_back a s₀)) g.same;
      })

  -- or it goes past, and is declined
  module _ (u : not b ≡ false) (aside : List ℕ) (k : ℕ) (aside' cur'' : List ℕ)
      (y : Crosses (decline_wire (lending (aside ∷ cur' ∷ []) [] [])) (DeclineOf (stream_in cur')) (wire k (aside' ∷ cur'' ∷ []) [] [])) where
    past : selection.goes_past c classes a ≡ true
    past = sym told ∙ not-false b u

    same-cur : cur' ≡ list_of (next_wire (lending (w ∷ i ∷ cur ∷ []) z d) a) 2
    same-cur = ap (λ (v : Wire). list_of v 2) x.crossed

    long : length cur' ≡ 8
    long = ap length same-cur ∙ next-long w i cur z d a g.state

    waits : stream_in cur' ≡ a.stream
    waits = ap stream_in same-cur ∙ past-left w i cur z d a g.state c classes past

    same_next : cur'' ≡ list_of (decline_wire (lending (aside ∷ cur' ∷ []) [] []) y.answer) 1
    same_next = ap (λ (v : Wire). list_of v 1) y.crossed

    behind : state_of (stream_in cur'') ≡ (on_decline {P = Point} {H = Head} {B = Body} (state_of a.stream)).left
    behind =
        ap (λ (v : List ℕ). state_of (stream_in v)) same_next
        ∙ decline-left aside cur' y.answer long y.is
        ∙ ap (λ (t : Stream). (on_decline {P = Point} {H = Head} {B = Body} (state_of t)).left) waits

    pub less : ways_of (state_of (stream_in cur'')) < ways_of (state_of (stream_in cur))
    less = fewer (kinds_of l letters) m c classes s₀ (state_of (stream_in cur)) a x.is past (state_of (stream_in cur'')) behind

    -- with the words as they were lent
    abbrev restored : Wire
    restored = lending (list_of lent₀ 0 ∷ list_of lent₀ 1 ∷ s ∷ []) lent₀.signed lent₀.degrees

    is-lent : restored ≡ lent₀
    is-lent = subst (λ (v : Wire). lending (list_of v 0 ∷ list_of v 1 ∷ s ∷ []) v.signed v.degrees ≡ v) g.same refl

    pub again : Going m letters classes l c lent₀ restored cur''
    again = record {
      same = is-lent;
      words = ap (λ (v : Wire). length (list_of v 0)) (sym g.same) ∙ g.words;
      first = g.first;
      state = ap length same_next ∙ decline-long aside cur' y.answer long;
      left = goes_on (kinds_of l letters) m c classes s₀ (state_of (stream_in cur)) a x.is past (state_of (stream_in cur'')) behind g.left;
    }
