-- The replies that a program saw are those of the machine: the contracts of next, accept and decline, one after the other.
use Prim.Native.Nat.{ℕ}
use mathlib.Core.Path.{◌≡◌, refl, ap, ◌∙◌}
use mathlib.Core.List.{List, [], ◌∷◌}
use Rattle.format.specs.Lent.{Reply}
use Rattle.format.specs.Tile.{Point, Head, Body}
use Rattle.way_data.specs.Reply.{lent}
use Rattle.tile_layout.specs.TileLayout.{TileKinds, format_of}
use Rattle.agreement.specs.Calls.{Answer, Call, next, accept, decline, Step, run}
use Rattle.agreement.specs.Stream.{stream}
use Rattle.agreement.specs.TileFormat as tile
use Rattle.visit.specs.Visit.{TileState, state_of, ShownAnswer, shown, shown_step, next_step, accept_step, decline_step}
use Rattle.visit.specs.declared.Stream.{Stream}
use Rattle.map_agreement.specs.Called.{Called, no_call, call_next, call-accept, call-decline}

-- as the machine's replies are shown
abbrev pub shown_replies : List (Reply (Answer Point Head Body tile.TileEnd)) → List (Reply ShownAnswer)
shown_replies [] = []
shown_replies (r ∷ rs) = record { answer = shown r.answer; lists = r.lists } ∷ shown_replies rs

abbrev ShownStep : Type 0
ShownStep = Step ShownAnswer (TileState)

-- one step, and the rest
joined : (m : List ℕ) (l : TileKinds) (ds : List Call) (qs : List (Reply ShownAnswer)) (x : Step (Answer Point Head Body tile.TileEnd) (TileState)) (y : ShownStep)
    → y ≡ shown_step x → qs ≡ shown_replies (run (stream (format_of l) m) y.left ds)
    → y.reply ∷ qs ≡ shown_replies (x.reply ∷ run (stream (format_of l) m) x.left ds)
joined m l ds qs x y e q =
    ap (λ (b : ShownStep). b.reply ∷ qs) e
    ∙ ap (λ b. (shown_step x).reply ∷ b) (q ∙ ap (λ (b : ShownStep). shown_replies (run (stream (format_of l) m) b.left ds)) e)

pub called-run : (m : List ℕ) (l : TileKinds) (s : Stream) (cs : List Call) (rs : List (Reply ShownAnswer)) → Called m l s cs rs → rs ≡ shown_replies (run (stream (format_of l) m) (state_of s) cs)
called-run m l s cs rs no_call = refl
called-run m l s cs rs (call_next r {cs = ds} {rs = qs} k c) =
    joined m l ds qs (stream (format_of l) m (state_of s) next) (next_step r) k
    (called-run m l r.stream ds qs c)
called-run m l s cs rs (call-accept r c₀ c la₀ lo₀ la lo {cs = ds} {rs = qs} k d) =
    joined m l ds qs (stream (format_of l) m (state_of s) (accept (lent c₀ la₀ lo₀))) (accept_step r c la lo) k
    (called-run m l r.stream ds qs d)
called-run m l s cs rs (call-decline r {cs = ds} {rs = qs} k d) =
    joined m l ds qs (stream (format_of l) m (state_of s) decline) (decline_step r) k
    (called-run m l r.stream ds qs d)
