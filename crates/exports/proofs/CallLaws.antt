-- What crosses back, from the contracts of the inner function and of the encoders.
use Rattle.visit.specs.Visit.{NextStep, Accepted, Declined}
use Prim.Native.Nat.{ℕ}
use lib.IntN.{ℤ}
use mathlib.Core.Path.{◌≡◌, refl, subst}
use mathlib.Core.Bool.{Bool, true, false}
use mathlib.Core.List.{List}
use mir.Syntax.{w32, w64}
use mir.Val.{SFits, to_z, of_z}
use mir.Facts.{to_z-of_z}
use Rattle.std.specs.Prelude.{Result}
use Rattle.byte_source.specs.Answers.{read_by, part_in}
use Rattle.byte_source.specs.declared.Span.{Span}
use Rattle.error.specs.declared.Refusal.{Refusal}
use Rattle.tag.specs.declared.Kind.{Kind}
use Rattle.format.specs.Tile.{kind_at}
use Rattle.format.specs.Lent.{LentLists}
use Rattle.format.specs.TagLists.{listed_text}
use Rattle.types.specs.declared.Grid.{Grid}
use Rattle.types.specs.declared.TagRange.{TagRange}
use Rattle.tag_table.specs.Tables.{kinds_by}
use Rattle.tile_layout.specs.declared.TileLayout.{TileLayout}
use Rattle.visit.specs.declared.Stream.{Stream}
use Rattle.wire.specs.Wire.{Wire, Crosses}
use Rattle.index_wire.specs.Index.{tag_wire}
use Rattle.stream_wire.specs.Streams.{next_wire, accept_wire, decline_wire}
use Rattle.exports.specs.Calls.{grid_in, QuickOf, window_in, TagIs, NextOf, AcceptOf, DeclineOf}

-- an answer for which the inner contract holds, as it was written
pub crosses : {A : Type 0} (encode : A → Wire) (Is : A → Type 0) (a : A) (w : Wire) → Is a → w ≡ encode a → Crosses encode Is w
crosses encode Is a w i q = record { answer = a; is = i; crossed = q }

-- a tag
pub tag-crosses : (starts letters : List ℕ) (t : TagRange) (k : ℕ) (m : List ℕ) (g : Result (Span × ℕ) Refusal) (y : Kind) (before w : Wire) → read_by (part_in m) g ≡ listed_text starts t.first t.count k m → y ≡ kind_at (kinds_by letters t) k → w ≡ tag_wire before (record { text = g; kind = y }) → Crosses (tag_wire before) (TagIs starts letters t k m) w
tag-crosses starts letters t k m g y before w p q s = crosses (tag_wire before) (TagIs starts letters t k m) (record { text = g; kind = y }) w (record { text = p; kind = q }) s

-- an answer by what was handed in (where the intervals stand, a layout), as the words say it
pub crosses-by : {P A : Type 0} (encode : A → Wire) (Of : P → A → Type 0) (p p' : P) (x : A) (w : Wire) → p ≡ p' → Of p x → w ≡ encode x → Crosses encode (Of p') w
crosses-by encode Of p p' x w e i q = crosses encode (Of p') x w (subst (λ u. Of u x) e i) q

-- a stream's calls, on the stream that the words say
pub next-crosses : (m letters : List ℕ) (s s' : Stream) (l l' : TileLayout) (a : NextStep) (before w : Wire) → s ≡ s' → l ≡ l' → NextOf m letters l s a → w ≡ next_wire before a → Crosses (next_wire before) (NextOf m letters l' s') w
next-crosses m letters s s' l l' a before w e h i q = crosses (next_wire before) (NextOf m letters l' s') a w (subst (λ x. NextOf m letters l' x a) e (subst (λ x. NextOf m letters x s a) h i)) q

-- of a try: what was given, on the stream that the words say, and that nothing changed where nothing was
pub given-crosses : (m letters : List ℕ) (s s' : Stream) (l l' : TileLayout) (before w : Wire) (L : Type 0) (t : Bool) → s ≡ s' → l ≡ l' → QuickOf t (Crosses (next_wire before) (NextOf m letters l s) w) L → t ≡ true → Crosses (next_wire before) (NextOf m letters l' s') w
given-crosses m letters s s' l l' before w L t e h i k =
    subst (λ x. Crosses (next_wire before) (NextOf m letters l' x) w) e (subst (λ x. Crosses (next_wire before) (NextOf m letters x s) w) h (subst (λ b. QuickOf b (Crosses (next_wire before) (NextOf m letters l s) w) L) k i))

pub left_alone : (G L : Type 0) (t : Bool) → QuickOf t G L → t ≡ false → L
left_alone G L t i k = subst (λ b. QuickOf b G L) k i

pub accept-crosses : (m : List ℕ) (s s' : Stream) (lent left : LentLists) (a : Accepted) (before w : Wire) → s ≡ s' → AcceptOf m s lent left a → w ≡ accept_wire before a → Crosses (accept_wire before) (AcceptOf m s' lent left) w
accept-crosses m s s' lent left a before w e i q = crosses (accept_wire before) (AcceptOf m s' lent left) a w (subst (λ x. AcceptOf m x lent left a) e i) q

pub decline-crosses : (s s' : Stream) (a : Declined) (before w : Wire) → s ≡ s' → DeclineOf s a → w ≡ decline_wire before a → Crosses (decline_wire before) (DeclineOf s') w
decline-crosses s s' a before w e i q = crosses (decline_wire before) (DeclineOf s') a w (subst (λ x. DeclineOf x a) e i) q

-- numbers that are passed at their width are passed as they are
pub passed-pair : (x y : ℤ) → SFits w32 x → SFits w32 y → ◌≡◌ {A = ℤ × ℤ} (to_z w32 (of_z w32 x), to_z w32 (of_z w32 y)) (x, y)
passed-pair x y f g = rw (to_z-of_z {w = w32} f, to_z-of_z {w = w32} g) refl

-- a window whose numbers are stored as they are
pub stored-window : (a b c d : ℤ) → SFits w64 a → SFits w64 b → SFits w64 c → SFits w64 d → window_in (to_z w64 (of_z w64 a)) (to_z w64 (of_z w64 b)) (to_z w64 (of_z w64 c)) (to_z w64 (of_z w64 d)) ≡ window_in a b c d
stored-window a b c d fa fb fc fd = rw (to_z-of_z {w = w64} fa, to_z-of_z {w = w64} fb, to_z-of_z {w = w64} fc, to_z-of_z {w = w64} fd) refl

-- a grid whose numbers are stored as they are
module _ (a b c d : ℤ) (fa : SFits w32 a) (fb : SFits w32 b) (fc : SFits w32 c) (fd : SFits w32 d) where
  stored-grid : grid_in (to_z w32 (of_z w32 a)) (to_z w32 (of_z w32 b)) (to_z w32 (of_z w32 c)) (to_z w32 (of_z w32 d)) ≡ grid_in a b c d
  stored-grid = rw (to_z-of_z {w = w32} fa, to_z-of_z {w = w32} fb, to_z-of_z {w = w32} fc, to_z-of_z {w = w32} fd) refl

  -- what was handed in (a layout, an interval) is what the inner function took
  module _ {P Q : Type 0} (p p' : P) (q q' : Q) (f : p ≡ p') (j : q ≡ q') where
    abbrev here : Grid
    here = grid_in (to_z w32 (of_z w32 a)) (to_z w32 (of_z w32 b)) (to_z w32 (of_z w32 c)) (to_z w32 (of_z w32 d))

    same-call : {A : Type 0} (Of : P → Q → Grid → A → Type 0) (x : A) → Of p q here x → Of p' q' (grid_in a b c d) x
    same-call Of x i = subst (λ g. Of p' q' g x) stored-grid (subst (λ u. Of u q' here x) f (subst (λ u. Of p u here x) j i))

    pub crosses-at : {A : Type 0} (encode : A → Wire) (Of : P → Q → Grid → A → Type 0) (x : A) (w : Wire) → Of p q here x → w ≡ encode x → Crosses encode (Of p' q' (grid_in a b c d)) w
    crosses-at encode Of x w i e = crosses encode (Of p' q' (grid_in a b c d)) x w (same-call Of x i) e
