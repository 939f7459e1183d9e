-- Request 1's lists for a stream that goes by a rule (requests 9 and 10, crate selection): where the decisions are the rule's own on the ways
-- that are delivered, lists of the lengths that are wanted by them never lead to 15 there. First of a tile of any format, then from the contracts
-- of `wanted` and `visit::open`.
use Rattle.std.specs.Prelude.{Result, Ok}
use Rattle.error.specs.declared.Refusal.{Refusal}
use Rattle.visit.specs.declared.Stream.{Stream}
use Rattle.std.specs.Prelude.{◌≡◌, Bool, true, List, [], ◌∷◌, ℕ, suc, length}
use Rattle.parsing.specs.Parse.{ok}
use Rattle.format.specs.Lent.{LentLists, fits}
use Rattle.agreement.specs.Format.{Format}
use Rattle.agreement.specs.Stream.{StreamState}
use Rattle.zooming.specs.Zooming.{Way}
use Rattle.tile_layout.specs.TileLayout.{TileKinds, format_of}
use Rattle.visit.specs.Visit.{TileState}
use Rattle.selection.specs.Driven.{DrivenWell, accepted}
use Rattle.selection.specs.Selects.{selected}
use Rattle.selection.specs.declared.Selection.{Selection}
use Rattle.wanted.specs.Taken.{accepts, Taken, Delivered, delivered, bodies}
use Rattle.wanted.specs.Wanted.{figures}
use Rattle.wanted.specs.WantedSays.{StreamedAs, Each, LongAs, OpenedWith}
use Rattle.wanted.specs.declared.WantedFigures.{WantedFigures}

-- the decisions on these ways, of which the first is way k, are the rule's
pub data DecidesAs (F : Format) (rule : F.Head → Bool) (ds : List ℕ) : (k : ℕ) → List (Taken F) → Type 0 where
  on_none : {k : ℕ} → DecidesAs F rule ds k []
  on-more : {k : ℕ} {w : Taken F} {ws : List (Taken F)} → accepts ds k ≡ rule w.head → DecidesAs F rule ds (suc k) ws → DecidesAs F rule ds k (w ∷ ws)

-- There are such decisions wherever the driven stream ends well, whatever lists it was lent (`rule-decides`): what the rule decided.
pub record Decided (F : Format) (m : List ℕ) (rule : F.Head → Bool) (s : StreamState F) : Type 0 where
  pub decisions : List ℕ
  pub what : Delivered F
  pub behind : ℕ
  pub is : delivered F decisions m s ≡ ok what behind
  pub decides : DecidesAs F rule decisions 0 what.ways

-- driven by the rule, with these lists, the stream ends well, and has given these points and, of these ways, the accepted ones
pub record Drives (F : Format) (m : List ℕ) (rule : F.Head → Bool) (s : StreamState F) (lent : List LentLists) (d : Delivered F) : Type 0 where
  pub ways : List (Way F)
  pub said : F.End
  pub driven : DrivenWell F m rule s lent d.points (accepted ways) said
  pub same : StreamedAs F d.ways lent ways

-- The theorem of any format: what is delivered under such decisions is what the driven stream gives, with lists that fit each body of it.
pub record DeliveredIsDriven (F : Format) (m : List ℕ) (rule : F.Head → Bool) (ds : List ℕ) (s : StreamState F) : Type 0 where
  pub drives : (d : Delivered F) (e : ℕ) → delivered F ds m s ≡ ok d e → DecidesAs F rule ds 0 d.ways → (lent : List LentLists) → length lent ≡ length (bodies d.ways)
      → Each (λ l. Each (λ b. fits (F.lists b) l ≡ true) (bodies d.ways)) lent → Drives F m rule s lent d

-- a stream whose figures are w, driven by window and rules: if the decisions are theirs, then with such lists it ends well
pub record DrivenWants (k : TileKinds) (m : List ℕ) (ds : List ℕ) (w : WantedFigures) (s : TileState) : Type 0 where
  pub what : Delivered (format_of k)
  pub behind : ℕ
  pub is : delivered (format_of k) ds m s ≡ ok what behind
  pub figured : w ≡ figures k what
  pub drives : (sel : Selection) (classes : List ℕ) → DecidesAs (format_of k) (selected sel classes) ds 0 what.ways → (lent : List LentLists) → length lent ≡ w.ways → Each (LongAs w) lent
      → Drives (format_of k) m (selected sel classes) s lent what

-- what an answer of `wanted` says of the stream that `visit::open` gives for the same tile and zoom
pub record WantedDriven (k : TileKinds) (m : List ℕ) (ds : List ℕ) (r : (Result WantedFigures Refusal)) (o : (Result Stream Refusal)) : Type 0 where
  pub value : (w : WantedFigures) → r ≡ Ok w → OpenedWith (DrivenWants k m ds w) o
