-- What a program sees that drives a stream by `selected_next` and accept alone, of a tile of any format, and that this is the stream under
-- that rule: what request 12 says of a stream and a rule (crate zooming) then holds of it.
use Rattle.std.specs.Prelude.{◌≡◌, Bool, List, [], ◌∷◌, ◌++◌, ℕ, ◌≤◌, length, take}
use Rattle.parsing.specs.Parse.{ok, Parser}
use Rattle.format.specs.Lent.{LentLists}
use Rattle.format.specs.Tile.{TileHead}
use Rattle.agreement.specs.Calls.{accept, got_point, got_head, got_body, ended, plain, lending}
use Rattle.agreement.specs.Format.{Format}
use Rattle.agreement.specs.Heads.{points_up_to}
use Rattle.agreement.specs.Stream.{StreamState, stream, open_stream}
use Rattle.zooming.specs.Zooming.{Delivered, Way, by_head, whole, EndsWell}
use Rattle.selection.specs.Selected.{selected_next}

-- The program calls `selected_next` until the end, and accepts every way that it gives, with the next of the lent lists. No call is refused.
-- `points` and `ways` are what it was given, `z` is what the end said.
pub data DrivenWell (F : Format) (m : List ℕ) (rule : F.Head → Bool) : StreamState F → (lent : List LentLists) → (points : List F.Point) → (ways : List (Way F)) → (z : F.End) → Type 0 where
  at-end : {s s' : StreamState F} {z : F.End} → selected_next F m rule s ≡ plain (ended z) s' → DrivenWell F m rule s [] [] [] z
  on-point : {s s' : StreamState F} {p : F.Point} {ls : List LentLists} {ps : List F.Point} {ws : List (Way F)} {z : F.End}
      → selected_next F m rule s ≡ plain (got_point p) s'
      → DrivenWell F m rule s' ls ps ws z → DrivenWell F m rule s ls (p ∷ ps) ws z
  on-way : {s s' s'' : StreamState F} {h : F.Head} {b : F.Body} {l l' : LentLists} {ls : List LentLists} {ws : List (Way F)} {z : F.End}
      → selected_next F m rule s ≡ plain (got_head h) s' → stream F m s' (accept l) ≡ lending (got_body b) l' s''
      → DrivenWell F m rule s'' ls [] ws z → DrivenWell F m rule s (l ∷ ls) [] (whole h l b l' ∷ ws) z

-- the ways that were accepted
abbrev pub accepted : {H B : Type 0} → List (Delivered H B) → List (Delivered H B)
accepted [] = []
accepted (by_head h ∷ ws) = accepted ws
accepted (whole h l b l' ∷ ws) = whole h l b l' ∷ accepted ws

-- a stream that ends well by the rule, of which the program was given all but the ways that were declined
pub record UnderRule (F : Format) (m : List ℕ) (rule : F.Head → Bool) (way : ℕ) (s : StreamState F) (lent : List LentLists) (points : List F.Point) (ways : List (Way F)) (z : F.End) : Type 0 where
  pub all : List (Way F)
  pub ends : EndsWell F m (λ _ h. rule h) way s lent points all z
  pub same : accepted all ≡ ways

-- Driven so, a stream gives what it gives under that rule, and the other way round.
pub record SelectedIsStream (F : Format) (m : List ℕ) (rule : F.Head → Bool) : Type 0 where
  pub driven : {k : ℕ} {s : StreamState F} {ls : List LentLists} {ps : List F.Point} {ws : List (Way F)} {z : F.End}
      → EndsWell F m (λ _ h. rule h) k s ls ps ws z → DrivenWell F m rule s ls ps (accepted ws) z
  pub under : {s : StreamState F} {ls : List LentLists} {ps : List F.Point} {ws : List (Way F)} {z : F.End}
      → DrivenWell F m rule s ls ps ws z → (k : ℕ) → UnderRule F m rule k s ls ps ws z

-- So zooming in only adds to a driven stream too (request 12): the stream of fewer rows opens, is driven well by the same rule with the first
-- of the same lists, and gives the first points, as many as its rows count, and the first of the selected ways. Its end says what y may grow
-- from.
pub record DrivenFewer (tile_head : Parser TileHead) (F : Format) (R : F.End → F.End → Type 0) (m : List ℕ) (rule : F.Head → Bool) (i : ℕ) (z : TileHead → F.End) (h : TileHead) (rows : ℕ) (lent : List LentLists) (points : List F.Point) (ways : List (Way F)) (y : F.End) : Type 0 where
  pub start : StreamState F
  pub behind : ℕ
  pub opens : open_stream tile_head rows z m i ≡ ok start behind
  pub first : List LentLists
  pub rest : List LentLists
  pub lists : lent ≡ first ++ rest
  pub given : List (Way F)
  pub later : List (Way F)
  pub selected : ways ≡ given ++ later
  pub said : F.End
  pub ends : DrivenWell F m rule start first (take (points_up_to h.table rows) points) given said
  pub grows : R said y
  pub point-count : length (take (points_up_to h.table rows) points) ≡ points_up_to h.table rows

pub record DrivenAdds (tile_head : Parser TileHead) (F : Format) (R : F.End → F.End → Type 0) (m : List ℕ) (rule : F.Head → Bool) (i : ℕ) (z : TileHead → F.End) (rows : ℕ) (lent : List LentLists) (points : List F.Point) (ways : List (Way F)) (y : F.End) : Type 0 where
  pub head : TileHead
  pub behind : ℕ
  pub read : tile_head m i ≡ ok head behind
  pub fewer : (rows' : ℕ) → rows' ≤ rows → DrivenFewer tile_head F R m rule i z head rows' lent points ways y
