-- Laws for code that collects a tile with counts and places cut at 2 ^ 64 - 1.
use mathlib.Core.Path.{◌≡◌, refl, sym, ap, ◌∙◌}
use mathlib.Core.List.{List, ◌∷◌}
use Prim.Native.Nat.{ℕ, zero, suc, ◌+◌, ◌^◌, ◌<◌}
use native.Mathlib.Omega.{arith}
use lib.ListN.{length}
use Rattle.parsing.specs.Parse.{Res, ok, no, Parser, and_then, many}
use Rattle.parsing.specs.Good.{bind-good, return-good, strict-left}
use Rattle.parsing.proofs.GoodLaws.{many-good}
use Rattle.arithmetic.specs.Cut.{cut}
use Rattle.arithmetic.proofs.CutLaws.{cut_fits}
use Rattle.format.specs.Rows.{points_of, ways_of}
use Rattle.format.specs.Tile.{TileHead}
use Rattle.agreement.specs.Format.{Format, Laws}
use Rattle.agreement.specs.Heads.{HeadCounts}
use Rattle.agreement.specs.Collected.{Way, way, StoredTile, collect, cut_place}
use Rattle.agreement.proofs.TileAgrees.{way-good, way-strict}
use Rattle.parsing.proofs.Ends.{PastEnd, bind-end, many-end}
use Rattle.arithmetic.proofs.CutLaws.{at_cut}
use Rattle.agreement.proofs.CutCounts.{below-cut, many-cut}

-- a tile whose own place was cut: it is the tile at any place where its head is read alike
pub collect-at : (H : Parser TileHead) (F : Format) (m : List ℕ) (i j : ℕ) → H m i ≡ H m j → collect H F m i ≡ collect H F m j
collect-at H F m i j h = ap (λ r. and_then r (λ h e.
    and_then (many F.point (points_of h.table) m e) (λ ps _.
    and_then (many (way F) (ways_of h.table) m (e + h.offset)) (λ ws y.
    ok (record { head = h; start = e; points = ps; ways = ws }) y)))) h

pub way_end : (F : Format) → PastEnd F.head → PastEnd (way F)
way_end F s = bind-end _ s

abbrev pub tile_of : {F : Format} → TileHead → ℕ → List F.Point → List (Way F) → StoredTile F
tile_of h e ps ws = record { head = h; start = e; points = ps; ways = ws }

module _ (H : Parser TileHead) (LH : HeadCounts H) (F : Format) (L : Laws F) (S : PastEnd F.head) (m : List ℕ) (small : length m < 2 ^ 64) where
  -- ways from a place that was cut, as many as a count that was cut
  fits-place : {A : Type 0} (v n : ℕ) (f : List (Way F) → A) (r : Res (List (Way F))) → many (way F) (suc n) m v ≡ r → cut_place (and_then r (λ ws y. ok (f ws) y)) ≡ and_then r (λ ws y. ok (f ws) y)
  fits-place v n f (ok ws y) h =
      let u = (strict-left (way-strict F L) (λ a. bind-good (many-good (way-good F L) n) (λ l. return-good (a ∷ l)))).more m v ws y h in
      let w = (many-good (way-good F L) (suc n)).bound m v ws y h in
      ap (ok (f ws)) (cut_fits y (omega arith))
  fits-place v n f (no k l) h = refl

  cut-ways : {A : Type 0} (n v : ℕ) (f : List (Way F) → A) → cut_place (and_then (many (way F) n m v) (λ ws y. ok (f ws) y)) ≡ and_then (many (way F) n m (cut v)) (λ ws y. ok (f ws) y)
  cut-ways zero v f = refl
  cut-ways (suc n) v f =
      fits-place v n f (many (way F) (suc n) m v) refl
      ∙ ap (λ r. and_then r (λ ws y. ok (f ws) y)) (sym (at_cut (many-end (suc n) (omega arith) (way_end F S)) m v small))

  cut-points : (h : TileHead) (e : ℕ) → (0 < ways_of h.table → 0 < e) → (r : Res (List F.Point))
      → cut_place (and_then r (λ ps _. and_then (many (way F) (ways_of h.table) m (e + h.offset)) (λ ws y. ok (tile_of {F = F} h e ps ws) y)))
      ≡ and_then r (λ ps _. and_then (many (way F) (cut (ways_of h.table)) m (cut (e + h.offset))) (λ ws y. ok (tile_of {F = F} h e ps ws) y))
  cut-points h e b (ok ps x) =
      cut-ways (ways_of h.table) (e + h.offset) (tile_of h e ps)
      ∙ ap (λ r. and_then r (λ ws y. ok (tile_of {F = F} h e ps ws) y))
      (sym (many-cut (way-good F L) (way-strict F L) m (ways_of h.table) (cut (e + h.offset)) small
      (λ k. let c = b k in below-cut (e + h.offset) 1 (omega arith) (omega arith))))
  cut-points h e b (no k l) = refl

  -- collecting with every sum cut at 2 ^ 64 - 1: the head, the points, then the ways
  pub collect-cut : (i : ℕ) → cut_place (collect H F m i) ≡ and_then (H m i) (λ h e.
      and_then (many F.point (cut (points_of h.table)) m e) (λ ps _.
      and_then (many (way F) (cut (ways_of h.table)) m (cut (e + h.offset))) (λ ws y.
      ok (tile_of {F = F} h e ps ws) y)))
  collect-cut i = go (H m i) refl
    where
      go : (r : Res TileHead) → H m i ≡ r
          → cut_place (and_then r (λ h e.
          and_then (many F.point (points_of h.table) m e) (λ ps _.
          and_then (many (way F) (ways_of h.table) m (e + h.offset)) (λ ws y.
          ok (tile_of {F = F} h e ps ws) y))))
          ≡ and_then r (λ h e.
          and_then (many F.point (cut (points_of h.table)) m e) (λ ps _.
          and_then (many (way F) (cut (ways_of h.table)) m (cut (e + h.offset))) (λ ws y.
          ok (tile_of {F = F} h e ps ws) y)))
      go (ok h e) q =
          rw (many-cut L.point-good L.point-strict m (points_of h.table) e small (λ k. let u = LH.passes m i h e q (omega arith) in omega arith))
          (cut-points h e (λ k. let u = LH.passes m i h e q (omega arith) in omega arith) (many F.point (points_of h.table) m e))
      go (no k l) q = refl
