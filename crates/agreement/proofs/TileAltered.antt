-- The second sentence of demand 3, of a tile: in a map of the same length that differs only in bytes of ways declined untried, and in no
-- point up to the zoom, the same list has the same answers and lent lists.
use mathlib.Core.Path.{◌≡◌, refl, ap, ◌∙◌}
use mathlib.Core.Logic.{◌≢◌}
use mathlib.Core.List.{List}
use Prim.Native.Nat.{ℕ, ◌+◌, ◌^◌, ◌≤◌, ◌<◌}
use native.Mathlib.Decide.{ℕ_discrete}
use native.Mathlib.Omega.{arith}
use lib.ListN.{length}
use Rattle.parsing.specs.Parse.{ok, Parser, end_of, none}
use Rattle.parsing.specs.Good.{Good, Agree}
use Rattle.arithmetic.specs.Cut.{cut}
use Rattle.format.specs.Tile.{TileHead}
use Rattle.agreement.specs.Calls.{Call, run}
use Rattle.agreement.specs.Format.{Format, Laws}
use Rattle.agreement.specs.Heads.{points_up_to}
use Rattle.agreement.specs.Stream.{idle, stream}
use Rattle.agreement.specs.Collected.{Way, StoredTile}
use Rattle.agreement.specs.Declined.{LiesIn, this, DifferOnly, declined_bytes}
use Rattle.agreement.specs.Demand3.{Collects, Agrees, stored_replies, fresh_of, point_bytes, Alterable, WaysBehind}
use Rattle.agreement.proofs.Chain.{bound}
use Rattle.agreement.proofs.Remaining.{Ways}
use Rattle.agreement.proofs.CutCounts.{below-cut}
use Rattle.agreement.proofs.Altered.{Points, single, near-points, Sound, s-idle, above, alike}
use Rattle.agreement.proofs.TileAgrees.{Supposed, supposed, points-counted, ways-counted, points-up-to, ways-up-to, replies}

pub decided : (a b : ℕ) → (a ≢ b → ⊥) → a ≡ b
decided a b h = go (ℕ_discrete a b)
  where
    go : Dec (a ≡ b) → a ≡ b
    go (yes p) = p
    go (no n) = absurd (h n)

-- the counts under other names
sound-by : (F : Format) (L : Laws F) (m m' : List ℕ) (long : length m ≡ length m') (z : F.End) {ps : List F.Point} {ws : List (Way F)} {a b i v : ℕ}
    → Points F L m m' long i ps → Ways F m v ws → length ps ≡ a → length ws ≡ b → Sound F L m m' long (idle a b i v z) none v v
sound-by F L m m' long z y x p q = rw (← p, ← q) (s-idle y x)

module _ {H : Parser TileHead} {F : Format} {m : List ℕ} {i : ℕ} {t : StoredTile F} (C : Supposed H F m i t) (z : TileHead → F.End) (rows : ℕ) (cs : List Call) where
  -- no declined byte lies before the place where the ways start
  pub declined-low : (j : ℕ) → LiesIn j (declined_bytes F cs (stored_replies F t z rows cs)) → cut (t.start + t.head.offset) ≤ j
  declined-low j h =
      above F C.laws m m refl cs _ _ _ _
      (sound-by F C.laws m m refl (z t.head) (near-points F C.laws m m refl (points-up-to C rows).chain (record { long = refl; same = λ i a b. refl })) (ways-up-to C rows) (points-counted C rows) (ways-counted C rows))
      j (rw (replies C rows z cs) h)

  -- where the first-way offset leads behind the points, a declined byte lies in no point
  in-no-point : WaysBehind F m t rows → (j : ℕ) → LiesIn j (declined_bytes F cs (stored_replies F t z rows cs)) → Alterable F m t rows cs (stored_replies F t z rows cs) j
  in-no-point b j k = record {
    declined = k;
    points = λ q.
        let l = (points-up-to C rows).last in
        let e : (point_bytes F m t (points_up_to t.head.table rows)).to ≡ l = ap end_of (points-up-to C rows).reads in
        let u = single refl e q in
        let v = bound C.laws.point-good (points-up-to C rows).chain in
        let f : l < 2 ^ 64 = omega (arith, C.small) in
        let w = below-cut (t.start + t.head.offset) l (omega (arith, b.behind)) f in
        omega (arith, declined-low j k);
  }

  module _ (g : Good H) (m' : List ℕ) (D : DifferOnly m m' (Alterable F m t rows cs (stored_replies F t z rows cs))) where
    head_near : H m' i ≡ ok t.head t.start
    head_near =
        g.near m m' i t.head t.start
        (record {
          long = D.long;
          same = λ j a b. decided _ _ (λ n.
              let u = declined-low j (D.only j n).declined in
              let e = g.bound m i t.head t.start C.read.head in
              let f : t.start < 2 ^ 64 = omega (arith, C.small) in
              let v = below-cut (t.start + t.head.offset) t.start (omega arith) f in
              omega arith);
        })
        C.read.head

    points_near : Agree m m' t.start (points-up-to C rows).last
    points_near = record {
      long = D.long;
      same = λ j a b. decided _ _ (λ n. (D.only j n).points (this a (rw (points-up-to C rows).reads b)));
    }

    replies-near : run (stream F m') (fresh_of F t z rows) cs ≡ stored_replies F t z rows cs
    replies-near =
        alike F C.laws m m' D.long cs _ _ _ _
        (sound-by F C.laws m m' D.long (z t.head)
        (near-points F C.laws m m' D.long (points-up-to C rows).chain points_near)
        (ways-up-to C rows) (points-counted C rows) (ways-counted C rows))
        (λ j l k. decided _ _ (λ e. k (rw (replies C rows z cs) (D.only j e).declined)))
        ∙ replies C rows z cs

module _ (H : Parser TileHead) (F : Format) (m : List ℕ) (i : ℕ) (t : StoredTile F) (g : Good H) (L : Laws F) (c : Collects H F m i t) (z : TileHead → F.End) (rows : ℕ) (cs : List Call) where
  pub tile-altered : (m' : List ℕ) → DifferOnly m m' (Alterable F m t rows cs (stored_replies F t z rows cs)) → Agrees H F m' i t z rows cs
  tile-altered m' D =
      let C = supposed H F m i t L c in
      record { opens = rw (head_near C z rows cs g m' D); replies = replies-near C z rows cs g m' D }

  pub declined-alterable : WaysBehind F m t rows → (j : ℕ) → LiesIn j (declined_bytes F cs (stored_replies F t z rows cs)) → Alterable F m t rows cs (stored_replies F t z rows cs) j
  declined-alterable b j k = in-no-point (supposed H F m i t L c) z rows cs b j k

  -- the sentence as literally written, where the first-way offset leads behind the points
  pub tile-literal : (m' : List ℕ) → WaysBehind F m t rows → DifferOnly m m' (λ j. LiesIn j (declined_bytes F cs (stored_replies F t z rows cs))) → Agrees H F m' i t z rows cs
  tile-literal m' b D = tile-altered m' (record { long = D.long; only = λ j e. declined-alterable b j (D.only j e) })
