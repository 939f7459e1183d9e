-- "In no point up to the zoom", as Demand3.antt has it of a byte that may be altered, and "in no point that these calls delivered": every
-- point that any list of calls delivers is one up to the zoom, and if a byte lies in a way declined untried, these are all delivered
-- (a way's head comes behind the last of them). So of such a byte both say the same.
use mathlib.Core.Path.{◌≡◌, refl, ap, ◌∙◌}
use mathlib.Core.Bool.{Bool, true, false}
use mathlib.Core.List.{List, [], ◌∷◌}
use Prim.Native.Nat.{ℕ, ◌+◌, ◌≤◌}
use native.Mathlib.Omega.{arith}
use lib.ListN.{length, take}
use lib.Seq.{length-take-le}
use Rattle.parsing.specs.Parse.{Parser, end_of, none}
use Rattle.parsing.specs.Good.{total}
use Rattle.format.specs.Lent.{Reply, fits}
use Rattle.format.specs.Tile.{TileHead}
use Rattle.agreement.specs.Calls.{Call, next, accept, decline, Answer, got_point, got_head, got_body, declined, ended, refused, Step, run}
use Rattle.agreement.specs.Format.{Format, Laws}
use Rattle.agreement.specs.Heads.{points_up_to, ways_up_to}
use Rattle.agreement.specs.Stream.{StreamAnswer}
use Rattle.agreement.specs.Collected.{Way, StoredTile}
use Rattle.agreement.specs.Declined.{LiesIn, this, declined_from, declined_bytes}
use Rattle.agreement.specs.Demand3.{Collects, stored_replies, point_bytes, Alterable}
use Rattle.agreement.proofs.Chain.{front}
use Rattle.agreement.proofs.Remaining.{lent_reply, Remaining, between, waiting, on_way, remaining}
use Rattle.agreement.proofs.BookLaws.{book-remaining}
use Rattle.agreement.proofs.TileAgrees.{Supposed, supposed, points-le, ways-le, points-up-to}
use Rattle.agreement.proofs.Altered.{nowhere, single}

-- how many points these replies delivered
abbrev pub is_point : {P H B E : Type 0} → Answer P H B E → ℕ
is_point (got_point p) = 1
is_point (got_head h) = 0
is_point (got_body b) = 0
is_point declined = 0
is_point (ended z) = 0
is_point (refused n v) = 0

abbrev pub points_delivered : {P H B E : Type 0} → List (Reply (Answer P H B E)) → ℕ
points_delivered rs = total (λ r. is_point r.answer) rs

module _ (F : Format) where
  abbrev points_left : Remaining F → ℕ
  points_left (between ps ws z) = length ps
  points_left (waiting w ws z) = 0

  -- a call delivers no more points than it takes from those that remain
  fewer : (s : Remaining F) (c : Call) → is_point (remaining F s c).reply.answer + points_left (remaining F s c).left ≤ points_left s
  fewer (between (p ∷ ps) ws z) next = omega arith
  fewer (between [] (w ∷ ws) z) next = omega arith
  fewer (between [] [] z) next = omega arith
  fewer (between ps ws z) (accept l) = omega arith
  fewer (between ps ws z) decline = omega arith
  fewer (waiting w ws z) next = omega arith
  fewer (waiting w ws z) (accept l) = either (fits (F.lists w.body) l)
    where
      lent : Bool → Step (StreamAnswer F) (Remaining F)
      lent c = let r = lent_reply w.body 0 (F.lists w.body) l c in on_way F w ws z r.lists r.answer

      either : (c : Bool) → is_point (lent c).reply.answer + points_left (lent c).left ≤ 0
      either true = omega arith
      either false = omega arith
  fewer (waiting w ws z) decline = omega arith

  delivered-le : (cs : List Call) (s : Remaining F) → points_delivered (run (remaining F) s cs) ≤ points_left s
  delivered-le [] s = omega arith
  delivered-le (c ∷ cs) s = omega (arith, fewer s c, delivered-le cs (remaining F s c).left)

  -- no way is declined before the last point
  all-delivered : (cs : List Call) (ps : List F.Point) (ws : List (Way F)) (z : F.End) (j : ℕ) → LiesIn j (declined_from F none cs (run (remaining F) (between ps ws z) cs))
      → points_delivered (run (remaining F) (between ps ws z) cs) ≡ length ps
  all-delivered [] ps ws z j h = nowhere h
  all-delivered (c ∷ cs) [] ws z j h = omega (arith, delivered-le (c ∷ cs) (between [] ws z))
  all-delivered (next ∷ cs) (p ∷ ps) ws z j h = omega (arith, all-delivered cs ps ws (F.note_point p z) j h)
  all-delivered (accept l ∷ cs) (p ∷ ps) ws z j h = omega (arith, all-delivered cs (p ∷ ps) ws z j h)
  all-delivered (decline ∷ cs) (p ∷ ps) ws z j h = omega (arith, all-delivered cs (p ∷ ps) ws z j h)

module _ {H : Parser TileHead} {F : Format} {m : List ℕ} {i : ℕ} {t : StoredTile F} (C : Supposed H F m i t) (z : TileHead → F.End) (rows : ℕ) (cs : List Call) where
  abbrev P : ℕ
  P = points_up_to t.head.table rows

  abbrev rs : List (Reply (StreamAnswer F))
  rs = stored_replies F t z rows cs

  -- the book's replies, by the points and ways that remain
  by-remaining : rs ≡ run (remaining F) (between (take P t.points) (take (ways_up_to t.head.table rows) t.ways) (z t.head)) cs
  by-remaining = book-remaining t z _ _ (points-le C rows) (ways-le C rows) cs

  counted : length (take P t.points) ≡ P
  counted = length-take-le _ t.points (points-le C rows)

  delivers-no-more : points_delivered rs ≤ P
  delivers-no-more = rw by-remaining (omega (arith, counted, delivered-le F cs (between (take P t.points) (take (ways_up_to t.head.table rows) t.ways) (z t.head))))

  delivers-all : (j : ℕ) → LiesIn j (declined_bytes F cs rs) → points_delivered rs ≡ P
  delivers-all j h =
      ap (λ l. points_delivered l) by-remaining
      ∙ all-delivered F cs (take P t.points) (take (ways_up_to t.head.table rows) t.ways) (z t.head) j (rw by-remaining at h)
      ∙ counted

  within : (j : ℕ) → LiesIn j (point_bytes F m t (points_delivered rs) ∷ []) → LiesIn j (point_bytes F m t P ∷ [])
  within j h =
      let f = front C.laws.point-good (points_delivered rs) (omega (arith, counted, delivers-no-more)) (points-up-to C rows).chain in
      let u = single refl (ap end_of f.reads) h in
      let b = f.within in
      this {b = point_bytes F m t P} u.0 (rw (points-up-to C rows).reads (omega arith))

module _ (H : Parser TileHead) (F : Format) (m : List ℕ) (i : ℕ) (t : StoredTile F) (L : Laws F) (c : Collects H F m i t) (z : TileHead → F.End) (rows : ℕ) (cs : List Call) (j : ℕ) where
  -- a byte of a point that the calls delivered lies in a point up to the zoom
  pub delivered-up-to : LiesIn j (point_bytes F m t (points_delivered (stored_replies F t z rows cs)) ∷ [])
      → LiesIn j (point_bytes F m t (points_up_to t.head.table rows) ∷ [])
  delivered-up-to h = within (supposed H F m i t L c) z rows cs j h

  -- if some byte lies in a way declined untried, all points up to the zoom were delivered
  pub declined-behind : LiesIn j (declined_bytes F cs (stored_replies F t z rows cs))
      → points_delivered (stored_replies F t z rows cs) ≡ points_up_to t.head.table rows
  declined-behind h = delivers-all (supposed H F m i t L c) z rows cs j h

  -- so a byte of such a way that lies in no point delivered may be altered
  pub undelivered-alterable : LiesIn j (declined_bytes F cs (stored_replies F t z rows cs))
      → (LiesIn j (point_bytes F m t (points_delivered (stored_replies F t z rows cs)) ∷ []) → ⊥) → Alterable F m t rows cs (stored_replies F t z rows cs) j
  undelivered-alterable h n = record { declined = h; points = λ q. n (rw (declined-behind h) q) }
