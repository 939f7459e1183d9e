-- The first sentence of demand 3, of a tile: the stream of a tile that collects, whose stored sizes are the decoded lengths, replies at
-- every zoom as document 01's book.
use mathlib.Core.Path.{◌≡◌, refl, sym, ap, ◌∙◌}
use mathlib.Core.Bool.{Bool, true, false, ◌&&◌}
use mathlib.Core.List.{List}
use Prim.Native.Nat.{ℕ, suc, zero, ◌+◌, ◌-◌, ◌^◌, ◌≤◌, ◌<◌}
use native.Mathlib.Omega.{arith}
use lib.Dec.{T, eqb→eq}
use lib.ListN.{length, take}
use lib.Seq.{length-take-le}
use Rattle.parsing.specs.Parse.{ok, Parser, and_then, bind, return, many, here}
use Rattle.parsing.specs.Good.{Good, Strict, split, ok-val, ok_at}
use Rattle.parsing.proofs.GoodLaws.{goods, stricts}
use Rattle.arithmetic.specs.Cut.{cut}
use Rattle.arithmetic.proofs.CutLaws.{cut_fits}
use Rattle.agreement.specs.Calls.{Call, run}
use Rattle.format.specs.Rows.{points_of, ways_of}
use Rattle.format.specs.Tile.{TileHead}
use Rattle.agreement.specs.Format.{Format, Laws, data_end}
use Rattle.agreement.specs.Heads.{points_up_to, ways_up_to}
use Rattle.agreement.specs.Stream.{idle, stream}
use Rattle.agreement.specs.Collected.{Way, way, exact, all_exact, StoredTile, collect}
use Rattle.agreement.specs.Demand3.{Collects, Agrees, stored_replies, fresh_of}
use Rattle.agreement.proofs.Chain.{Chain, stop, link, Many, many-chain, count-le, Front, front, total-take}
use Rattle.agreement.proofs.Remaining.{simulate, between, remaining, Body, Ways, nil, cons, Same, same-between, keeps}
use Rattle.agreement.proofs.BookLaws.{book-remaining}

test_of : (b : Bool) → b ≡ true → T b
test_of true e = tt
test_of false e = absurd (let z : ◌≡◌ {A = ℕ} 0 1 = cc in omega arith)

and_left : (a b : Bool) → T (a && b) → T a
and_left true b t = tt
and_left false b t = t

and_right : (a b : Bool) → T (a && b) → T b
and_right true b t = t
and_right false b t = absurd t

-- a way that was read: its head and its body
record Read (F : Format) (m : List ℕ) (i : ℕ) (w : Way F) (x : ℕ) : Type 0 where
  behind : ℕ
  head : F.head m i ≡ ok w.head behind
  body : F.body m behind ≡ ok w.body w.end
  end : w.end ≡ x

read_of : (F : Format) (m : List ℕ) (i : ℕ) (h : F.Head) (b : ℕ) (d : F.Body) (e : ℕ) (w : Way F) (x : ℕ)
    → F.head m i ≡ ok h b → F.body m b ≡ ok d e → ok (record { head = h; body = d; end = e }) e ≡ ok w x → Read F m i w x
read_of F m i h b d e w x p q r = rw (← (ok-val r), ← (ok_at r)) record { behind = b; head = p; body = q; end = refl }

read-way : (F : Format) (m : List ℕ) (i : ℕ) (w : Way F) (x : ℕ) → way F m i ≡ ok w x → Read F m i w x
read-way F m i w x h =
    let s = split (F.head m i) (λ g b. bind F.body (λ d. bind here (λ e. return (record { head = g; body = d; end = e }))) m b) w x h in
    let t = split (F.body m s.mid) (λ d e. ok (record { head = s.val; body = d; end = e }) e) w x s.second in
    read_of F m i s.val s.mid t.val t.mid w x s.first t.first t.second

module _ (F : Format) (L : Laws F) where
  pub way-good : Good (way F)
  way-good = let h = L.head-good in let b = L.body-good in search goods

  pub way-strict : Strict (way F)
  way-strict = let h = L.head-strict in let b = L.body-good in search stricts

  -- a way whose stored size is its decoded length ends where declining goes
  body_of : (m : List ℕ) (i : ℕ) (w : Way F) (x : ℕ) → (r : Read F m i w x) → x < 2 ^ 64 → T (exact w) → Body F m r.behind w × (x ≡ data_end F w.head)
  body_of m i w x r f t =
      let s = eqb→eq (F.size w.head) (w.end - F.start w.head) t in
      let a = L.head_post.holds m i w.head r.behind r.head in
      let b = L.body-good.forth m r.behind w.body w.end r.body in
      let e : w.end ≡ data_end F w.head = omega (arith, a.0) in
      let c : cut (data_end F w.head) ≡ data_end F w.head = cut_fits (data_end F w.head) (omega (arith, r.end)) in
      (record { reads = r.body ∙ ap (ok w.body) (e ∙ sym c); uncut = c }, sym r.end ∙ e)

  -- a way that is there was read, so its place was not cut
  pub ways-of : (m : List ℕ) → length m < 2 ^ 64 → {i e : ℕ} {ws : List (Way F)} → Chain (way F) m i ws e → T (all_exact ws) → Ways F m (cut i) ws
  ways-of m f stop t = nil
  ways-of m f (link {i = i} {x = x} {a = w} {l = ws} h c) t =
      let u = way-strict.more m i w x h in
      let v = way-good.bound m i w x h in
      let r = read-way F m i w x h in
      let g = body_of m i w x r (omega arith) (and_left (exact w) (all_exact ws) t) in
      let y = ways-of m f c (and_right (exact w) (all_exact ws) t) in
      rw (cut_fits i (omega arith)) (cons r.head g.0 (rw g.1 at y))

pub ways-first : {F : Format} {m : List ℕ} {i : ℕ} {ws : List (Way F)} (k : ℕ) → Ways F m i ws → Ways F m i (take k ws)
ways-first zero x = nil
ways-first (suc k) nil = nil
ways-first {F = F} (suc k) (cons {w = w} h b x) = cons h b (ways-first {i = cut (data_end F w.head)} k x)

-- the counts under other names
same_by : (F : Format) (m : List ℕ) (z : F.End) {ps : List F.Point} {ws : List (Way F)} {i v e n k : ℕ} → Chain F.point m i ps e → Ways F m v ws
    → length ps ≡ n → length ws ≡ k → Same F m (idle n k i v z) (between ps ws z)
same_by F m z c x p q = rw (← p, ← q) (same-between _ _ _ _ _ z c x)

-- what collecting read
pub record Collected (tile_head : Parser TileHead) (F : Format) (m : List ℕ) (i : ℕ) (t : StoredTile F) : Type 0 where
  pub head : tile_head m i ≡ ok t.head t.start
  pub last : ℕ
  pub points : Many F.point m (points_of t.head.table) t.start t.points last
  pub past : ℕ
  pub ways : Many (way F) m (ways_of t.head.table) (t.start + t.head.offset) t.ways past

module _ (tile_head : Parser TileHead) (F : Format) (m : List ℕ) (i : ℕ) (t : StoredTile F) (z : ℕ) where
  collected-of : (h : TileHead) (e : ℕ) (ps : List F.Point) (x : ℕ) (ws : List (Way F)) (y : ℕ) → tile_head m i ≡ ok h e
      → many F.point (points_of h.table) m e ≡ ok ps x → many (way F) (ways_of h.table) m (e + h.offset) ≡ ok ws y
      → ok (record { head = h; start = e; points = ps; ways = ws }) y ≡ ok t z → Collected tile_head F m i t
  collected-of h e ps x ws y p q r d =
      rw (← (ok-val d)) record {
        head = p;
        last = x;
        points = many-chain F.point m _ e ps x q;
        past = y;
        ways = many-chain (way F) m _ _ ws y r;
      }

  pub collected : collect tile_head F m i ≡ ok t z → Collected tile_head F m i t
  collected c =
      let a = split (tile_head m i) (λ g x.
      and_then (many F.point (points_of g.table) m x) (λ ps _.
      and_then (many (way F) (ways_of g.table) m (x + g.offset)) (λ ws y.
      ok (record { head = g; start = x; points = ps; ways = ws }) y))) t z c in
      let b = split (many F.point (points_of a.val.table) m a.mid) (λ ps _.
      and_then (many (way F) (ways_of a.val.table) m (a.mid + a.val.offset)) (λ ws y.
      ok (record { head = a.val; start = a.mid; points = ps; ways = ws }) y)) t z a.second in
      let d = split (many (way F) (ways_of a.val.table) m (a.mid + a.val.offset)) (λ ws y.
      ok (record { head = a.val; start = a.mid; points = b.val; ways = ws }) y) t z b.second in
      collected-of a.val a.mid b.val b.mid d.val d.mid a.first b.first d.first d.second

-- what demand 3 supposes, taken apart
pub record Supposed (tile_head : Parser TileHead) (F : Format) (m : List ℕ) (i : ℕ) (t : StoredTile F) : Type 0 where
  pub laws : Laws F
  pub small : length m < 2 ^ 64
  pub sizes : T (all_exact t.ways)
  pub read : Collected tile_head F m i t

pub supposed : (H : Parser TileHead) (F : Format) (m : List ℕ) (i : ℕ) (t : StoredTile F) → Laws F → Collects H F m i t → Supposed H F m i t
supposed H F m i t L c = record {
  laws = L;
  small = c.small;
  sizes = test_of (all_exact t.ways) c.sizes;
  read = collected H F m i t c.past c.collects;
}

module _ {H : Parser TileHead} {F : Format} {m : List ℕ} {i : ℕ} {t : StoredTile F} (C : Supposed H F m i t) (rows : ℕ) where
  pub points-le : points_up_to t.head.table rows ≤ length t.points
  points-le = omega (arith, total-take (λ r. r.points) rows t.head.table, C.read.points.count)

  pub ways-le : ways_up_to t.head.table rows ≤ length t.ways
  ways-le = omega (arith, total-take (λ r. r.ways) rows t.head.table, C.read.ways.count)

  -- no count of a tile that collects is cut
  pub points-counted : length (take (points_up_to t.head.table rows) t.points) ≡ cut (points_up_to t.head.table rows)
  points-counted =
      let n = count-le C.laws.point-good C.laws.point-strict C.read.points.chain in
      length-take-le _ t.points points-le ∙ sym (cut_fits _ (omega (arith, points-le, C.small)))

  pub ways-counted : length (take (ways_up_to t.head.table rows) t.ways) ≡ cut (ways_up_to t.head.table rows)
  ways-counted =
      let n = count-le (way-good F C.laws) (way-strict F C.laws) C.read.ways.chain in
      length-take-le _ t.ways ways-le ∙ sym (cut_fits _ (omega (arith, ways-le, C.small)))

  -- what a stream of these rows is to deliver
  pub points-up-to : Front F.point m (points_up_to t.head.table rows) t.start t.points C.read.last
  points-up-to = front C.laws.point-good _ points-le C.read.points.chain

  pub ways-up-to : Ways F m (cut (t.start + t.head.offset)) (take (ways_up_to t.head.table rows) t.ways)
  ways-up-to = ways-first (ways_up_to t.head.table rows) (ways-of F C.laws m C.small C.read.ways.chain C.sizes)

  pub replies : (z : TileHead → F.End) (cs : List Call) → run (stream F m) (fresh_of F t z rows) cs ≡ stored_replies F t z rows cs
  replies z cs =
      simulate (stream F m) (remaining F) (Same F m) (keeps F m) _ _ (same_by F m (z t.head) points-up-to.chain ways-up-to points-counted ways-counted) cs
      ∙ sym (book-remaining t z _ _ points-le ways-le cs)

pub tile-agrees : (H : Parser TileHead) (F : Format) (m : List ℕ) (i : ℕ) (t : StoredTile F) → Laws F → Collects H F m i t
    → (z : TileHead → F.End) (rows : ℕ) (cs : List Call) → Agrees H F m i t z rows cs
tile-agrees H F m i t L c z rows cs =
    let C = supposed H F m i t L c in
    record { opens = rw C.read.head; replies = replies C rows z cs }
