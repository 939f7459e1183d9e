-- Zooming in only adds, of a tile of any format. A stream that ends well passes a chain of points and a chain of ways; the stream of fewer
-- rows starts at the same two places and passes the fronts of both chains.
use mathlib.Core.Path.{◌≡◌, refl, sym, ap, ◌∙◌, subst}
use mathlib.Core.Bool.{Bool, true, false, cond}
use mathlib.Core.List.{List, [], ◌∷◌, ◌++◌}
use Prim.Native.Nat.{ℕ, zero, suc, ◌+◌, ◌-◌, ◌^◌, ◌≤◌, ◌<◌, zero-le}
use native.Mathlib.Nat.{le_refl, le_of_suc-le-suc, not-suc-le-zero}
use native.Mathlib.Omega.{arith}
use borrow.Author.Tests.{ltb-true, ltb-false}
use lib.Dec.{ltb}
use lib.ListN.{length, take}
use lib.Seq.{length-take-le}
use Rattle.parsing.specs.Parse.{Res, ok, no, Parser}
use Rattle.parsing.specs.Good.{split, ok-val, total}
use Rattle.arithmetic.specs.Cut.{cut}
use Rattle.arithmetic.proofs.CutLaws.{cut_fits, cut-over}
use Rattle.format.specs.Lent.{LentLists, fits, written, deliver}
use Rattle.format.specs.Tile.{TileHead}
use Rattle.agreement.specs.Calls.{Call, next, accept, decline, Answer, got_point, got_head, got_body, declined, ended, refused, Step, plain, lending}
use Rattle.agreement.specs.Format.{Format, Laws, data_end}
use Rattle.agreement.specs.Heads.{HeadCounts, points_up_to, ways_up_to}
use Rattle.agreement.specs.Stream.{StreamAnswer, StreamState, idle, waits, stream, on_point, on_head, on_body, fresh_stream, open_stream}
use Rattle.agreement.proofs.Chain.{Chain, stop, link, front, bound, total-take}
use Rattle.agreement.proofs.Remaining.{lent_reply}
use Rattle.zooming.specs.Zooming.{Way, by_head, whole, EndsWell, at-end, on-point, on-declined, on-accepted, Advances, Grows, Fewer, OnlyAdds}

-- two answers of other kinds, told apart by a number
abbrev kind : {P H B E : Type 0} → Answer P H B E → ℕ
kind (got_point p) = 0
kind (got_head h) = 1
kind (got_body b) = 2
kind declined = 3
kind (ended z) = 4
kind (refused n v) = 5

module _ (F : Format) (m : List ℕ) (rule : ℕ → F.Head → Bool) where
  -- ways that a stream passed, from place v on
  data Passes : (k v : ℕ) → List LentLists → List (Way F) → Type 0 where
    done : {k v : ℕ} → Passes k v [] []
    past : {k v b : ℕ} {h : F.Head} {ls : List LentLists} {ws : List (Way F)} → F.head m v ≡ ok h b → rule k h ≡ false
        → Passes (suc k) (cut (data_end F h)) ls ws → Passes k v ls (by_head h ∷ ws)
    through : {k v b e : ℕ} {h : F.Head} {d : F.Body} {l : LentLists} {ls : List LentLists} {ws : List (Way F)} → F.head m v ≡ ok h b → rule k h ≡ true
        → F.body m b ≡ ok d e → fits (F.lists d) l ≡ true → Passes (suc k) e ls ws → Passes k v (l ∷ ls) (whole h l (F.whole (F.kept h) d) (written (F.lists d) l) ∷ ws)

  -- what the end says after these deliveries
  abbrev end_points : List F.Point → F.End → F.End
  end_points [] z = z
  end_points (p ∷ ps) z = end_points ps (F.note_point p z)

  abbrev end_ways : List (Way F) → F.End → F.End
  end_ways [] z = z
  end_ways (by_head h ∷ ws) z = end_ways ws (F.note_head h z)
  end_ways (whole h l b l' ∷ ws) z = end_ways ws (F.note_body b (F.note_head h z))

  answer-is : {x y : Step (StreamAnswer F) (StreamState F)} → x ≡ y → x.reply.answer ≡ y.reply.answer
  answer-is h = ap (λ (t : Step (StreamAnswer F) (StreamState F)). t.reply.answer) h

  left_is : {x y : Step (StreamAnswer F) (StreamState F)} → x ≡ y → x.left ≡ y.left
  left_is h = ap (λ (t : Step (StreamAnswer F) (StreamState F)). t.left) h

  other : {C : Type 0} {x y : Step (StreamAnswer F) (StreamState F)} → x ≡ y → (kind x.reply.answer ≡ kind y.reply.answer → ⊥) → C
  other h f = absurd (f (ap (λ (t : Step (StreamAnswer F) (StreamState F)). kind t.reply.answer) h))

  -- one call, by its answer
  record PointStep (n w i v : ℕ) (z : F.End) (p : F.Point) (s : StreamState F) : Type 0 where
    place : ℕ
    reads : F.point m i ≡ ok p place
    left : s ≡ idle n w place v (F.note_point p z)

  point-step : (n w i v : ℕ) (z : F.End) (p : F.Point) (s : StreamState F) (r : Res F.Point) → F.point m i ≡ r
      → on_point F n w i v z r ≡ plain (got_point p) s → PointStep n w i v z p s
  point-step n w i v z p s (ok q e) f h =
      let a = answer-is h in
      let c : q ≡ p = cc in
      record { place = e; reads = f ∙ ap (λ x. ok x e) c; left = sym (left_is h) ∙ ap (λ x. idle n w e v (F.note_point x z)) c }
  point-step n w i v z p s (no k x) f h = other h (λ e. omega arith)

  record HeadStep (w i v : ℕ) (z : F.End) (g : F.Head) (s : StreamState F) : Type 0 where
    place : ℕ
    reads : F.head m v ≡ ok g place
    left : s ≡ waits w (cut (data_end F g)) place (F.kept g) (F.note_head g z)

  head_step : (w i v : ℕ) (z : F.End) (g : F.Head) (s : StreamState F) (r : Res F.Head) → F.head m v ≡ r
      → on_head F w i v z r ≡ plain (got_head g) s → HeadStep w i v z g s
  head_step w i v z g s (ok q e) f h =
      let a = answer-is h in
      let c : q ≡ g = cc in
      record { place = e; reads = f ∙ ap (λ x. ok x e) c; left = sym (left_is h) ∙ ap (λ x. waits w (cut (data_end F x)) e (F.kept x) (F.note_head x z)) c }
  head_step w i v z g s (no k x) f h = other h (λ e. omega arith)

  record BodyStep (w x b : ℕ) (k : F.Kept) (z : F.End) (l : LentLists) (d : F.Body) (l' : LentLists) (s : StreamState F) : Type 0 where
    place : ℕ
    stored : F.Body
    reads : F.body m b ≡ ok stored place
    says : d ≡ F.whole k stored
    fit : fits (F.lists stored) l ≡ true
    wrote : l' ≡ written (F.lists stored) l
    left : s ≡ idle 0 w place place (F.note_body d z)

  body-fits : (w x b e : ℕ) (k : F.Kept) (z : F.End) (l : LentLists) (q d : F.Body) (l' : LentLists) (s : StreamState F) (c : Bool) → fits (F.lists q) l ≡ c
      → F.body m b ≡ ok q e
      → (let r = lent_reply q e (F.lists q) l c in on_body F.whole F.note_body w x b k z r.lists r.answer) ≡ lending {A = StreamAnswer F} (got_body d) l' s → BodyStep w x b k z l d l' s
  body-fits w x b e k z l q d l' s true g f h =
      let a = answer-is h in
      let c : F.whole k q ≡ d = cc in
      record {
        place = e;
        stored = q;
        reads = f;
        says = sym c;
        fit = g;
        wrote = sym (ap (λ (t : Step (StreamAnswer F) (StreamState F)). t.reply.lists) h);
        left = sym (left_is h) ∙ ap (λ y. idle 0 w e e (F.note_body y z)) c;
      }
  body-fits w x b e k z l q d l' s false g f h = other h (λ e. omega arith)

  body-step : (w x b : ℕ) (k : F.Kept) (z : F.End) (l : LentLists) (d : F.Body) (l' : LentLists) (s : StreamState F) (r : Res F.Body) → F.body m b ≡ r
      → (let a = deliver (λ y. y) F.lists r l in on_body F.whole F.note_body w x b k z a.lists a.answer) ≡ lending {A = StreamAnswer F} (got_body d) l' s → BodyStep w x b k z l d l' s
  body-step w x b k z l d l' s (ok q e) f h = body-fits w x b e k z l q d l' s (fits (F.lists q) l) refl f h
  body-step w x b k z l d l' s (no n y) f h = other h (λ e. omega arith)

  -- what a stream that ends well passed
  record Passed (k n w i v : ℕ) (ls : List LentLists) (ps : List F.Point) (ws : List (Way F)) : Type 0 where
    last : ℕ
    points : Chain F.point m i ps last
    point-count : length ps ≡ n
    ways : Passes k v ls ws
    way-count : length ws ≡ w

  not-point : {C : Type 0} (k n w i v : ℕ) (z : F.End) (r : Res F.Point) → kind (on_point F n w i v z r).reply.answer ≡ k → (k ≡ 0 → ⊥) → (k ≡ 5 → ⊥) → C
  not-point k n w i v z (ok p e) h a b = absurd (a (sym h))
  not-point k n w i v z (no q e) h a b = absurd (b (sym h))

  not-head : {C : Type 0} (k w i v : ℕ) (z : F.End) (r : Res F.Head) → kind (on_head F w i v z r).reply.answer ≡ k → (k ≡ 1 → ⊥) → (k ≡ 5 → ⊥) → C
  not-head k w i v z (ok p e) h a b = absurd (a (sym h))
  not-head k w i v z (no q e) h a b = absurd (b (sym h))

  kind-is : {x y : Step (StreamAnswer F) (StreamState F)} → x ≡ y → kind x.reply.answer ≡ kind y.reply.answer
  kind-is h = ap (λ (t : Step (StreamAnswer F) (StreamState F)). kind t.reply.answer) h

  at : {s s' : StreamState F} {x : Step (StreamAnswer F) (StreamState F)} (c : Call) → s ≡ s' → stream F m s c ≡ x → stream F m s' c ≡ x
  at c e h = ap (λ s. stream F m s c) (sym e) ∙ h

  declined-too : (k w i v : ℕ) (z : F.End) (g : F.Head) (b : ℕ) {ls : List LentLists} {ws : List (Way F)} {y : F.End}
      → F.head m v ≡ ok g b → rule k g ≡ false → (Passed (suc k) 0 w (cut (data_end F g)) (cut (data_end F g)) ls [] ws) × (y ≡ end_ways ws (F.note_head g z))
      → (Passed k 0 (suc w) i v ls [] (by_head g ∷ ws)) × (y ≡ end_ways (by_head g ∷ ws) z)
  declined-too k w i v z g b r c t =
      let q = t.0 in
      (record { last = i; points = stop; point-count = refl; ways = past r c q.ways; way-count = ap suc q.way-count }, t.1)

  accepted-too : (k w i v : ℕ) (z : F.End) (g : F.Head) (b d : F.Body) (l l' : LentLists) (x : ℕ) {ls : List LentLists} {ws : List (Way F)} {y : F.End}
      → F.head m v ≡ ok g x → rule k g ≡ true → (e : ℕ) → F.body m x ≡ ok d e → b ≡ F.whole (F.kept g) d → fits (F.lists d) l ≡ true → l' ≡ written (F.lists d) l
      → (Passed (suc k) 0 w e e ls [] ws) × (y ≡ end_ways ws (F.note_body b (F.note_head g z)))
      → (Passed k 0 (suc w) i v (l ∷ ls) [] (whole g l b l' ∷ ws)) × (y ≡ end_ways (whole g l b l' ∷ ws) z)
  accepted-too k w i v z g b d l l' x r c e f o t y p =
      let q = p.0 in
      (record { last = i; points = stop; point-count = refl; ways = rw (y, o) (through r c f t q.ways); way-count = ap suc q.way-count }, p.1)

  passed : {k : ℕ} {s : StreamState F} {ls : List LentLists} {ps : List F.Point} {ws : List (Way F)} {y : F.End} → EndsWell F m rule k s ls ps ws y
      → (n w i v : ℕ) (z : F.End) → s ≡ idle n w i v z → (Passed k n w i v ls ps ws) × (y ≡ end_ways ws (end_points ps z))
  passed (at-end h) zero zero i v z e =
      let a = answer-is (at next e h) in
      (record { last = i; points = stop; point-count = refl; ways = done; way-count = refl }, cc)
  passed (at-end h) (suc n) w i v z e = not-point 4 n w i v z (F.point m i) (kind-is (at next e h)) (λ k. omega arith) (λ k. omega arith)
  passed (at-end h) zero (suc w) i v z e = not-head 4 w i v z (F.head m v) (kind-is (at next e h)) (λ k. omega arith) (λ k. omega arith)
  passed (on-point h r) zero zero i v z e = other (at next e h) (λ k. omega arith)
  passed (on-point h r) zero (suc w) i v z e = not-head 0 w i v z (F.head m v) (kind-is (at next e h)) (λ k. omega arith) (λ k. omega arith)
  passed (on-point {s' = s'} {p = p} h r) (suc n) w i v z e =
      let a = point-step n w i v z p s' (F.point m i) refl (at next e h) in
      let t = passed r n w a.place v (F.note_point p z) a.left in
      let q = t.0 in
      (record { last = q.last; points = link a.reads q.points; point-count = ap suc q.point-count; ways = q.ways; way-count = q.way-count }, t.1)
  passed (on-declined h c d r) (suc n) w i v z e = not-point 1 n w i v z (F.point m i) (kind-is (at next e h)) (λ k. omega arith) (λ k. omega arith)
  passed (on-declined h c d r) zero zero i v z e = other (at next e h) (λ k. omega arith)
  passed (on-declined {k = k} {s' = s'} {s'' = s''} {h = g} {ws = ws} h c d r) zero (suc w) i v z e =
      let a = head_step w i v z g s' (F.head m v) refl (at next e h) in
      let f : idle 0 w (cut (data_end F g)) (cut (data_end F g)) (F.note_head g z) ≡ s'' = left_is (at decline a.left d) in
      let t = passed r 0 w (cut (data_end F g)) (cut (data_end F g)) (F.note_head g z) (sym f) in
      declined-too k w i v z g a.place a.reads c t
  passed (on-accepted h c d r) (suc n) w i v z e = not-point 1 n w i v z (F.point m i) (kind-is (at next e h)) (λ k. omega arith) (λ k. omega arith)
  passed (on-accepted h c d r) zero zero i v z e = other (at next e h) (λ k. omega arith)
  passed (on-accepted {k = k} {s' = s'} {s'' = s''} {h = g} {b = b} {l = l} {l' = l'} h c d r) zero (suc w) i v z e =
      let a = head_step w i v z g s' (F.head m v) refl (at next e h) in
      let f = body-step w (cut (data_end F g)) a.place (F.kept g) (F.note_head g z) l b l' s'' (F.body m a.place) refl (at (accept l) a.left d) in
      let t = passed r 0 w f.place f.place (F.note_body b (F.note_head g z)) f.left in
      accepted-too k w i v z g b f.stored l l' a.place a.reads c f.place f.reads f.says f.fit f.wrote t

  -- and back: a stream that passes these ends well
  through-ways : {k v : ℕ} {ls : List LentLists} {ws : List (Way F)} → Passes k v ls ws → (i : ℕ) (z : F.End) → EndsWell F m rule k (idle 0 (length ws) i v z) ls [] ws (end_ways ws z)
  through-ways done i z = at-end {s' = idle 0 0 i _ z} refl
  through-ways (past {v = v} {b = x} {h = g} {ws = ws} h c r) i z =
      let s : StreamState F = waits (length ws) (cut (data_end F g)) x (F.kept g) (F.note_head g z) in
      let a : stream F m (idle 0 (suc (length ws)) i v z) next ≡ plain (got_head g) s = rw h in
      on-declined a c refl (through-ways r (cut (data_end F g)) (F.note_head g z))
  through-ways (through {v = v} {b = x} {e = e} {h = g} {d = d} {l = l} {ws = ws} h c b f r) i z =
      let s : StreamState F = waits (length ws) (cut (data_end F g)) x (F.kept g) (F.note_head g z) in
      let o = F.whole (F.kept g) d in
      let a : stream F m (idle 0 (suc (length ws)) i v z) next ≡ plain (got_head g) s = rw h in
      let k : stream F m s (accept l) ≡ lending (got_body o) (written (F.lists d) l) (idle 0 (length ws) e e (F.note_body o (F.note_head g z))) = rw (b, f) in
      on-accepted a c k (through-ways r e (F.note_body o (F.note_head g z)))

  through-all : {k i e v : ℕ} {ls : List LentLists} {ps : List F.Point} {ws : List (Way F)} → Chain F.point m i ps e → Passes k v ls ws → (z : F.End)
      → EndsWell F m rule k (idle (length ps) (length ws) i v z) ls ps ws (end_ways ws (end_points ps z))
  through-all stop r z = through-ways r _ z
  through-all {v = v} {ws = ws} (link {i = i} {x = x} {a = p} {l = ps} h c) r z =
      let a : stream F m (idle (suc (length ps)) (length ws) i v z) next ≡ plain (got_point p) (idle (length ps) (length ws) x v (F.note_point p z)) = rw h in
      on-point a (through-all c r (F.note_point p z))

  -- the counts under other names
  through-by : {j n k i e v : ℕ} {ls : List LentLists} {ps : List F.Point} {ws : List (Way F)} {z : F.End} → Chain F.point m i ps e → Passes j v ls ws
      → length ps ≡ n → length ws ≡ k → EndsWell F m rule j (idle n k i v z) ls ps ws (end_ways ws (end_points ps z))
  through-by {z = z} c r a b = rw (← a, ← b) (through-all c r z)

  -- fewer deliveries say what more may grow from
  module _ {R : F.End → F.End → Type 0} (G : Grows F R) where
    more-points : (ps : List F.Point) (z : F.End) → R z (end_points ps z)
    more-points [] z = G.same z
    more-points (p ∷ ps) z = G.after (G.point p z) (more-points ps (F.note_point p z))

    first-points : (n : ℕ) (ps : List F.Point) (z : F.End) → R (end_points (take n ps) z) (end_points ps z)
    first-points zero ps z = more-points ps z
    first-points (suc n) [] z = G.same z
    first-points (suc n) (p ∷ ps) z = first-points n ps (F.note_point p z)

    more-ways : (ws : List (Way F)) {y z : F.End} → R y z → R y (end_ways ws z)
    more-ways [] r = r
    more-ways (by_head h ∷ ws) r = more-ways ws (G.after r (G.head h _))
    more-ways (whole h l b l' ∷ ws) r = more-ways ws (G.after r (G.after (G.head h _) (G.body b _)))

    first_said : (n : ℕ) (ws : List (Way F)) {y z : F.End} → R y z → R (end_ways (take n ws) y) (end_ways ws z)
    first_said zero ws r = more-ways ws r
    first_said (suc n) [] r = r
    first_said (suc n) (by_head h ∷ ws) r = first_said n ws (G.on-head h r)
    first_said (suc n) (whole h l b l' ∷ ws) r = first_said n ws (G.on-body b (G.on-head h r))

  -- the first ways, with the lists that their accepts took
  record FirstWays (j k v : ℕ) (ls : List LentLists) (ws : List (Way F)) : Type 0 where
    kept : List LentLists
    rest : List LentLists
    lists : ls ≡ kept ++ rest
    ways : Passes j v kept (take k ws)

  first-ways : (k : ℕ) {j v : ℕ} {ls : List LentLists} {ws : List (Way F)} → Passes j v ls ws → FirstWays j k v ls ws
  first-ways zero {ls = ls} r = record { kept = []; rest = ls; lists = refl; ways = done }
  first-ways (suc k) done = record { kept = []; rest = []; lists = refl; ways = done }
  first-ways (suc k) (past h c r) = let f = first-ways k r in record { kept = f.kept; rest = f.rest; lists = f.lists; ways = past h c f.ways }
  first-ways (suc k) (through {l = l} h c b t r) =
      let f = first-ways k r in
      record { kept = l ∷ f.kept; rest = f.rest; lists = ap (λ x. l ∷ x) f.lists; ways = through h c b t f.ways }

  -- each way leads on, so there are no more than the map has bytes
  module _ (L : Laws F) (A : Advances F) (small : length m < 2 ^ 64) where
    behind-cut : (v x : ℕ) → v < x → v < length m → suc v ≤ cut x
    behind-cut v x h l = go (ltb x (2 ^ 64)) refl
      where
        go : (b : Bool) → ltb x (2 ^ 64) ≡ b → suc v ≤ cond b x (2 ^ 64 - 1)
        go true e = omega arith
        go false e = omega arith

    in_map : {v b : ℕ} {h : F.Head} → F.head m v ≡ ok h b → v < length m
    in_map {v} {b} {h} r = let s = L.head-strict.more m v h b r in let u = L.head-good.bound m v h b r in omega arith

    few-ways : {k v : ℕ} {ls : List LentLists} {ws : List (Way F)} → Passes k v ls ws → 0 < length ws → v + length ws ≤ length m
    few-ways done h = absurd (omega arith)
    few-ways (past {v = v} {b = b} {h = g} {ws = []} r c p) h = let u = in_map r in omega arith
    few-ways (past {v = v} {b = b} {h = g} {ws = w ∷ ws} r c p) h =
        let a = A.starts m v g b r in
        let u = in_map r in
        let k = behind-cut v (data_end F g) (omega arith) u in
        let t = few-ways p (omega arith) in
        omega arith
    few-ways (through {v = v} {b = b} {e = e} {h = g} {d = d} {ws = []} r c q f p) h = let u = in_map r in omega arith
    few-ways (through {v = v} {b = b} {e = e} {h = g} {d = d} {ws = w ∷ ws} r c q f p) h =
        let s = L.head-strict.more m v g b r in
        let k = L.body-good.forth m b d e q in
        let t = few-ways p (omega arith) in
        omega arith

    few-points : {i e : ℕ} {ps : List F.Point} → Chain F.point m i ps e → 0 < length ps → i + length ps ≤ length m
    few-points stop h = absurd (omega arith)
    few-points (link {i = i} {x = x} {a = p} {l = []} r c) h =
        let s = L.point-strict.more m i p x r in let u = L.point-good.bound m i p x r in omega arith
    few-points (link {i = i} {x = x} {a = p} {l = q ∷ ps} r c) h =
        let s = L.point-strict.more m i p x r in let t = few-points c (omega arith) in omega arith

    -- so a count that was met was not cut
    uncut : (n k i : ℕ) → k ≡ cut n → (0 < n → 0 < i) → (0 < k → i + k ≤ length m) → k ≡ n
    uncut n k i e h f = go (ltb n (2 ^ 64)) refl
      where
        go : (b : Bool) → ltb n (2 ^ 64) ≡ b → k ≡ n
        go true t = e ∙ cut_fits n (ltb-true n (2 ^ 64) t)
        go false t =
            let l : 2 ^ 64 ≤ n = ltb-false n (2 ^ 64) t in
            let c : k ≡ 2 ^ 64 - 1 = e ∙ cut-over n (omega arith) in
            absurd (let g = f (omega arith) in let i = h (omega arith) in omega arith)

-- fewer rows count no more
fewer-rows : {A : Type 0} (f : A → ℕ) (j k : ℕ) (l : List A) → j ≤ k → total f (take j l) ≤ total f (take k l)
fewer-rows f zero k l h = zero-le
fewer-rows f (suc j) zero l h = absurd (not-suc-le-zero h)
fewer-rows f (suc j) (suc k) [] h = le_refl _
fewer-rows f (suc j) (suc k) (a ∷ l) h = let i = fewer-rows f j k l (le_of_suc-le-suc h) in omega arith

at_most : {n : ℕ} (k i : ℕ) → (0 < k → i + k ≤ n) → k ≤ n
at_most zero i h = zero-le
at_most (suc k) i h = let g = h (omega arith) in omega arith

above_zero : (x : ℕ) → 0 < x → 0 < cut x
above_zero x h = go (ltb x (2 ^ 64)) refl
  where
    go : (b : Bool) → ltb x (2 ^ 64) ≡ b → 0 < cond b x (2 ^ 64 - 1)
    go true e = h
    go false e = omega arith

module _ (H : Parser TileHead) (LH : HeadCounts H) (F : Format) (L : Laws F) (A : Advances F) (m : List ℕ) (small : length m < 2 ^ 64) (rule : ℕ → F.Head → Bool) (i : ℕ) (z : TileHead → F.End) {R : F.End → F.End → Type 0} (G : Grows F R) where
  -- from the tile's head on
  module _ (h : TileHead) (e : ℕ) (read : H m i ≡ ok h e) (rows rows' : ℕ) (le : rows' ≤ rows)
      {ls : List LentLists} {ps : List F.Point} {ws : List (Way F)} {y : F.End} (t : EndsWell F m rule 0 (fresh_stream rows z h e) ls ps ws y) where
    pub fewer-from : Fewer H F R m rule i z h rows' ls ps ws y
    fewer-from =
        let tp = total-take (λ r. r.points) rows h.table in
        let tw = total-take (λ r. r.ways) rows h.table in
        let g = passed F m rule t (cut (points_up_to h.table rows)) (cut (ways_up_to h.table rows)) e (cut (e + h.offset)) (z h) refl in
        let q = g.0 in
        let p = uncut F m rule L A small (points_up_to h.table rows) (length ps) e q.point-count (λ k. let u = LH.passes m i h e read (omega arith) in omega arith) (few-points F m rule L A small q.points) in
        let w = uncut F m rule L A small (ways_up_to h.table rows) (length ws) (cut (e + h.offset)) q.way-count (λ k. let u = LH.passes m i h e read (omega arith) in above_zero (e + h.offset) (omega arith)) (few-ways F m rule L A small q.ways) in
        let lp = fewer-rows (λ r. r.points) rows' rows h.table le in
        let lw = fewer-rows (λ r. r.ways) rows' rows h.table le in
        let fw = first-ways F m rule (ways_up_to h.table rows') q.ways in
        let fp = front L.point-good (points_up_to h.table rows') (omega arith) q.points in
        let cp = length-take-le (points_up_to h.table rows') ps (omega arith) in
        let cw = length-take-le (ways_up_to h.table rows') ws (omega arith) in
        let sp = at_most (length ps) e (few-points F m rule L A small q.points) in
        let sw = at_most (length ws) (cut (e + h.offset)) (few-ways F m rule L A small q.ways) in
        record {
          start = fresh_stream rows' z h e;
          behind = e;
          opens = rw read;
          first = fw.kept;
          rest = fw.rest;
          lists = fw.lists;
          said = end_ways F m rule (take (ways_up_to h.table rows') ws) (end_points F m rule (take (points_up_to h.table rows') ps) (z h));
          ends = through-by F m rule fp.chain fw.ways (cp ∙ sym (cut_fits (points_up_to h.table rows') (omega arith))) (cw ∙ sym (cut_fits (ways_up_to h.table rows') (omega arith)));
          grows = rw g.1 (first_said F m rule G (ways_up_to h.table rows') ws (first-points F m rule G (points_up_to h.table rows') ps (z h)));
          point-count = cp;
          way-count = cw;
        }

  -- the tile's stream of these rows, where it opened and ended well
  pub zooming-in : (rows : ℕ) {s : StreamState F} {e : ℕ} → open_stream H rows z m i ≡ ok s e
      → {ls : List LentLists} {ps : List F.Point} {ws : List (Way F)} {y : F.End} → EndsWell F m rule 0 s ls ps ws y
      → OnlyAdds H F R m rule i z rows ls ps ws y
  zooming-in rows {s} {e} o {ls} {ps} {ws} {y} t =
      let a = split (H m i) (λ h x. ok (fresh_stream rows z h x) x) s e o in
      record {
        head = a.val;
        behind = a.mid;
        read = a.first;
        fewer = λ rows' le.
            fewer-from a.val a.mid a.first rows rows' le
            (subst (λ (s : StreamState F). EndsWell F m rule 0 s ls ps ws y) (sym (ok-val a.second)) t);
      }
