-- What is delivered under a list of decisions, or refused, is what the stream answers that is driven by them, of a tile of any format.
use mathlib.Core.Path.{◌≡◌, refl, sym, ap, ◌∙◌, subst}
use mathlib.Core.Bool.{Bool, true, false, cond}
use mathlib.Core.List.{List, [], ◌∷◌}
use Prim.Native.Nat.{ℕ, zero, suc}
use native.Mathlib.Omega.{arith}
use lib.ListN.{length}
use Rattle.parsing.specs.Parse.{Res, ok, no, and_then, many, none, some}
use Rattle.parsing.specs.Good.{split, ok-val, ok_at, no_ok}
use Rattle.arithmetic.specs.Cut.{cut}
use Rattle.format.specs.Lent.{LentLists, fits, written}
use Rattle.agreement.specs.Calls.{next, accept, got_point, got_head, got_body, refused, plain, lending}
use Rattle.agreement.specs.Format.{Format, data_end}
use Rattle.agreement.specs.Stream.{StreamState, idle, waits, stream}
use Rattle.agreement.proofs.Chain.{Chain, stop, link, Many, many-chain}
use Rattle.agreement.proofs.Stored.{stopped}
use Rattle.zooming.specs.Zooming.{Way, by_head, whole, EndsWell}
use Rattle.zooming.specs.Zooming as zooming
use Rattle.wanted.specs.Taken.{accepts, Taken, taken_way, taken_ways, Delivered, delivered, bodies}
use Rattle.wanted.specs.WantedSays.{StreamedAs, no-ways, by-head, with-body, Streams, Meets, at_next, at-accept, on-point, on-declined, on-accepted, LongEnough, Each, none_left, and-each, DeliveredIsStream}

module _ (F : Format) (m : List ℕ) (ds : List ℕ) where
  abbrev rule : ℕ → F.Head → Bool
  rule k h = accepts ds k

  abbrev Fits : LentLists → F.Body → Type 0
  Fits l b = fits (F.lists b) l ≡ true

  -- one way, by its decision
  data Took (v : ℕ) (c : Bool) : Taken F → ℕ → Type 0 where
    past : {h : F.Head} {b : ℕ} → F.head m v ≡ ok h b → c ≡ false → Took v c (record { head = h; body = none }) (cut (data_end F h))
    through : {h : F.Head} {b e : ℕ} {d : F.Body} → F.head m v ≡ ok h b → c ≡ true → F.body m b ≡ ok d e → Took v c (record { head = h; body = some d }) e

  took-as : (v : ℕ) (c : Bool) {w w' : Taken F} {e e' : ℕ} → Took v c w e → ok w e ≡ ok w' e' → Took v c w' e'
  took-as v c t q = rw (← (ok-val q), ← (ok_at q)) t

  behind-head : (v : ℕ) (c : Bool) (h : F.Head) (b : ℕ) (w : Taken F) (e : ℕ) → F.head m v ≡ ok h b
      → cond c (and_then (F.body m b) (λ d x. ok (record { head = h; body = some d }) x)) (ok (record { head = h; body = none }) (cut (data_end F h))) ≡ ok w e → Took v c w e
  behind-head v true h b w e r q =
      let s = split (F.body m b) (λ d x. ok (record { head = h; body = some d }) x) w e q in
      took-as v true (through r refl s.first) s.second
  behind-head v false h b w e r q = took-as v false (past r refl) q

  took : (v : ℕ) (c : Bool) (w : Taken F) (e : ℕ) → taken_way F c m v ≡ ok w e → Took v c w e
  took v c w e q =
      let s = split (F.head m v) (λ h b. cond c (and_then (F.body m b) (λ d x. ok (record { head = h; body = some d }) x)) (ok (record { head = h; body = none }) (cut (data_end F h)))) w e q in
      behind-head v c s.val s.mid w e s.first s.second

  -- several ways
  data TookAll : (k v : ℕ) → List (Taken F) → Type 0 where
    done : {k v : ℕ} → TookAll k v []
    more : {k v e : ℕ} {w : Taken F} {ws : List (Taken F)} → Took v (accepts ds k) w e → TookAll (suc k) e ws → TookAll k v (w ∷ ws)

  record Counted (k n v : ℕ) (ts : List (Taken F)) : Type 0 where
    all : TookAll k v ts
    count : length ts ≡ n

  counted-as : {k n v : ℕ} {ts ts' : List (Taken F)} {e e' : ℕ} → Counted k n v ts → ok ts e ≡ ok ts' e' → Counted k n v ts'
  counted-as c q = rw (← (ok-val q)) c

  took-all : (n k v : ℕ) (ts : List (Taken F)) (e : ℕ) → taken_ways F ds k n m v ≡ ok ts e → Counted k n v ts
  took-all zero k v ts e q = counted-as {e = v} record { all = done; count = refl } q
  took-all (suc n) k v ts e q =
      let s = split (taken_way F (accepts ds k) m v) (λ w x. and_then (taken_ways F ds (suc k) n m x) (λ l y. ok (w ∷ l) y)) ts e q in
      let t = split (taken_ways F ds (suc k) n m s.mid) (λ l y. ok (s.val ∷ l) y) ts e s.second in
      let c = took-all n (suc k) s.mid t.val t.mid t.first in
      counted-as record { all = more (took v (accepts ds k) s.val s.mid s.first) c.all; count = ap suc c.count } t.second

  -- a stream that takes these ends well
  record Ends (k : ℕ) (s : StreamState F) (ls : List LentLists) (ps : List F.Point) (ts : List (Taken F)) : Type 0 where
    ways : List (Way F)
    said : F.End
    ends : EndsWell F m rule k s ls ps ways said
    same : StreamedAs F ts ls ways

  -- behind the first body
  rest-fits : {b : F.Body} {bs : List F.Body} {ls : List LentLists} → Each (λ l. Each (Fits l) (b ∷ bs)) ls → Each (λ l. Each (Fits l) bs) ls
  rest-fits none_left = none_left
  rest-fits (and-each (and-each f fs) r) = and-each fs (rest-fits r)

  ways-end : {k v : ℕ} {ts : List (Taken F)} → TookAll k v ts → (i : ℕ) (z : F.End) (ls : List LentLists) → length ls ≡ length (bodies ts) → Each (λ l. Each (Fits l) (bodies ts)) ls
      → Ends k (idle 0 (length ts) i v z) ls [] ts
  ways-end {v = v} done i z [] c f = record { ways = []; said = z; ends = zooming.at-end {s' = idle 0 0 i v z} refl; same = no-ways }
  ways-end done i z (l ∷ ls) c f = absurd (omega arith)
  ways-end {v = v} (more {ws = ws} (past {h = g} {b = x} h d) r) i z ls c f =
      let s : StreamState F = waits (length ws) (cut (data_end F g)) x (F.kept g) (F.note_head g z) in
      let a : stream F m (idle 0 (suc (length ws)) i v z) next ≡ plain (got_head g) s = rw h in
      let t = ways-end r (cut (data_end F g)) (F.note_head g z) ls c f in
      record { ways = by_head g ∷ t.ways; said = t.said; ends = zooming.on-declined a d refl t.ends; same = by-head t.same }
  ways-end (more (through h d y) r) i z [] c f = absurd (omega arith)
  ways-end {v = v} (more {ws = ws} (through {h = g} {b = x} {e = e} {d = o} h d y) r) i z (l ∷ ls) c (and-each (and-each f fs) q) =
      let s : StreamState F = waits (length ws) (cut (data_end F g)) x (F.kept g) (F.note_head g z) in
      let a : stream F m (idle 0 (suc (length ws)) i v z) next ≡ plain (got_head g) s = rw h in
      let p = F.whole (F.kept g) o in
      let j : stream F m s (accept l) ≡ lending (got_body p) (written (F.lists o) l) (idle 0 (length ws) e e (F.note_body p (F.note_head g z))) = rw (y, f) in
      let t = ways-end r e (F.note_body p (F.note_head g z)) ls (omega arith) (rest-fits q) in
      record { ways = whole g l p (written (F.lists o) l) ∷ t.ways; said = t.said; ends = zooming.on-accepted a d j t.ends; same = with-body t.same }

  points-end : {i e : ℕ} {ps : List F.Point} → Chain F.point m i ps e → (w v : ℕ) (z : F.End) {ls : List LentLists} {ts : List (Taken F)}
      → ((i : ℕ) (z : F.End) → Ends 0 (idle 0 w i v z) ls [] ts) → Ends 0 (idle (length ps) w i v z) ls ps ts
  points-end (stop {i = i}) w v z r = r i z
  points-end (link {i = i} {x = x} {a = p} {l = ps} h c) w v z r =
      let a : stream F m (idle (suc (length ps)) w i v z) next ≡ plain (got_point p) (idle (length ps) w x v (F.note_point p z)) = rw h in
      let t = points-end c w v (F.note_point p z) r in
      record { ways = t.ways; said = t.said; ends = zooming.on-point a t.ends; same = t.same }

  all_end : (n w i v e : ℕ) (z : F.End) (ps : List F.Point) (ts : List (Taken F)) → Many F.point m n i ps e → Counted 0 w v ts
      → (ls : List LentLists) → length ls ≡ length (bodies ts) → Each (λ l. Each (Fits l) (bodies ts)) ls → Ends 0 (idle n w i v z) ls ps ts
  all_end n w i v e z ps ts p t ls c f =
      rw (← p.count) (points-end p.chain w v z (λ i z. rw (← t.count) (ways-end t.all i z ls c f)))

  ends_as : {d d' : Delivered F} {e e' : ℕ} {s : StreamState F} {ls : List LentLists} → Ends 0 s ls d.points d.ways → ok d e ≡ ok d' e' → Streams F m ds s ls d'
  ends_as {d} {d'} {s = s} {ls = ls} t q =
      subst (λ (x : Delivered F). Streams F m ds s ls x) (ok-val q) (record { ways = t.ways; said = t.said; ends = t.ends; same = t.same })

  -- what is delivered is what the stream delivers
  module _ (d : Delivered F) (e : ℕ) (ls : List LentLists) (count : length ls ≡ length (bodies d.ways)) (fit : Each (λ l. Each (Fits l) (bodies d.ways)) ls) where
    stream-delivers : (s : StreamState F) → delivered F ds m s ≡ ok d e → Streams F m ds s ls d
    stream-delivers (waits w x b k z) q = no_ok q
    stream-delivers (idle n w i v z) q =
        let a = split (many F.point n m i) (λ ps _. and_then (taken_ways F ds 0 w m v) (λ ws _. ok (record { points = ps; ways = ws }) 0)) d e q in
        let b = split (taken_ways F ds 0 w m v) (λ ws _. ok (record { points = a.val; ways = ws }) 0) d e a.second in
        let u : bodies b.val ≡ bodies d.ways = ap (λ (x : Delivered F). bodies x.ways) (ok-val b.second) in
        let p = many-chain F.point m n i a.val a.mid a.first in
        let t = took-all w 0 v b.val b.mid b.first in
        ends_as {d = record { points = a.val; ways = b.val }} (all_end n w i v a.mid z a.val b.val p t ls (count ∙ ap length (sym u)) (subst (λ (x : List F.Body). Each (λ l. Each (Fits l) x) ls) (sym u) fit)) b.second

  -- and what is refused
  module _ (lent : ℕ → LentLists) (long : (j : ℕ) → LongEnough F m (lent j)) (n : ℕ) (x : List ℕ) where
    abbrev Stops : ℕ → StreamState F → Type 0
    Stops k s = Meets F m rule lent n x k s

    -- behind a way's head
    module _ (k w v i : ℕ) (z : F.End) (h : F.Head) (b : ℕ) (read : F.head m v ≡ ok h b) (later : (e : ℕ) (z : F.End) → taken_ways F ds (suc k) w m e ≡ no n x → Stops (suc k) (idle 0 w e e z)) where
      abbrev waiting : StreamState F
      waiting = waits w (cut (data_end F h)) b (F.kept h) (F.note_head h z)

      gets : stream F m (idle 0 (suc w) i v z) next ≡ plain (got_head h) waiting
      gets = rw read

      body-meets : accepts ds k ≡ true → (g : Res F.Body) → F.body m b ≡ g
          → and_then (and_then g (λ d y. ok (record { head = h; body = some d }) y)) (λ (t : Taken F) y. and_then (taken_ways F ds (suc k) w m y) (λ l y. ok (t ∷ l) y)) ≡ no n x → Stops k (idle 0 (suc w) i v z)
      body-meets c (no r y) f q =
          let j : stream F m waiting (accept (lent k)) ≡ lending (refused r y) (lent k) waiting = rw f in
          let u : r ≡ n = cc in
          let v : y ≡ x = cc in
          at-accept {s'' = waiting} gets c (j ∙ rw (u, v))
      body-meets c (ok d e) f q =
          let o = F.whole (F.kept h) d in
          let j : stream F m waiting (accept (lent k)) ≡ lending (got_body o) (written (F.lists d) (lent k)) (idle 0 w e e (F.note_body o (F.note_head h z))) = rw (f, (long k).fit b d e f) in
          on-accepted gets c j (later e (F.note_body o (F.note_head h z)) (stopped (λ l. record { head = h; body = some d } ∷ l) n x (taken_ways F ds (suc k) w m e) (sym q)))

      decision-meets : (c : Bool) → accepts ds k ≡ c
          → and_then (cond c (and_then (F.body m b) (λ d y. ok (record { head = h; body = some d }) y)) (ok (record { head = h; body = none }) (cut (data_end F h)))) (λ (t : Taken F) y. and_then (taken_ways F ds (suc k) w m y) (λ l y. ok (t ∷ l) y)) ≡ no n x → Stops k (idle 0 (suc w) i v z)
      decision-meets true c q = body-meets c (F.body m b) refl q
      decision-meets false c q =
          let e = cut (data_end F h) in
          on-declined {s'' = idle 0 w e e (F.note_head h z)} gets c refl (later e (F.note_head h z) (stopped (λ l. record { head = h; body = none } ∷ l) n x (taken_ways F ds (suc k) w m e) (sym q)))

    refused_as : {k : ℕ} {s s' : StreamState F} (r : ℕ) (y : List ℕ) → stream F m s next ≡ plain (refused r y) s' → ◌≡◌ {A = Res F.Head} (no r y) (no n x) → Stops k s
    refused_as {s' = s'} r y h q = let u : r ≡ n = cc in let v : y ≡ x = cc in at_next {s' = s'} (h ∙ rw (u, v))

    head_meets : (k w v i : ℕ) (z : F.End) (g : Res F.Head) → F.head m v ≡ g
        → and_then (and_then g (λ h b. cond (accepts ds k) (and_then (F.body m b) (λ d y. ok (record { head = h; body = some d }) y)) (ok (record { head = h; body = none }) (cut (data_end F h))))) (λ (t : Taken F) y. and_then (taken_ways F ds (suc k) w m y) (λ l y. ok (t ∷ l) y)) ≡ no n x
        → ((e : ℕ) (z : F.End) → taken_ways F ds (suc k) w m e ≡ no n x → Stops (suc k) (idle 0 w e e z)) → Stops k (idle 0 (suc w) i v z)
    head_meets k w v i z (no r y) f q later =
        let j : stream F m (idle 0 (suc w) i v z) next ≡ plain (refused r y) (idle 0 (suc w) i v z) = rw f in
        refused_as r y j cc
    head_meets k w v i z (ok h b) f q later = decision-meets k w v i z h b f later (accepts ds k) refl q

    ways-meet : (w k v i : ℕ) (z : F.End) → taken_ways F ds k w m v ≡ no n x → Stops k (idle 0 w i v z)
    ways-meet zero k v i z q = no_ok (sym q)
    ways-meet (suc w) k v i z q = head_meets k w v i z (F.head m v) refl q (λ e z r. ways-meet w (suc k) e e z r)

    point-meets : (p w i v : ℕ) (z : F.End) (g : Res F.Point) → F.point m i ≡ g → and_then g (λ a y. and_then (many F.point p m y) (λ l y. ok (a ∷ l) y)) ≡ no n x
        → ((i : ℕ) (z : F.End) → many F.point p m i ≡ no n x → Stops 0 (idle p w i v z)) → Stops 0 (idle (suc p) w i v z)
    point-meets p w i v z (no r y) f q later =
        let j : stream F m (idle (suc p) w i v z) next ≡ plain (refused r y) (idle (suc p) w i v z) = rw f in
        refused_as r y j cc
    point-meets p w i v z (ok a e) f q later =
        let j : stream F m (idle (suc p) w i v z) next ≡ plain (got_point a) (idle p w e v (F.note_point a z)) = rw f in
        on-point j (later e (F.note_point a z) (stopped (λ l. a ∷ l) n x (many F.point p m e) (sym q)))

    points-meet : (p w i v : ℕ) (z : F.End) → many F.point p m i ≡ no n x → Stops 0 (idle p w i v z)
    points-meet zero w i v z q = no_ok (sym q)
    points-meet (suc p) w i v z q = point-meets p w i v z (F.point m i) refl q (λ i z r. points-meet p w i v z r)

    -- past all points
    past_points : {i e : ℕ} {ps : List F.Point} → Chain F.point m i ps e → (w v : ℕ) (z : F.End) → ((i : ℕ) (z : F.End) → Stops 0 (idle 0 w i v z)) → Stops 0 (idle (length ps) w i v z)
    past_points (stop {i = i}) w v z r = r i z
    past_points (link {i = i} {x = y} {a = p} {l = ps} h c) w v z r =
        let a : stream F m (idle (suc (length ps)) w i v z) next ≡ plain (got_point p) (idle (length ps) w y v (F.note_point p z)) = rw h in
        on-point a (past_points c w v (F.note_point p z) r)

    features-meet : (p w i v : ℕ) (z : F.End) (g : Res (List F.Point)) → many F.point p m i ≡ g
        → and_then {B = Delivered F} g (λ ps _. and_then (taken_ways F ds 0 w m v) (λ ws _. ok (record { points = ps; ways = ws }) 0)) ≡ no n x → Stops 0 (idle p w i v z)
    features-meet p w i v z (no r y) f q = let u : r ≡ n = cc in let t : y ≡ x = cc in points-meet p w i v z (f ∙ rw (u, t))
    features-meet p w i v z (ok ps e) f q =
        let c = many-chain F.point m p i ps e f in
        rw (← c.count) (past_points c.chain w v z (λ i z. ways-meet w 0 v i z (refusal (taken_ways F ds 0 w m v) q)))
      where
        refusal : (g : Res (List (Taken F))) → and_then {B = Delivered F} g (λ ws _. ok (record { points = ps; ways = ws }) 0) ≡ no n x → g ≡ no n x
        refusal (ok a e) q = no_ok (sym q)
        refusal (no r y) q = cc

    stream-refuses : (s : StreamState F) → delivered F ds m s ≡ no n x → Stops 0 s
    stream-refuses (waits w y b k z) q =
        refused_as {s' = waits w y b k z} 16 [] refl cc
    stream-refuses (idle p w i v z) q = features-meet p w i v z (many F.point p m i) refl q

  pub delivered-is-stream : (s : StreamState F) → DeliveredIsStream F m ds s
  delivered-is-stream s = record {
    delivers = λ d e q lent count fit. stream-delivers d e lent count fit s q;
    refuses = λ n v q lent long. stream-refuses lent long n v s q;
  }
