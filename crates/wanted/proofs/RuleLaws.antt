-- A rule's own decisions: where a driven stream ends well, with whatever lists, what it decided on its ways is a list of decisions, and what is
-- delivered under that is what the stream gave. By one step of the stream after the other.
use mathlib.Core.Path.{◌≡◌, refl, sym, ap, ◌∙◌, subst}
use mathlib.Core.Bool.{Bool, true, false, cond}
use mathlib.Core.List.{List, [], ◌∷◌}
use Prim.Native.Nat.{ℕ, zero, suc}
use native.Mathlib.Omega.{arith}
use Rattle.parsing.specs.Parse.{Res, ok, no, many, none, some}
use Rattle.arithmetic.specs.Cut.{cut}
use Rattle.format.specs.Lent.{LentLists, Reply, fits, written, needed, deliver}
use Rattle.agreement.specs.Calls.{next, accept, decline, got_point, got_head, got_body, ended, Step, plain, lending}
use Rattle.agreement.specs.Format.{Format, data_end}
use Rattle.agreement.specs.Stream.{StreamAnswer, StreamState, idle, waits, stream, on_point, on_head, on_body}
use Rattle.zooming.specs.Zooming.{Way, by_head, whole, EndsWell}
use Rattle.zooming.specs.Zooming as zooming
use Rattle.selection.specs.Driven.{DrivenWell}
use Rattle.selection.proofs.DrivenLaws.{selected-is-stream}
use Rattle.selection.proofs.SelectedLaws.{kind, other}
use Rattle.wanted.specs.Taken.{accepts, Taken, taken_ways, delivered}
use Rattle.wanted.specs.DrivenLists.{DecidesAs, on_none, on-more, Decided}

module _ (F : Format) (m : List ℕ) (rule : F.Head → Bool) where
  abbrev S : Type 0
  S = StreamState F

  abbrev T : Type 0
  T = Step (StreamAnswer F) S

  -- what was decided on these ways
  abbrev decisions_of : List (Way F) → List ℕ
  decisions_of [] = []
  decisions_of (by_head h ∷ ws) = 0 ∷ decisions_of ws
  decisions_of (whole h l b l' ∷ ws) = 1 ∷ decisions_of ws

  -- decisions that agree with it, from way k on
  data Agrees (ds : List ℕ) : ℕ → List (Way F) → Type 0 where
    nothing : {k : ℕ} → Agrees ds k []
    past : {k : ℕ} {h : F.Head} {ws : List (Way F)} → accepts ds k ≡ false → Agrees ds (suc k) ws → Agrees ds k (by_head h ∷ ws)
    through : {k : ℕ} {h : F.Head} {b : F.Body} {l l' : LentLists} {ws : List (Way F)} → accepts ds k ≡ true → Agrees ds (suc k) ws → Agrees ds k (whole h l b l' ∷ ws)

  later : {ds : List ℕ} {k : ℕ} {ws : List (Way F)} (d : ℕ) → Agrees ds k ws → Agrees (d ∷ ds) (suc k) ws
  later d nothing = nothing
  later d (past e a) = past e (later d a)
  later d (through e a) = through e (later d a)

  own : (ws : List (Way F)) → Agrees (decisions_of ws) 0 ws
  own [] = nothing
  own (by_head h ∷ ws) = past refl (later 0 (own ws))
  own (whole h l b l' ∷ ws) = through refl (later 1 (own ws))

  abbrev answer_of : T → StreamAnswer F
  answer_of t = t.reply.answer

  -- a head that was given was read there, and waits
  record Headed (w v : ℕ) (z : F.End) (h : F.Head) (s : S) : Type 0 where
    body : ℕ
    read : F.head m v ≡ ok h body
    waiting : s ≡ waits w (cut (data_end F h)) body (F.kept h) (F.note_head h z)

  headed : (w i v : ℕ) (z : F.End) (h : F.Head) (s : S) (r : Res F.Head) → F.head m v ≡ r → on_head F w i v z r ≡ plain (got_head h) s → Headed w v z h s
  headed w i v z h s (ok g b) q e =
      let a : ◌≡◌ {A = StreamAnswer F} (got_head g) (got_head h) = ap answer_of e in
      let f : g ≡ h = cc in
      subst (λ (x : F.Head). Headed w v z x s) f (record { body = b; read = q; waiting = sym (ap (λ (t : T). t.left) e) })
  headed w i v z h s (no k x) q e = other (ap answer_of e) (λ k. omega arith)

  -- a body that accept gave was read there
  record Bodied (w b : ℕ) (k : F.Kept) (z : F.End) (s : S) : Type 0 where
    value : F.Body
    end : ℕ
    read : F.body m b ≡ ok value end
    left : s ≡ idle 0 w end end (F.note_body (F.whole k value) z)

  -- accept, by what was delivered
  abbrev accepting : (w x b : ℕ) → F.Kept → F.End → Reply (Res F.Body) → T
  accepting w x b k z r = on_body F.whole F.note_body w x b k z r.lists r.answer

  fitted : (w x b : ℕ) (k : F.Kept) (z : F.End) (l l' : LentLists) (y : F.Body) (s : S) (d : F.Body) (e : ℕ) → F.body m b ≡ ok d e → (c : Bool)
      → accepting w x b k z (cond {A = Reply (Res F.Body)} c (record { answer = ok d e; lists = written (F.lists d) l }) (record { answer = no 15 (needed (F.lists d)); lists = l })) ≡ lending (got_body y) l' s
      → Bodied w b k z s
  fitted w x b k z l l' y s d e q true p = record { value = d; end = e; read = q; left = sym (ap (λ (t : T). t.left) p) }
  fitted w x b k z l l' y s d e q false p = other (ap answer_of p) (λ k. omega arith)

  bodied : (w x b : ℕ) (k : F.Kept) (z : F.End) (l l' : LentLists) (y : F.Body) (s : S) (r : Res F.Body) → F.body m b ≡ r
      → accepting w x b k z (deliver (λ d. d) F.lists r l) ≡ lending (got_body y) l' s → Bodied w b k z s
  bodied w x b k z l l' y s (ok d e) q p = fitted w x b k z l l' y s d e q (fits (F.lists d) l) p
  bodied w x b k z l l' y s (no n v) q p = other (ap answer_of p) (λ k. omega arith)

  one-point : (n i e x : ℕ) (p : F.Point) (ps : List F.Point) → F.point m i ≡ ok p e → many F.point n m e ≡ ok ps x → many F.point (suc n) m i ≡ ok (p ∷ ps) x
  one-point n i e x p ps a b = rw (a, b)

  -- where a way is next, no other answer comes but a refusal; and where a point is
  not-by-head : {C : Type 0} (w i v : ℕ) (z : F.End) (a : StreamAnswer F) (s : S) (r : Res F.Head) → on_head F w i v z r ≡ plain a s → (1 ≡ kind a → ⊥) → (5 ≡ kind a → ⊥) → C
  not-by-head w i v z a s (ok g b) e f n = other (ap answer_of e) f
  not-by-head w i v z a s (no k x) e f n = other (ap answer_of e) n

  not-by-point : {C : Type 0} (n w i v : ℕ) (z : F.End) (a : StreamAnswer F) (s : S) (r : Res F.Point) → on_point F n w i v z r ≡ plain a s → (0 ≡ kind a → ⊥) → (5 ≡ kind a → ⊥) → C
  not-by-point n w i v z a s (ok g x) e f y = other (ap answer_of e) f
  not-by-point n w i v z a s (no g x) e f y = other (ap answer_of e) y

  module _ (ds : List ℕ) where
    -- the ways that are taken by the decisions
    record Taking (k w v : ℕ) : Type 0 where
      ways : List (Taken F)
      end : ℕ
      read : taken_ways F ds k w m v ≡ ok ways end
      decides : DecidesAs F rule ds k ways

    one-past : (k w v b e : ℕ) (h : F.Head) (ts : List (Taken F)) → F.head m v ≡ ok h b → accepts ds k ≡ false → taken_ways F ds (suc k) w m (cut (data_end F h)) ≡ ok ts e
        → taken_ways F ds k (suc w) m v ≡ ok (record { head = h; body = none } ∷ ts) e
    one-past k w v b e h ts p f q = rw (p, f, q)

    one-through : (k w v b x e : ℕ) (h : F.Head) (d : F.Body) (ts : List (Taken F)) → F.head m v ≡ ok h b → accepts ds k ≡ true → F.body m b ≡ ok d x → taken_ways F ds (suc k) w m x ≡ ok ts e
        → taken_ways F ds k (suc w) m v ≡ ok (record { head = h; body = some d } ∷ ts) e
    one-through k w v b x e h d ts p f o q = rw (p, f, o, q)

    taking : {k : ℕ} {s : S} {ls : List LentLists} {ps : List F.Point} {ws : List (Way F)} {y : F.End} → EndsWell F m (λ _ h. rule h) k s ls ps ws y
        → (w i v : ℕ) (z : F.End) → s ≡ idle 0 w i v z → Agrees ds k ws → Taking k w v
    taking {k} (zooming.at-end e) zero i v z q a = record { ways = []; end = v; read = refl; decides = on_none }
    taking (zooming.at-end {s' = s'} {z = y} e) (suc w) i v z q a = not-by-head w i v z (ended y) s' (F.head m v) (ap (λ (x : S). stream F m x next) (sym q) ∙ e) (λ k. omega arith) (λ k. omega arith)
    taking (zooming.on-point e d) zero i v z q a = other (ap answer_of (ap (λ (x : S). stream F m x next) (sym q) ∙ e)) (λ k. omega arith)
    taking (zooming.on-point {s' = s'} {p = p} e d) (suc w) i v z q a = not-by-head w i v z (got_point p) s' (F.head m v) (ap (λ (x : S). stream F m x next) (sym q) ∙ e) (λ k. omega arith) (λ k. omega arith)
    taking (zooming.on-declined e r c d) zero i v z q a = other (ap answer_of (ap (λ (x : S). stream F m x next) (sym q) ∙ e)) (λ k. omega arith)
    taking {k} (zooming.on-declined {s' = s'} {h = h} e r c d) (suc w) i v z q (past f a) =
        let t = headed w i v z h s' (F.head m v) refl (ap (λ (x : S). stream F m x next) (sym q) ∙ e) in
        let p = cut (data_end F h) in
        let g : _ ≡ idle 0 w p p (F.note_head h z) = sym (ap (λ (x : T). x.left) (sym (ap (λ (x : S). stream F m x decline) t.waiting) ∙ c)) in
        let u = taking d w p p (F.note_head h z) g a in
        record { ways = record { head = h; body = none } ∷ u.ways; end = u.end; read = one-past k w v t.body u.end h u.ways t.read f u.read; decides = on-more (f ∙ sym r) u.decides }
    taking (zooming.on-accepted e r c d) zero i v z q a = other (ap answer_of (ap (λ (x : S). stream F m x next) (sym q) ∙ e)) (λ k. omega arith)
    taking {k} (zooming.on-accepted {s' = s'} {s'' = s''} {h = h} {b = b} {l = l} {l' = l'} e r c d) (suc w) i v z q (through f a) =
        let t = headed w i v z h s' (F.head m v) refl (ap (λ (x : S). stream F m x next) (sym q) ∙ e) in
        let o = bodied w (cut (data_end F h)) t.body (F.kept h) (F.note_head h z) l l' b s'' (F.body m t.body) refl (ap (λ (x : S). stream F m x (accept l)) (sym t.waiting) ∙ c) in
        let u = taking d w o.end o.end (F.note_body (F.whole (F.kept h) o.value) (F.note_head h z)) o.left a in
        record { ways = record { head = h; body = some o.value } ∷ u.ways; end = u.end; read = one-through k w v t.body o.end u.end h o.value u.ways t.read f o.read u.read; decides = on-more (f ∙ sym r) u.decides }

    -- the points before them
    record Pointed (n i : ℕ) (w v : ℕ) : Type 0 where
      points : List F.Point
      end : ℕ
      read : many F.point n m i ≡ ok points end
      ways : Taking 0 w v

    record Point (n w v : ℕ) (i : ℕ) (z : F.End) (p : F.Point) (s : S) : Type 0 where
      end : ℕ
      read : F.point m i ≡ ok p end
      left : s ≡ idle n w end v (F.note_point p z)

    point-read : (n w i v : ℕ) (z : F.End) (p : F.Point) (s : S) (r : Res F.Point) → F.point m i ≡ r → on_point F n w i v z r ≡ plain (got_point p) s → Point n w v i z p s
    point-read n w i v z p s (ok g e) q h =
        let a : ◌≡◌ {A = StreamAnswer F} (got_point g) (got_point p) = ap answer_of h in
        let f : g ≡ p = cc in
        subst (λ (x : F.Point). Point n w v i z x s) f (record { end = e; read = q; left = sym (ap (λ (t : T). t.left) h) })
    point-read n w i v z p s (no k x) q h = other (ap answer_of h) (λ k. omega arith)

    pointing : {s : S} {ls : List LentLists} {ps : List F.Point} {ws : List (Way F)} {y : F.End} → EndsWell F m (λ _ h. rule h) 0 s ls ps ws y
        → (n w i v : ℕ) (z : F.End) → s ≡ idle n w i v z → Agrees ds 0 ws → Pointed n i w v
    pointing d zero w i v z q a = record { points = []; end = i; read = refl; ways = taking d w i v z q a }
    pointing (zooming.on-point {s' = s'} {p = p} e d) (suc n) w i v z q a =
        let t = point-read n w i v z p s' (F.point m i) refl (ap (λ (x : S). stream F m x next) (sym q) ∙ e) in
        let u = pointing {s = s'} d n w t.end v (F.note_point p z) t.left a in
        record { points = p ∷ u.points; end = u.end; read = one-point n i t.end u.end p u.points t.read u.read; ways = u.ways }
    pointing (zooming.at-end {s' = s'} {z = y} e) (suc n) w i v z q a = not-by-point n w i v z (ended y) s' (F.point m i) (ap (λ (x : S). stream F m x next) (sym q) ∙ e) (λ k. omega arith) (λ k. omega arith)
    pointing (zooming.on-declined {s' = s'} {h = g} e r c d) (suc n) w i v z q a = not-by-point n w i v z (got_head g) s' (F.point m i) (ap (λ (x : S). stream F m x next) (sym q) ∙ e) (λ k. omega arith) (λ k. omega arith)
    pointing (zooming.on-accepted {s' = s'} {h = g} e r c d) (suc n) w i v z q a = not-by-point n w i v z (got_head g) s' (F.point m i) (ap (λ (x : S). stream F m x next) (sym q) ∙ e) (λ k. omega arith) (λ k. omega arith)

  decided-from : (s : S) {ls : List LentLists} {ps : List F.Point} {ws : List (Way F)} {y : F.End} → EndsWell F m (λ _ h. rule h) 0 s ls ps ws y → Decided F m rule s
  decided-from (idle n w i v z) {ws = ws} d =
      let p = pointing (decisions_of ws) d n w i v z refl (own ws) in
      record {
        decisions = decisions_of ws;
        what = record { points = p.points; ways = p.ways.ways };
        behind = 0;
        is = both p.points p.ways.ways p.end p.ways.end p.read p.ways.read;
        decides = p.ways.decides;
      }
    where
      both : (ps : List F.Point) (ts : List (Taken F)) (e x : ℕ) → many F.point n m i ≡ ok ps e → taken_ways F (decisions_of ws) 0 w m v ≡ ok ts x
          → delivered F (decisions_of ws) m (idle n w i v z) ≡ ok (record { points = ps; ways = ts }) 0
      both ps ts e x a b = rw (a, b)
  decided-from (waits w x b k z) (zooming.at-end e) = other (ap answer_of e) (λ k. omega arith)
  decided-from (waits w x b k z) (zooming.on-point e d) = other (ap answer_of e) (λ k. omega arith)
  decided-from (waits w x b k z) (zooming.on-declined e r c d) = other (ap answer_of e) (λ k. omega arith)
  decided-from (waits w x b k z) (zooming.on-accepted e r c d) = other (ap answer_of e) (λ k. omega arith)

  pub rule-decides : (s : S) {ls : List LentLists} {ps : List F.Point} {ws : List (Way F)} {z : F.End} → DrivenWell F m rule s ls ps ws z → Decided F m rule s
  rule-decides s d = decided-from s ((selected-is-stream F m rule).under d 0).ends
