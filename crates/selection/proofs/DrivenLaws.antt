-- A stream driven by `selected_next` is the stream under that rule. Where a call is not refused, it does not matter from which state before it
-- the ways were declined (`before-free`); and a call is a chain of declined ways with a next behind it (`Found`).
use mathlib.Core.Path.{◌≡◌, refl, sym, ap, ◌∙◌, subst}
use mathlib.Core.Bool.{Bool, true, false, cond, false≢true}
use mathlib.Core.List.{List, [], ◌∷◌}
use Prim.Native.Nat.{ℕ, zero, suc}
use native.Mathlib.Omega.{arith}
use Rattle.parsing.specs.Parse.{Res, ok, no}
use Rattle.format.specs.Lent.{LentLists, Reply}
use Rattle.agreement.specs.Calls.{next, accept, decline, got_point, got_head, got_body, declined, ended, refused, Step, plain, lending}
use Rattle.agreement.specs.Format.{Format}
use Rattle.agreement.specs.Stream.{StreamAnswer, StreamState, idle, waits, stream, on_point, on_head}
use Rattle.zooming.specs.Zooming.{Way, by_head, whole, EndsWell}
use Rattle.zooming.specs.Zooming as zooming
use Rattle.selection.specs.Selected.{ways_of, unless_refused, passing, selected_from, selected_next}
use Rattle.selection.specs.Driven.{DrivenWell, at-end, on-point, on-way, accepted, UnderRule, SelectedIsStream}
use Rattle.selection.proofs.SelectedLaws.{kind, other, answer_at, past_of, counts-down, goes-past, answers}

module _ (F : Format) (m : List ℕ) where
  abbrev S : Type 0
  S = StreamState F

  abbrev T : Type 0
  T = Step (StreamAnswer F) (StreamState F)

  abbrev at : S → T
  at s = stream F m s next

  -- a step as it is given to a program that called from b
  abbrev given : S → T → T
  given b x = unless_refused b x.reply.answer x

  abbrev points_of : S → ℕ
  points_of (idle n w i v z) = n
  points_of (waits w x b k z) = 0

  no-point : {C : Type 0} (n w i v : ℕ) (z : F.End) (h : F.Head) (r : Res F.Point) → (on_point F n w i v z r).reply.answer ≡ got_head h → C
  no-point n w i v z h (ok p x) e = other e (λ k. omega arith)
  no-point n w i v z h (no p x) e = other e (λ k. omega arith)

  -- behind a way's head no point is left, and decline is answered
  record After (t : T) : Type 0 where
    none : points_of (stream F m t.left decline).left ≡ 0
    declines : stream F m t.left decline ≡ plain declined (stream F m t.left decline).left

  head-after : (w i v : ℕ) (z : F.End) (h : F.Head) (r : Res F.Head) → (on_head F w i v z r).reply.answer ≡ got_head h → After (on_head F w i v z r)
  head-after w i v z h (ok g b) e = record { none = refl; declines = refl }
  head-after w i v z h (no k x) e = other e (λ k. omega arith)

  after : (s : S) (h : F.Head) → answer_at F m s ≡ got_head h → After (at s)
  after (idle (suc n) w i v z) h e = no-point n w i v z h (F.point m i) e
  after (idle zero (suc w) i v z) h e = head-after w i v z h (F.head m v) e
  after (idle zero zero i v z) h e = other e (λ k. omega arith)
  after (waits w x b k z) h e = other e (λ k. omega arith)

  point-plain : (n w i v : ℕ) (z : F.End) (r : Res F.Point) → on_point F n w i v z r ≡ plain (on_point F n w i v z r).reply.answer (on_point F n w i v z r).left
  point-plain n w i v z (ok p e) = refl
  point-plain n w i v z (no k x) = refl

  head_plain : (w i v : ℕ) (z : F.End) (r : Res F.Head) → on_head F w i v z r ≡ plain (on_head F w i v z r).reply.answer (on_head F w i v z r).left
  head_plain w i v z (ok p e) = refl
  head_plain w i v z (no k x) = refl

  next-plain : (s : S) → at s ≡ plain (answer_at F m s) (at s).left
  next-plain (idle (suc n) w i v z) = point-plain n w i v z (F.point m i)
  next-plain (idle zero (suc w) i v z) = head_plain w i v z (F.head m v)
  next-plain (idle zero zero i v z) = refl
  next-plain (waits w x b k z) = refl

  gives_head : (s : S) (h : F.Head) → answer_at F m s ≡ got_head h → at s ≡ plain (got_head h) (at s).left
  gives_head s h e = next-plain s ∙ ap (λ (a : StreamAnswer F). plain a (at s).left) e

  -- where there are no points, next gives none
  not-a-point : (w i v : ℕ) (z : F.End) (r : Res F.Head) → kind (on_head F w i v z r).reply.answer ≡ 0 → ⊥
  not-a-point w i v z (ok p e) h = omega arith
  not-a-point w i v z (no k x) h = omega arith

  pointless : (s : S) → points_of s ≡ 0 → kind (answer_at F m s) ≡ 0 → ⊥
  pointless (idle (suc n) w i v z) e h = omega arith
  pointless (idle zero (suc w) i v z) e h = not-a-point w i v z (F.head m v) h
  pointless (idle zero zero i v z) e h = omega arith
  pointless (waits w x b k z) e h = omega arith

  module _ (rule : F.Head → Bool) where
    twice : (b b' : S) (a : StreamAnswer F) (l : LentLists) (t : S) → unless_refused b a (lending a l t) ≡ given b (unless_refused b' a (lending a l t))
    twice b b' (got_point p) l t = refl
    twice b b' (got_head h) l t = refl
    twice b b' (got_body d) l t = refl
    twice b b' declined l t = refl
    twice b b' (ended z) l t = refl
    twice b b' (refused n v) l t = refl

    picked : (b : S) (h : F.Head) (l : LentLists) (t : S) (p p' : T) → p ≡ given b p' → (c : Bool) → cond c (lending (got_head h) l t) p ≡ given b (cond c (lending (got_head h) l t) p')
    picked b h l t p p' e true = refl
    picked b h l t p p' e false = e

    passing-twice : (b b' : S) (p p' : T) → p ≡ given b p' → (a : StreamAnswer F) (l : LentLists) (t : S) → passing rule b p a (lending a l t) ≡ given b (passing rule b' p' a (lending a l t))
    passing-twice b b' p p' e (got_head h) l t = picked b h l t p p' e (rule h)
    passing-twice b b' p p' e (got_point x) l t = refl
    passing-twice b b' p p' e (got_body d) l t = refl
    passing-twice b b' p p' e declined l t = refl
    passing-twice b b' p p' e (ended z) l t = refl
    passing-twice b b' p p' e (refused n v) l t = refl

    before-free : (b b' : S) (n : ℕ) (s : S) → selected_from F m rule b n s ≡ given b (selected_from F m rule b' n s)
    unfolding selected_from
    before-free b b' zero s = twice b b' (answer_at F m s) (at s).reply.lists (at s).left
    before-free b b' (suc n) s =
        passing-twice b b' (selected_from F m rule b n (past_of F m s)) (selected_from F m rule b' n (past_of F m s)) (before-free b b' n (past_of F m s))
        (answer_at F m s) (at s).reply.lists (at s).left

    -- a call before a way that is declined answers as the call behind it, but for a refusal
    earlier-call : (s : S) (h : F.Head) → answer_at F m s ≡ got_head h → rule h ≡ false → selected_next F m rule s ≡ given s (selected_next F m rule (past_of F m s))
    earlier-call s h e f = goes-past F m rule s s h e f ∙ before-free s (past_of F m s) (ways_of (past_of F m s)) (past_of F m s)

    earlier : {s s'' : S} {ls : List LentLists} {ps : List F.Point} {ws : List (Way F)} {z : F.End} → selected_next F m rule s ≡ given s (selected_next F m rule s'') → DrivenWell F m rule s'' ls ps ws z → DrivenWell F m rule s ls ps ws z
    earlier {s = s} e (at-end h) = at-end (e ∙ ap (given s) h)
    earlier {s = s} e (on-point h d) = on-point (e ∙ ap (given s) h) d
    earlier {s = s} e (on-way h a d) = on-way (e ∙ ap (given s) h) a d

    -- a next that is no unselected head
    at_once : (s : S) (a : StreamAnswer F) (t : S) → at s ≡ plain a t → ((h : F.Head) → a ≡ got_head h → rule h ≡ true) → selected_next F m rule s ≡ given s (plain a t)
    at_once s a t e f =
        answers F m rule s (ways_of s) s (λ h g. f h (sym (ap (λ (x : T). x.reply.answer) e) ∙ g))
        ∙ ap (given s) e

    driven-by : {k : ℕ} {s : S} {ls : List LentLists} {ps : List F.Point} {ws : List (Way F)} {z : F.End} → EndsWell F m (λ _ h. rule h) k s ls ps ws z → DrivenWell F m rule s ls ps (accepted ws) z
    driven-by {s = s} (zooming.at-end e) = at-end (at_once s _ _ e (λ h g. other g (λ k. omega arith)))
    driven-by {s = s} (zooming.on-point e d) = on-point (at_once s _ _ e (λ h g. other g (λ k. omega arith))) (driven-by d)
    driven-by {s = s} (zooming.on-accepted {h = g} e r a d) = on-way (at_once s _ _ e (λ h q. let j : g ≡ h = cc in subst (λ x. rule x ≡ true) j r)) a (driven-by d)
    driven-by {s = s} (zooming.on-declined {s' = s'} {s'' = s''} {h = g} e r c d) =
        let a : answer_at F m s ≡ got_head g = ap (λ (x : T). x.reply.answer) e in
        let l : (at s).left ≡ s' = ap (λ (x : T). x.left) e in
        let p : past_of F m s ≡ s'' = ap (λ (x : S). (stream F m x decline).left) l ∙ ap (λ (x : T). x.left) c in
        earlier (earlier-call s g a r ∙ ap (λ (x : S). given s (selected_next F m rule x)) p) (driven-by d)

    -- what a call from b gave: a next that is no unselected head, or the call behind a way that goes past
    data Found (b : S) : S → T → Type 0 where
      here : {s : S} → ((h : F.Head) → answer_at F m s ≡ got_head h → rule h ≡ true) → Found b s (given b (at s))
      past : {s : S} {x : T} (h : F.Head) → answer_at F m s ≡ got_head h → rule h ≡ false → Found b (past_of F m s) x → Found b s x

    module _ (b : S) (n : ℕ) (s : S) where
      -- by whether next gives an unselected head
      one : ((h : F.Head) → answer_at F m s ≡ got_head h → rule h ≡ false → Found b s (selected_from F m rule b n s)) → Found b s (selected_from F m rule b n s)
      one deeper = go (answer_at F m s) refl
        where
          once : ((h : F.Head) → answer_at F m s ≡ got_head h → rule h ≡ true) → Found b s (selected_from F m rule b n s)
          once f = subst (Found b s) (sym (answers F m rule b n s f)) (here f)

          by-rule : (h : F.Head) → answer_at F m s ≡ got_head h → (c : Bool) → rule h ≡ c → Found b s (selected_from F m rule b n s)
          by-rule h e true f = once (λ g q. let k : ◌≡◌ {A = StreamAnswer F} (got_head h) (got_head g) = sym e ∙ q in let j : h ≡ g = cc in subst (λ x. rule x ≡ true) j f)
          by-rule h e false f = deeper h e f

          go : (a : StreamAnswer F) → answer_at F m s ≡ a → Found b s (selected_from F m rule b n s)
          go (got_head h) e = by-rule h e (rule h) refl
          go (got_point p) e = once (λ h q. other (sym e ∙ q) (λ k. omega arith))
          go (got_body d) e = once (λ h q. other (sym e ∙ q) (λ k. omega arith))
          go declined e = once (λ h q. other (sym e ∙ q) (λ k. omega arith))
          go (ended z) e = once (λ h q. other (sym e ∙ q) (λ k. omega arith))
          go (refused k v) e = once (λ h q. other (sym e ∙ q) (λ k. omega arith))

    less : (n : ℕ) (s : S) → ways_of s ≡ suc n → (h : F.Head) → answer_at F m s ≡ got_head h → ways_of (past_of F m s) ≡ n
    less n s w h e = let c = counts-down F m s h e in omega arith

    deeper : (b : S) (n : ℕ) (s : S) (w : ways_of s ≡ suc n) (h : F.Head) (e : answer_at F m s ≡ got_head h) → rule h ≡ false → Found b (past_of F m s) (selected_from F m rule b n (past_of F m s)) → Found b s (selected_from F m rule b (suc n) s)
    deeper b n s w h e f d =
        let g : selected_from F m rule b (suc n) s ≡ selected_from F m rule b n (past_of F m s) =
        ap (λ k. selected_from F m rule b k s) (sym w) ∙ goes-past F m rule b s h e f ∙ ap (λ k. selected_from F m rule b k (past_of F m s)) (less n s w h e) in
        subst (Found b s) (sym g) (past h e f d)

    found : (b : S) (n : ℕ) (s : S) → ways_of s ≡ n → Found b s (selected_from F m rule b n s)
    found b zero s w = one b zero s (λ h e f. absurd (let c = counts-down F m s h e in omega arith))
    found b (suc n) s w = one b (suc n) s (λ h e f. deeper b n s w h e f (found b n (past_of F m s) (less n s w h e)))

    abbrev stops : StreamAnswer F → Bool
    stops (got_point p) = false
    stops (got_head h) = false
    stops (got_body d) = false
    stops declined = false
    stops (ended z) = false
    stops (refused n v) = true

    -- what was given and is no refusal is what next answered
    went : (b : S) (a : StreamAnswer F) (l : LentLists) (t : S) (c : StreamAnswer F) (s' : S) → stops c ≡ false → unless_refused b a (lending a l t) ≡ plain c s' → lending a l t ≡ plain c s'
    went b (got_point p) l t c s' f e = e
    went b (got_head h) l t c s' f e = e
    went b (got_body d) l t c s' f e = e
    went b declined l t c s' f e = e
    went b (ended z) l t c s' f e = e
    went b (refused n v) l t c s' f e = absurd (false≢true (sym f ∙ sym (ap (λ (x : T). stops x.reply.answer) e)))

    well : (b s : S) (c : StreamAnswer F) (s' : S) → stops c ≡ false → given b (at s) ≡ plain c s' → at s ≡ plain c s'
    well b s c s' f e = went b (answer_at F m s) (at s).reply.lists (at s).left c s' f e

    -- the ways that went past are declined by the stream
    passed : {k : ℕ} {s : S} {ls : List LentLists} {ws : List (Way F)} {z : F.End} (h : F.Head) → answer_at F m s ≡ got_head h → rule h ≡ false → UnderRule F m rule (suc k) (past_of F m s) ls [] ws z → UnderRule F m rule k s ls [] ws z
    passed {s = s} h e f u =
        record {
          all = by_head h ∷ u.all;
          ends = zooming.on-declined (gives_head s h e) f (after s h e).declines u.ends;
          same = u.same;
        }

    to_end : (b : S) {s : S} {x : T} {z : F.End} {s' : S} → Found b s x → x ≡ plain (ended z) s' → (k : ℕ) → UnderRule F m rule k s [] [] [] z
    to_end b (here {s = s} r) e k = record { all = []; ends = zooming.at-end (well b s _ _ refl e); same = refl }
    to_end b (past h q f d) e k = passed h q f (to_end b d e (suc k))

    to-way : (b : S) {s : S} {x : T} {h : F.Head} {s' s'' : S} {l l' : LentLists} {y : F.Body} {ls : List LentLists} {ws : List (Way F)} {z : F.End}
        → Found b s x → x ≡ plain (got_head h) s' → stream F m s' (accept l) ≡ lending (got_body y) l' s'' → ((k : ℕ) → UnderRule F m rule k s'' ls [] ws z)
        → (k : ℕ) → UnderRule F m rule k s (l ∷ ls) [] (whole h l y l' ∷ ws) z
    to-way b {h = h} {l = l} {l' = l'} {y = y} (here {s = s} r) e a u k =
        let q = well b s _ _ refl e in
        let v = u (suc k) in
        record {
          all = whole h l y l' ∷ v.all;
          ends = zooming.on-accepted q (r h (ap (λ (x : T). x.reply.answer) q)) a v.ends;
          same = ap (λ (ws : List (Way F)). whole h l y l' ∷ ws) v.same;
        }
    to-way b (past h q f d) e a u k = passed h q f (to-way b d e a u (suc k))

    unless-kind : (b : S) (a : StreamAnswer F) (t : T) → (unless_refused b a t).reply ≡ t.reply
    unless-kind b (got_point p) t = refl
    unless-kind b (got_head h) t = refl
    unless-kind b (got_body d) t = refl
    unless-kind b declined t = refl
    unless-kind b (ended z) t = refl
    unless-kind b (refused n v) t = refl

    no-points : (b : S) {s : S} {x : T} → Found b s x → points_of s ≡ 0 → kind x.reply.answer ≡ 0 → ⊥
    no-points b (here {s = s} r) p e = pointless s p (sym (ap (λ (y : Reply (StreamAnswer F)). kind y.answer) (unless-kind b (answer_at F m s) (at s))) ∙ e)
    no-points b (past {s = s} h q f d) p e = no-points b d (after s h q).none e

    to-point : (b : S) {s : S} {x : T} {p : F.Point} {s' : S} {ls : List LentLists} {ps : List F.Point} {ws : List (Way F)} {z : F.End}
        → Found b s x → x ≡ plain (got_point p) s' → ((k : ℕ) → UnderRule F m rule k s' ls ps ws z) → (k : ℕ) → UnderRule F m rule k s ls (p ∷ ps) ws z
    to-point b (here {s = s} r) e u k =
        let v = u k in
        record { all = v.all; ends = zooming.on-point (well b s _ _ refl e) v.ends; same = v.same }
    to-point b (past {s = s} h q f d) e u k = absurd (no-points b d (after s h q).none (ap (λ (x : T). kind x.reply.answer) e))

    under-it : {s : S} {ls : List LentLists} {ps : List F.Point} {ws : List (Way F)} {z : F.End} → DrivenWell F m rule s ls ps ws z → (k : ℕ) → UnderRule F m rule k s ls ps ws z
    under-it (at-end {s = s} e) = to_end s (found s (ways_of s) s refl) e
    under-it (on-point {s = s} e d) = to-point s (found s (ways_of s) s refl) e (under-it d)
    under-it (on-way {s = s} e a d) = to-way s (found s (ways_of s) s refl) e a (under-it d)

    pub selected-is-stream : SelectedIsStream F m rule
    selected-is-stream = record { driven = driven-by; under = under-it }
