-- A machine that holds the points and ways that remain. The stream of a tile that collects answers as it does (`keeps`), and so does
-- document 01's book (BookLaws.antt).
use mathlib.Core.Path.{◌≡◌, refl}
use mathlib.Core.Bool.{Bool, true, false, cond}
use mathlib.Core.List.{List, [], ◌∷◌}
use Prim.Native.Nat.{ℕ}
use lib.ListN.{length}
use Rattle.parsing.specs.Parse.{Res, ok, no}
use Rattle.arithmetic.specs.Cut.{cut}
use Rattle.format.specs.Index.{answer}
use Rattle.format.specs.Lent.{LentLists, Reply, fits, written, needed, deliver}
use Rattle.agreement.specs.Calls.{Call, next, accept, decline, got_point, got_head, got_body, declined, ended, refused, Step, run, plain, lending}
use Rattle.agreement.specs.Format.{Format, data_end}
use Rattle.agreement.specs.Stream.{StreamAnswer, StreamState, idle, waits, on_body, stream}
use Rattle.agreement.specs.Collected.{Way}
use Rattle.agreement.proofs.Chain.{Chain, stop, link}

-- two machines whose replies agree at related states, and which stay related, reply alike
pub record Alike {A S S' : Type 0} (R : S → S' → Type 0) (x : Step A S) (y : Step A S') : Type 0 where
  pub reply : x.reply ≡ y.reply
  pub left : R x.left y.left

pub simulate : {A S S' : Type 0} (f : S → Call → Step A S) (g : S' → Call → Step A S') (R : S → S' → Type 0)
    → ((s : S) (t : S') (c : Call) → R s t → Alike R (f s c) (g t c))
    → (s : S) (t : S') → R s t → (cs : List Call) → run f s cs ≡ run g t cs
simulate f g R h s t r [] = refl
simulate f g R h s t r (c ∷ cs) =
    let a = h s t c r in
    let ih = simulate f g R h (f s c).left (g t c).left a.left cs in
    rw (a.reply, ih)

-- what is delivered of a decoded way, where c says whether its lists fit
abbrev pub lent_reply : {B : Type 0} → B → (e : ℕ) → (values lent : LentLists) → (c : Bool) → Reply (Res B)
lent_reply b e v l c = cond c (record { answer = ok b e; lists = written v l }) (record { answer = no 15 (needed v); lists = l })

-- two machines that go on from that
pub accept-alike : {A B B' S S' : Type 0} {R : S → S' → Type 0} (f : LentLists → Res B → Step A S) (g : LentLists → Res B' → Step A S') (b : B) (b' : B') (e e' : ℕ) (v l : LentLists)
    → Alike R (f (written v l) (ok b e)) (g (written v l) (ok b' e')) → Alike R (f l (no 15 (needed v))) (g l (no 15 (needed v)))
    → (c : Bool) → Alike R (f (lent_reply b e v l c).lists (lent_reply b e v l c).answer) (g (lent_reply b' e' v l c).lists (lent_reply b' e' v l c).answer)
accept-alike f g b b' e e' v l p q true = p
accept-alike f g b b' e e' v l p q false = q

pub data Remaining (F : Format) : Type 0 where
  between : List F.Point → List (Way F) → F.End → Remaining F
  waiting : Way F → List (Way F) → F.End → Remaining F

abbrev pub on_way : (F : Format) → Way F → List (Way F) → F.End → (left : LentLists) → Res F.Body → Step (StreamAnswer F) (Remaining F)
on_way F w ws z l (ok b e) = lending (got_body (F.whole (F.kept w.head) b)) l (between [] ws (F.note_body (F.whole (F.kept w.head) b) z))
on_way F w ws z l (no n v) = lending (refused n v) l (waiting w ws z)

abbrev pub remaining : (F : Format) → Remaining F → Call → Step (StreamAnswer F) (Remaining F)
remaining F (between (p ∷ ps) ws z) next = plain (got_point p) (between ps ws (F.note_point p z))
remaining F (between [] (w ∷ ws) z) next = plain (got_head w.head) (waiting w ws (F.note_head w.head z))
remaining F (between [] [] z) next = plain (ended z) (between [] [] z)
remaining F (between ps ws z) (accept l) = lending (refused 16 []) l (between ps ws z)
remaining F (between ps ws z) decline = plain (refused 16 []) (between ps ws z)
remaining F (waiting w ws z) next = plain (refused 16 []) (waiting w ws z)
remaining F (waiting w ws z) (accept l) =
    let r = deliver (λ b. b) F.lists (answer w.body) l in
    on_way F w ws z r.lists r.answer
remaining F (waiting w ws z) decline = plain declined (between [] ws z)

-- a way whose body, at b, ends where declining goes
pub record Body (F : Format) (m : List ℕ) (b : ℕ) (w : Way F) : Type 0 where
  pub reads : F.body m b ≡ ok w.body (cut (data_end F w.head))
  pub uncut : cut (data_end F w.head) ≡ data_end F w.head

-- such ways, one behind the other
pub data Ways (F : Format) (m : List ℕ) : ℕ → List (Way F) → Type 0 where
  nil : {i : ℕ} → Ways F m i []
  cons : {i b : ℕ} {w : Way F} {l : List (Way F)} → F.head m i ≡ ok w.head b → Body F m b w
      → Ways F m (cut (data_end F w.head)) l → Ways F m i (w ∷ l)

module _ (F : Format) (m : List ℕ) where
  -- the stream stands where these points and ways remain, and its end answers the same
  pub data Same : StreamState F → Remaining F → Type 0 where
    same-between : (ps : List F.Point) (ws : List (Way F)) (i v e : ℕ) (z : F.End) → Chain F.point m i ps e → Ways F m v ws
        → Same (idle (length ps) (length ws) i v z) (between ps ws z)
    same-waiting : (w : Way F) (ws : List (Way F)) (b : ℕ) (z : F.End) → Body F m b w → Ways F m (cut (data_end F w.head)) ws
        → Same (waits (length ws) (cut (data_end F w.head)) b (F.kept w.head) z) (waiting w ws z)

  pub keeps : (s : StreamState F) (t : Remaining F) (c : Call) → Same s t → Alike Same (stream F m s c) (remaining F t c)
  keeps s t next (same-between (p ∷ ps) ws i v e z (link h c) x) = rw h record { reply = refl; left = same-between ps ws _ v e _ c x }
  keeps s t next (same-between [] (w ∷ ws) i v e z c (cons h b x)) = rw h record { reply = refl; left = same-waiting w ws _ _ b x }
  keeps s t next (same-between [] [] i v e z c x) = record { reply = refl; left = same-between [] [] i v e z c x }
  keeps s t next (same-waiting w ws b z y x) = record { reply = refl; left = same-waiting w ws b z y x }
  keeps s t (accept l) (same-between ps ws i v e z c x) = record { reply = refl; left = same-between ps ws i v e z c x }
  keeps s t (accept l) (same-waiting w ws b z y x) =
      rw y.reads (accept-alike (on_body F.whole F.note_body (length ws) (cut (data_end F w.head)) b (F.kept w.head) z) (on_way F w ws z) w.body w.body _ 0 (F.lists w.body) l
      (record { reply = refl; left = same-between [] ws _ _ _ _ stop x }) (record { reply = refl; left = same-waiting w ws b z y x }) (fits (F.lists w.body) l))
  keeps s t decline (same-between ps ws i v e z c x) = record { reply = refl; left = same-between ps ws i v e z c x }
  keeps s t decline (same-waiting w ws b z y x) = record { reply = refl; left = same-between [] ws _ _ _ z stop x }
