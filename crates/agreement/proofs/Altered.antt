-- Bytes that lie only in ways declined untried, and in no point up to the zoom, do not matter: call by call.
use mathlib.Core.Path.{◌≡◌, refl, sym}
use mathlib.Core.Bool.{Bool, true, false}
use mathlib.Core.List.{List, [], ◌∷◌, ◌++◌}
use Prim.Native.Nat.{ℕ, ◌≤◌, ◌<◌}
use native.Mathlib.Nat.{le_refl, le_trans}
use native.Mathlib.Omega.{arith}
use lib.ListN.{length, get_or}
use Rattle.parsing.specs.Parse.{ok, Maybe, none, some}
use Rattle.parsing.specs.Good.{Agree, narrow}
use Rattle.arithmetic.specs.Cut.{cut}
use Rattle.format.specs.Lent.{LentLists, fits}
use Rattle.agreement.specs.Calls.{Call, next, accept, decline, Step, run}
use Rattle.agreement.specs.Format.{Format, Laws, data_end}
use Rattle.agreement.specs.Stream.{StreamAnswer, StreamState, idle, waits, stream}
use Rattle.agreement.specs.Collected.{Way}
use Rattle.agreement.specs.Declined.{Bytes, LiesIn, this, later, untried, bytes_added, declined_from}
use Rattle.agreement.proofs.Chain.{Chain, stop, link, forth}
use Rattle.agreement.proofs.Remaining.{Body, Ways, nil, cons}

-- in one part of a list of bytes, or in the other
lies-split : {C : Type 0} {j : ℕ} (x y : List Bytes) → LiesIn j (x ++ y) → (LiesIn j x → C) → (LiesIn j y → C) → C
lies-split [] y h f g = g h
lies-split (s ∷ x) y (this a b) f g = f (this a b)
lies-split (s ∷ x) y (later h) f g = lies-split x y h (λ k. f (later k)) g

pub nowhere : {C : Type 0} {j : ℕ} → LiesIn j [] → C
nowhere h = absurd (none_of h refl)
  where
    none_of : {j : ℕ} {l : List Bytes} → LiesIn j l → l ≡ [] → ⊥
    none_of (this a b) e = let z : ◌≡◌ {A = ℕ} 0 1 = cc in omega arith
    none_of (later h) e = let z : ◌≡◌ {A = ℕ} 0 1 = cc in omega arith

pub single : {f f' t t' j : ℕ} → f ≡ f' → t ≡ t' → LiesIn j (record { from = f; to = t } ∷ []) → (f' ≤ j) × (j < t')
single e d (this a b) = (omega arith, omega arith)
single e d (later h) = nowhere h

module _ (F : Format) (L : Laws F) (m m' : List ℕ) (long : length m ≡ length m') where
  -- points from i on, read alike from both maps
  pub data Points : ℕ → List F.Point → Type 0 where
    no-points : {i : ℕ} → Points i []
    alike-point : {i x : ℕ} {p : F.Point} {ps : List F.Point} → F.point m i ≡ ok p x → F.point m' i ≡ ok p x → Points x ps → Points i (p ∷ ps)

  pub near-points : {i e : ℕ} {ps : List F.Point} → Chain F.point m i ps e → Agree m m' i e → Points i ps
  near-points stop a = no-points
  near-points {i = i} (link {x = y} {a = p} k c) a =
      let g = L.point-good in
      let b = narrow {t' = y} (le_refl i) (forth g c) a in
      alike-point k (g.near m m' i p y b k) (near-points c (narrow (g.forth m i p y k) (le_refl _) a))

  -- a state of the stream of a tile that collects; the way declined next, if it is untried; a place behind which only declined bytes
  -- were altered, and one before which none lies
  pub data Sound : StreamState F → Maybe F.Head → (low high : ℕ) → Type 0 where
    s-idle : {i v : ℕ} {z : F.End} {ps : List F.Point} {ws : List (Way F)} → Points i ps → Ways F m v ws
        → Sound (idle (length ps) (length ws) i v z) none v v
    s-untried : {b : ℕ} {z : F.End} {w : Way F} {ws : List (Way F)} → F.behind w.head ≡ b → Body F m b w → Ways F m (cut (data_end F w.head)) ws
        → Sound (waits (length ws) (cut (data_end F w.head)) b (F.kept w.head) z) (some w.head) b b
    s-tried : {b : ℕ} {z : F.End} {w : Way F} {ws : List (Way F)} → Body F m b w → Ways F m (cut (data_end F w.head)) ws
        → Sound (waits (length ws) (cut (data_end F w.head)) b (F.kept w.head) z) none b (cut (data_end F w.head))

  -- what one call does to that, and what it needs to be answered alike from both maps
  record Onward (s : StreamState F) (w : Maybe F.Head) (lo hi : ℕ) (c : Call) (st : Step (StreamAnswer F) (StreamState F)) : Type 0 where
    low : ℕ
    high : ℕ
    lows : lo ≤ low
    highs : hi ≤ high
    sound : Sound st.left (untried w c st.reply.answer) low high
    declined : (j : ℕ) → LiesIn j (bytes_added F w c) → (hi ≤ j) × (j < low)
    reads : ((j : ℕ) → lo ≤ j → j < high → (LiesIn j (bytes_added F w c) → ⊥) → get_or m j 0 ≡ get_or m' j 0) → stream F m' s c ≡ st

  -- a call that reads nothing and leaves the state
  stays : {s : StreamState F} {w : Maybe F.Head} {lo hi : ℕ} {c : Call} {st : Step (StreamAnswer F) (StreamState F)} → Sound st.left (untried w c st.reply.answer) lo hi
      → ((j : ℕ) → LiesIn j (bytes_added F w c) → ⊥) → stream F m' s c ≡ st → Onward s w lo hi c st
  stays g d r = record {
    low = _;
    high = _;
    lows = le_refl _;
    highs = le_refl _;
    sound = g;
    declined = λ j k. absurd (d j k);
    reads = λ _. r;
  }

  -- accept reads the body, whether or not the lists fit
  accepts : {w : Maybe F.Head} {hi b : ℕ} {z : F.End} (y : Way F) (ws : List (Way F)) (l : LentLists) → hi ≤ cut (data_end F y.head) → Body F m b y → Ways F m (cut (data_end F y.head)) ws
      → (c : Bool) → fits (F.lists y.body) l ≡ c
      → Onward (waits (length ws) (cut (data_end F y.head)) b (F.kept y.head) z) w b hi (accept l) (stream F m (waits (length ws) (cut (data_end F y.head)) b (F.kept y.head) z) (accept l))
  accepts {b = b} y ws l up d x true e =
      let f = L.body-good.forth m b y.body (cut (data_end F y.head)) d.reads in
      rw (d.reads, e) record {
        low = cut (data_end F y.head);
        high = cut (data_end F y.head);
        lows = f;
        highs = up;
        sound = s-idle no-points x;
        declined = λ j k. nowhere k;
        reads = λ g. rw (L.body-good.near m m' b y.body _ (record { long = long; same = λ j p q. g j p q nowhere }) d.reads, e);
      }
  accepts {b = b} y ws l up d x false e =
      rw (d.reads, e) record {
        low = b;
        high = cut (data_end F y.head);
        lows = le_refl _;
        highs = up;
        sound = s-tried d x;
        declined = λ j k. nowhere k;
        reads = λ g. rw (L.body-good.near m m' b y.body _ (record { long = long; same = λ j p q. g j p q nowhere }) d.reads, e);
      }

  onward : (s : StreamState F) (w : Maybe F.Head) (lo hi : ℕ) (c : Call) → Sound s w lo hi → Onward s w lo hi c (stream F m s c)
  onward s u lo hi next (s-idle (alike-point h h' y) x) =
      rw h record {
        low = lo;
        high = lo;
        lows = le_refl lo;
        highs = le_refl lo;
        sound = s-idle y x;
        declined = λ j q. nowhere q;
        reads = λ _. rw h';
      }
  onward s u lo hi next (s-idle {i = i} {v = v} no-points (cons {b = b} {w = w} h d x)) =
      let f = L.head-good.forth m v w.head b h in
      rw h record {
        low = b;
        high = b;
        lows = f;
        highs = f;
        sound = s-untried (L.head_post.holds m v w.head b h).1 d x;
        declined = λ j q. nowhere q;
        reads = λ g. rw (L.head-good.near m m' v w.head b (record { long = long; same = λ j p q. g j p q nowhere }) h);
      }
  onward s u lo hi next (s-idle no-points nil) = stays (s-idle no-points nil) (λ j q. nowhere q) refl
  onward s u lo hi next (s-untried e d x) = stays (s-untried e d x) (λ j q. nowhere q) refl
  onward s u lo hi next (s-tried d x) = stays (s-tried d x) (λ j q. nowhere q) refl
  onward s u lo hi (accept l) (s-idle y x) = stays (s-idle y x) (λ j q. nowhere q) refl
  onward s u lo hi (accept l) (s-untried {b = b} {w = w} {ws = ws} e d x) =
      accepts w ws l (L.body-good.forth m b w.body _ d.reads) d x (fits (F.lists w.body) l) refl
  onward s u lo hi (accept l) (s-tried {w = w} {ws = ws} d x) = accepts w ws l (le_refl _) d x (fits (F.lists w.body) l) refl
  onward s u lo hi decline (s-idle y x) = stays (s-idle y x) (λ j q. nowhere q) refl
  onward s u lo hi decline (s-untried {b = b} {w = w} e d x) =
      let f = L.body-good.forth m b w.body (cut (data_end F w.head)) d.reads in
      record {
        low = cut (data_end F w.head);
        high = cut (data_end F w.head);
        lows = f;
        highs = f;
        sound = s-idle no-points x;
        declined = λ j q. single e (sym d.uncut) q;
        reads = λ _. refl;
      }
  onward s u lo hi decline (s-tried {b = b} {w = w} d x) =
      let f = L.body-good.forth m b w.body (cut (data_end F w.head)) d.reads in
      record {
        low = cut (data_end F w.head);
        high = cut (data_end F w.head);
        lows = f;
        highs = le_refl _;
        sound = s-idle no-points x;
        declined = λ j q. nowhere q;
        reads = λ _. refl;
      }

  -- no declined byte lies before the second place
  pub above : (cs : List Call) (s : StreamState F) (w : Maybe F.Head) (lo hi : ℕ) → Sound s w lo hi
      → (j : ℕ) → LiesIn j (declined_from F w cs (run (stream F m) s cs)) → hi ≤ j
  above [] s w lo hi g j h = nowhere h
  above (c ∷ cs) s w lo hi g j h =
      let o = onward s w lo hi c g in
      lies-split (bytes_added F w c) (declined_from F (untried w c (stream F m s c).reply.answer) cs (run (stream F m) (stream F m s c).left cs)) h
      (λ k. (o.declined j k).0)
      (λ k. le_trans o.highs (above cs _ _ _ _ o.sound j k))

  -- altered only there: the same replies
  pub alike : (cs : List Call) (s : StreamState F) (w : Maybe F.Head) (lo hi : ℕ) → Sound s w lo hi
      → ((j : ℕ) → lo ≤ j → (LiesIn j (declined_from F w cs (run (stream F m) s cs)) → ⊥) → get_or m j 0 ≡ get_or m' j 0)
      → run (stream F m') s cs ≡ run (stream F m) s cs
  alike [] s w lo hi g d = refl
  alike (c ∷ cs) s w lo hi g d =
      let o = onward s w lo hi c g in
      let r = declined_from F (untried w c (stream F m s c).reply.answer) cs (run (stream F m) (stream F m s c).left cs) in
      let e : stream F m' s c ≡ stream F m s c =
      o.reads
      (λ j p q k. d j p (λ y. lies-split (bytes_added F w c) r y k (λ i. let u = above cs _ _ _ _ o.sound j i in omega arith))) in
      let h =
      alike cs _ _ _ _ o.sound
      (λ j p k. d j (le_trans o.lows p) (λ y. lies-split (bytes_added F w c) r y (λ i. let u = o.declined j i in omega arith) k)) in
      rw (e, h)
