-- In a map of bytes the zooms of each interval are bytes, so that an interval's words are taken as what they were handed out for.
use Prim.Native.Nat.{ℕ, zero, suc, ◌+◌, ◌<◌}
use mathlib.Core.Path.{◌≡◌, sym, ap, subst, ◌∙◌}
use mathlib.Core.Bool.{Bool, true, false, cond}
use mathlib.Core.List.{List, [], ◌∷◌}
use lib.Dec.{ltb, eqb}
use lib.ListN.{length, get_or}
use Rattle.parsing.specs.Parse.{ok, no, and_then, many, byte, Maybe, none, some, nth}
use Rattle.parsing.specs.Good.{split, ok-val, no_ok}
use Rattle.byte_source.specs.BigEndian.{big_endian}
use Rattle.format.specs.Header.{Interval, interval, intervals, Header, header, tables, front, options, tags}

pub record Zooms (z : Interval) : Type 0 where
  pub base : z.base < 256
  pub min : z.min < 256
  pub max : z.max < 256

-- of each interval of a list
pub data AllZooms : List Interval → Type 0 where
  none_left : AllZooms []
  one_more : {z : Interval} {l : List Interval} → Zooms z → AllZooms l → AllZooms (z ∷ l)

pub zooms-at : {l : List Interval} → AllZooms l → (k : ℕ) (z : Interval) → nth l k ≡ some z → Zooms z
zooms-at none_left k z q = absurd (nothing q)
  where
    IsPresent : Maybe Interval → Type 0
    IsPresent none = ⊥
    IsPresent (some x) = Unit {0}

    nothing : none ≡ some z → ⊥
    nothing q = subst IsPresent (sym q) tt
zooms-at (one_more h a) zero z q = subst Zooms (some-val q) h
  where
    value_or : Interval → Maybe Interval → Interval
    value_or d none = d
    value_or d (some x) = x

    some-val : {x y : Interval} → some x ≡ some y → x ≡ y
    some-val {x} q = ap (value_or x) q
zooms-at (one_more h a) (suc k) z q = zooms-at a k z q

module _ (m : List ℕ) (bytes : (j : ℕ) → get_or m j 0 < 256) where
  byte-below : (i a e : ℕ) → byte m i ≡ ok a e → a < 256
  byte-below i a e h = go (ltb i (length m)) h
    where
      go : (c : Bool) → cond c (ok (get_or m i 0) (i + 1)) (no 1 []) ≡ ok a e → a < 256
      go true q = subst (λ (x : ℕ). x < 256) (ok-val q) (bytes i)
      go false q = no_ok q

  interval-zooms : (i : ℕ) (z : Interval) (e : ℕ) → interval m i ≡ ok z e → Zooms z
  unfolding interval
  interval-zooms i z e h =
      let b = split (byte m i) _ z e h in
      let l = split (byte m b.mid) _ z e b.second in
      let t = split (byte m l.mid) _ z e l.second in
      let s = split (big_endian 8 m t.mid) _ z e t.second in
      let n = split (big_endian 8 m s.mid) _ z e s.second in
      subst Zooms (ok-val n.second)
      (record { base = byte-below _ b.val b.mid b.first; min = byte-below _ l.val l.mid l.first; max = byte-below _ t.val t.mid t.first })

  many-zooms : (n i : ℕ) (l : List Interval) (e : ℕ) → many interval n m i ≡ ok l e → AllZooms l
  many-zooms zero i l e h = subst AllZooms (ok-val h) none_left
  many-zooms (suc n) i l e h =
      let s = split (interval m i) (λ a x. and_then (many interval n m x) (λ r y. ok (a ∷ r) y)) l e h in
      let t = split (many interval n m s.mid) (λ r y. ok (s.val ∷ r) y) l e s.second in
      subst AllZooms (ok-val t.second) (one_more (interval-zooms i s.val s.mid s.first) (many-zooms n s.mid t.val t.mid t.first))

  intervals-zooms : (i : ℕ) (l : List Interval) (e : ℕ) → intervals m i ≡ ok l e → AllZooms l
  unfolding intervals
  intervals-zooms i l e h =
      let s = split (byte m i) (λ n x. many interval n m x) l e h in
      many-zooms s.val s.mid l e s.second

  pub header-zooms : (i : ℕ) (h : Header) (e : ℕ) → header m i ≡ ok h e → AllZooms h.intervals
  unfolding header tables
  header-zooms i h e q =
      let f = split (front m i) _ h e q in
      let o = split (options f.val.flags m f.mid) _ h e f.second in
      let p = split (tags m o.mid) _ h e o.second in
      let w = split (tags m p.mid) _ h e p.second in
      let z = split (intervals m w.mid) _ h e w.second in
      kept (eqb f.val.preamble.size 0) _ z.mid (intervals-zooms w.mid z.val z.mid z.first) z.second
    where
      kept : (c : Bool) (a : Header) (x : ℕ) → AllZooms a.intervals → cond c (no 5 []) (ok a x) ≡ ok h e → AllZooms h.intervals
      kept true a x k d = no_ok d
      kept false a x k d = subst (λ (y : Header). AllZooms y.intervals) (ok-val d) k

  -- how many there are is a byte too
  many-length : (n i : ℕ) (l : List Interval) (e : ℕ) → many interval n m i ≡ ok l e → length l ≡ n
  many-length zero i l e h = ap length (sym (ok-val h))
  many-length (suc n) i l e h =
      let s = split (interval m i) (λ a x. and_then (many interval n m x) (λ r y. ok (a ∷ r) y)) l e h in
      let t = split (many interval n m s.mid) (λ r y. ok (s.val ∷ r) y) l e s.second in
      ap length (sym (ok-val t.second)) ∙ ap suc (many-length n s.mid t.val t.mid t.first)

  intervals-few : (i : ℕ) (l : List Interval) (e : ℕ) → intervals m i ≡ ok l e → length l < 256
  unfolding intervals
  intervals-few i l e h =
      let s = split (byte m i) (λ n x. many interval n m x) l e h in
      subst (λ (n : ℕ). n < 256) (sym (many-length s.val s.mid l e s.second)) (byte-below i s.val s.mid s.first)

  pub header-few : (i : ℕ) (h : Header) (e : ℕ) → header m i ≡ ok h e → length h.intervals < 256
  unfolding header tables
  header-few i h e q =
      let f = split (front m i) _ h e q in
      let o = split (options f.val.flags m f.mid) _ h e f.second in
      let p = split (tags m o.mid) _ h e o.second in
      let w = split (tags m p.mid) _ h e p.second in
      let z = split (intervals m w.mid) _ h e w.second in
      kept (eqb f.val.preamble.size 0) _ z.mid (intervals-few w.mid z.val z.mid z.first) z.second
    where
      kept : (c : Bool) (a : Header) (x : ℕ) → length a.intervals < 256 → cond c (no 5 []) (ok a x) ≡ ok h e → length h.intervals < 256
      kept true a x k d = no_ok d
      kept false a x k d = subst (λ (y : Header). length y.intervals < 256) (ok-val d) k
