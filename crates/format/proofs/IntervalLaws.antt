-- The intervals of a header that was read stand in front of the place behind it, and their rows are the header's own list.
use Prim.Native.Nat.{ℕ, zero, suc, ◌+◌, ◌*◌, ◌-◌, ◌≤◌, ◌<◌}
use native.Mathlib.Omega.{arith}
use mathlib.Core.Path.{◌≡◌, refl, ap, subst}
use mathlib.Core.Bool.{Bool, true, false, cond}
use mathlib.Core.List.{List, [], ◌∷◌}
use lib.Dec.{ltb, eqb}
use lib.ListN.{length}
use borrow.Author.Tests.{lt-ltb, le-ltb, ltb-true, ltb-false}
use Rattle.parsing.specs.Parse.{Res, ok, no, and_then, byte, many, Maybe, some, nth}
use Rattle.parsing.specs.Good.{split, ok-val, ok_at, no_ok}
use Rattle.parsing.proofs.Lists.{nth_past}
use Rattle.parsing.proofs.Loops.{many-count}
use Rattle.parsing.proofs.Sized.{Sized, byte-sized, bind-sized, return-sized, many-sized, sized-end}
use Rattle.byte_source.proofs.ByteLaws.{big_endian-sized}
use Rattle.format.specs.Header.{Interval, interval, intervals, front, options, tags, tables, Header, header, signatures, opened}
use Rattle.format.specs.Index.{answer, holds_zoom, sub_file_from, sub_file_for_zoom}
use Rattle.format.specs.IntervalTable.{start_before, row_at, row_holding, rows_signed}
use Rattle.format.proofs.TagLaws.{behind, opened-header}

pub interval-sized : Sized interval 19
unfolding interval
interval-sized =
    bind-sized byte-sized (λ b.
    bind-sized byte-sized (λ l.
    bind-sized byte-sized (λ h. bind-sized (big_endian-sized 8) (λ s. bind-sized (big_endian-sized 8) (λ z. return-sized _)))))

-- so many intervals take 19 bytes each
pub intervals-end : (m : List ℕ) (n i : ℕ) (l : List Interval) (e : ℕ) → many interval n m i ≡ ok l e → e ≡ i + 19 * n
intervals-end m n i l e q = sized-end (many-sized interval-sized n) m i q

-- the rows of a table that holds these intervals
module _ (m : List ℕ) where
  module _ (n at : ℕ) (l : List Interval) (e : ℕ) (q : many interval n m at ≡ ok l e) where
    row_in : (k : ℕ) → k < n → row_at at n k m ≡ answer (nth l k)
    unfolding row_at
    row_in k h =
        let b = behind interval m k n at l e h q in
        rw (lt-ltb k n h, ← intervals-end m k at b.front b.mid b.first, b.second, b.found)

    row-past : (k : ℕ) → n ≤ k → row_at at n k m ≡ answer (nth l k)
    unfolding row_at
    row-past k h = rw (le-ltb k n h, nth_past l k (omega (arith, many-count interval m n at l e q)))

    either : (k : ℕ) (c : Bool) → ltb k n ≡ c → row_at at n k m ≡ answer (nth l k)
    either k true b = row_in k (ltb-true k n b)
    either k false b = row-past k (ltb-false k n b)

    pub row_is : (k : ℕ) → row_at at n k m ≡ answer (nth l k)
    row_is k = either k (ltb k n) refl

  pub holding-is : (zoom k n at : ℕ) (l : List Interval) (e : ℕ) → many interval n m at ≡ ok l e → row_holding zoom k n m at ≡ answer (sub_file_from k l zoom)
  unfolding row_holding
  holding-is zoom k zero at l e q = ap (λ l. answer (sub_file_from k l zoom)) (ok-val q)
  holding-is zoom k (suc n) at l e q =
      let s = split (interval m at) (λ a x. and_then (many interval n m x) (λ l y. ok (a ∷ l) y)) l e q in
      let t = split (many interval n m s.mid) (λ l y. ok (s.val ∷ l) y) l e s.second in
      on s.val s.mid t.val s.first (holding-is zoom (k + 1) n s.mid t.val t.mid t.first) (ok-val t.second)
    where
      tested : (c : Bool) (a b : Maybe ℕ) → cond c (answer a) (answer b) ≡ answer (cond c a b)
      tested true a b = refl
      tested false a b = refl

      on : (z : Interval) (x : ℕ) (zs : List Interval) → interval m at ≡ ok z x → row_holding zoom (k + 1) n m x ≡ answer (sub_file_from (k + 1) zs zoom) → z ∷ zs ≡ l → row_holding zoom k (suc n) m at ≡ answer (sub_file_from k l zoom)
      on z x zs f ih w = rw (f, ih, ← w) (tested (holds_zoom z zoom) (some k) (sub_file_from (k + 1) zs zoom))

  pub signed-are : (n at : ℕ) (l : List Interval) (e : ℕ) → many interval n m at ≡ ok l e → rows_signed n m at ≡ signatures l m
  unfolding rows_signed signatures
  signed-are zero at l e q = rw (← ok-val q)
  signed-are (suc n) at l e q =
      let s = split (interval m at) (λ a x. and_then (many interval n m x) (λ l y. ok (a ∷ l) y)) l e q in
      let t = split (many interval n m s.mid) (λ l y. ok (s.val ∷ l) y) l e s.second in
      on s.val s.mid t.val s.first (signed-are n s.mid t.val t.mid t.first) (ok-val t.second)
    where
      on : (z : Interval) (x : ℕ) (zs : List Interval) → interval m at ≡ ok z x → rows_signed n m x ≡ signatures zs m → z ∷ zs ≡ l → rows_signed (suc n) m at ≡ signatures l m
      on z x zs f ih w = rw (f, ih, ← w)

pub intervals-stand : (m : List ℕ) (h : Header) (e : ℕ) → header m 0 ≡ ok h e → many interval (length h.intervals) m (start_before e (length h.intervals)) ≡ ok h.intervals e
unfolding header tables intervals
intervals-stand m h e q =
    let f = split (front m 0) _ h e q in
    let o = split (options f.val.flags m f.mid) _ h e f.second in
    let p = split (tags m o.mid) _ h e o.second in
    let w = split (tags m p.mid) _ h e p.second in
    let z = split (intervals m w.mid) _ h e w.second in
    let b = split (byte m w.mid) (λ n x. many interval n m x) z.val z.mid z.first in
    kept (eqb f.val.preamble.size 0) _ b.val b.mid z.mid b.second z.second
  where
    kept : (c : Bool) (a : Header) (n x y : ℕ) → many interval n m x ≡ ok a.intervals y → cond c (no 5 []) (ok a y) ≡ ok h e → many interval (length h.intervals) m (start_before e (length h.intervals)) ≡ ok h.intervals e
    kept true a n x y r d = no_ok d
    kept false a n x y r d =
        let k : length a.intervals ≡ n = many-count interval m n x a.intervals y r in
        let s : y - 19 * n ≡ x = omega (arith, intervals-end m n x a.intervals y r) in
        subst (λ (a : Header). many interval (length a.intervals) m (start_before e (length a.intervals)) ≡ ok a.intervals e) (ok-val d) (rw (← ok_at d) (rw (k, s) r))

-- what the rows say of a map that opens
module _ (m : List ℕ) (h : Header) (e : ℕ) (o : opened m ≡ ok h e) where
  pub opened-row : (k : ℕ) → row_at (start_before e (length h.intervals)) (length h.intervals) k m ≡ answer (nth h.intervals k)
  opened-row k = row_is m (length h.intervals) (start_before e (length h.intervals)) h.intervals e (intervals-stand m h e (opened-header m h e o)) k

  pub opened-sub-file : (zoom : ℕ) → row_holding zoom 0 (length h.intervals) m (start_before e (length h.intervals)) ≡ answer (sub_file_for_zoom h.intervals zoom)
  opened-sub-file zoom = holding-is m zoom 0 (length h.intervals) (start_before e (length h.intervals)) h.intervals e (intervals-stand m h e (opened-header m h e o))
