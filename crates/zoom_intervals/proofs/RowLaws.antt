-- Rows of intervals: a row that is whole in the map, rows that are passed over, row k of a table, and the first that holds a zoom.
use Prim.Native.Nat.{ℕ, suc, ◌+◌, ◌*◌, ◌-◌, ◌^◌, ◌≤◌, ◌<◌}
use native.Mathlib.Nat.{sub-zero}
use native.Mathlib.Omega.{arith}
use mathlib.Core.Path.{◌≡◌, refl, sym, ap, ◌∙◌}
use mathlib.Core.Bool.{Bool, true, false, cond}
use mathlib.Core.List.{List, []}
use lib.Dec.{lit≤}
use lib.ListN.{length, get_or}
use Rattle.parsing.specs.Parse.{Res, ok, no, Part, and_then, map_res, passed, many, Maybe, none, some, part}
use Rattle.parsing.specs.Good.{ok_at, no_ok}
use Rattle.parsing.proofs.Ends.{PastEnd, bind-end, byte-end}
use Rattle.parsing.proofs.Loops.{many-count}
use Rattle.parsing.proofs.Sized.{many-sized, part-sized, sized-whole, sized-short}
use Rattle.parsing.proofs.Steps.{byte-here}
use Rattle.error.specs.Refusals.{refused}
use Rattle.error.specs.declared.Refusal.{Refusal}
use Rattle.arithmetic.specs.Cut.{cut}
use Rattle.arithmetic.proofs.CutLaws.{at_cut}
use Rattle.byte_source.specs.BigEndian.{big_endian}
use Rattle.byte_source.proofs.ByteLaws.{big_endian-sized}
use Rattle.byte_source.proofs.ReadLaws.{reads, went-on, refused-on}
use Rattle.format.specs.Header.{Interval, interval}
use Rattle.format.specs.Index.{answer, holds_zoom}
use Rattle.format.specs.IntervalTable.{row_holding}
use Rattle.format.proofs.IntervalLaws.{interval-sized}
use Rattle.types.specs.Types.{interval_of}
use Rattle.types.specs.declared.ZoomInterval.{ZoomInterval}
use Rattle.index.proofs.AnswerLaws.{answer-up}

-- a number of a row
module _ (m : List ℕ) (at n : ℕ) (h : at + 8 ≤ length m) where
  pub number-held : (k : ℕ) → ok n k ≡ big_endian 8 m at → ok n (at + 8) ≡ big_endian 8 m at
  number-held k q =
      let e : k ≡ at + 8 = ok_at (ap passed q ∙ sized-whole (big_endian-sized 8) m at h) in
      ap (ok n) (sym e) ∙ q

  pub number-lost : (e : Refusal) → refused e ≡ big_endian 8 m at → ok n (at + 8) ≡ big_endian 8 m at
  number-lost e q = no_ok (ap passed q ∙ sized-whole (big_endian-sized 8) m at h)

-- a row
module _ (m : List ℕ) (at : ℕ) where
  pub row-whole : (s z : ℕ) → at + 19 ≤ length m → ok s (at + 3 + 8) ≡ big_endian 8 m (at + 3) → ok z (at + 11 + 8) ≡ big_endian 8 m (at + 11) → ◌≡◌ {A = Res Interval} (ok (record { base = get_or m at 0; min = get_or m (at + 1) 0; max = get_or m (at + 2) 0; start = s; size = z }) (at + 19)) (interval m at)
  unfolding interval
  row-whole s z h p q =
      let a : at + 1 + 1 ≡ at + 2 = omega arith in
      let b : at + 2 + 1 ≡ at + 3 = omega arith in
      let c : at + 3 + 8 ≡ at + 11 = omega arith in
      let d : at + 11 + 8 ≡ at + 19 = omega arith in
      rw (byte-here m at (omega arith), byte-here m (at + 1) (omega arith), a, byte-here m (at + 2) (omega arith), b, ← p, c, ← q, d)

  pub row-behind : length m < at → no 1 [] ≡ interval m at
  row-behind h = sized-short interval-sized m at (lit≤ tt) (omega arith)

  pub row-past : at ≤ length m → length m - at < 19 → no 1 [] ≡ interval m at
  row-past h k = sized-short interval-sized m at (lit≤ tt) (omega arith)

-- rows that are passed over as so many bytes
module _ (m : List ℕ) (n at : ℕ) where
  as_bytes : passed (many interval n m at) ≡ passed (part (19 * n) m at)
  as_bytes = (many-sized interval-sized n).passes m at ∙ sym ((part-sized (19 * n)).passes m at)

  pub passed_ok : (s : Part) (e : ℕ) → ok s e ≡ part (19 * n) m at → ok n e ≡ map_res length (many interval n m at)
  passed_ok s e q = go (many interval n m at) refl (as_bytes ∙ ap passed (sym q))
    where
      go : (r : Res (List Interval)) → many interval n m at ≡ r → passed r ≡ ok tt e → ok n e ≡ map_res length r
      go (ok l x) f z = rw (many-count interval m n at l x f, ok_at z)
      go (no k v) f z = no_ok z

  pub passed-no : (e : Refusal) → refused e ≡ part (19 * n) m at → refused e ≡ map_res length (many interval n m at)
  passed-no e q = go (many interval n m at) (as_bytes ∙ ap passed (sym q))
    where
      go : (r : Res (List Interval)) → passed r ≡ refused e → refused e ≡ map_res length r
      go (ok l x) z = no_ok (sym z)
      go (no k v) z = cc

interval-end : PastEnd interval
unfolding interval
interval-end = bind-end _ byte-end

-- row k, at a place that the code holds cut
pub row_cut : {B : Type 0} (m : List ℕ) (place at : ℕ) (f : Interval → ℕ → Res B) (x : Res B) → length m < 2 ^ 64 → at ≡ cut place → x ≡ and_then (interval m at) f → x ≡ and_then (interval m place) f
row_cut m place at f x l h e = e ∙ ap (λ r. and_then r f) (ap (interval m) h ∙ at_cut interval-end m place l)

-- the loop over rows: what those from number i on say is what all say
pub holding-all : (m : List ℕ) (zoom n at : ℕ) → row_holding zoom 0 (n - 0) m at ≡ row_holding zoom 0 n m at
holding-all m zoom n at = ap (λ k. row_holding zoom 0 k m at) (sub-zero n)

module _ (m : List ℕ) (zoom i n at : ℕ) (whole : Res (Maybe ℕ)) (e : row_holding zoom i (n - i) m at ≡ whole) where
  pub holding-none : n ≤ i → answer none ≡ whole
  unfolding row_holding
  holding-none h = let z : n - i ≡ 0 = omega arith in rw z at e

  first : i < n → and_then (interval m at) (λ z x. cond (holds_zoom z zoom) (answer (some i)) (row_holding zoom (i + 1) (n - (i + 1)) m x)) ≡ whole
  unfolding row_holding
  first h = let z : n - i ≡ suc (n - (i + 1)) = omega arith in rw z at e

  pub holding-no : (x : Refusal) → i < n → refused x ≡ interval m at → refused x ≡ whole
  holding-no x b q = refused-on x (interval m at) _ q ∙ first b

  module _ (z : ZoomInterval) (k : ℕ) (q : ok (interval_of z) k ≡ interval m at) (t : Bool) (b : i < n) (p : t ≡ holds_zoom (interval_of z) zoom) where
    pub holding-here : t ≡ true → answer (some i) ≡ whole
    holding-here d = went-on _ k (interval m at) _ (answer (some i)) q (rw (← p, d)) ∙ first b

    pub holding-next : t ≡ false → row_holding zoom (i + 1) (n - (i + 1)) m k ≡ whole
    holding-next d = went-on _ k (interval m at) _ (row_holding zoom (i + 1) (n - (i + 1)) m k) q (rw (← p, d)) ∙ first b

pub ruleset rows = (reads, number-held, number-lost, row-whole, row-behind, row-past, passed_ok, passed-no, row_cut, answer-up, holding-all, holding-none, holding-no, holding-here, holding-next)
