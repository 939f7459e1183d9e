-- The signatures of the sub files, row by row, and what opening makes of a header.
use Prim.Native.Nat.{ℕ, suc, ◌+◌, ◌/◌, ◌%◌, ◌-◌, ◌≤◌, ◌<◌}
use native.Mathlib.Nat.{sub-zero}
use native.Mathlib.Omega.{arith}
use mathlib.Core.Path.{◌≡◌, refl, sym, ap, ◌∙◌}
use mathlib.Core.Bool.{Bool, true, false, cond}
use mathlib.Core.List.{List, []}
use lib.ListN.{length}
use borrow.Author.Tests.{eq-eqb, ne_eqb}
use Rattle.parsing.specs.Parse.{Res, ok, no, and_then, map_res, chunk, Part, part}
use Rattle.parsing.specs.Good.{no_ok}
use Rattle.parsing.proofs.Steps.{then-then}
use Rattle.error.specs.Refusals.{refused}
use Rattle.error.specs.declared.Refusal.{Refusal}
use Rattle.byte_source.proofs.ReadLaws.{reads, went-on, refused-on, view-refused}
use Rattle.format.specs.Header.{same, index_signature, debug, interval, signature, signatures, header, opened}
use Rattle.format.specs.Index.{answer, answered}
use Rattle.format.specs.IntervalTable.{start_before, rows_signed}
use Rattle.format.proofs.IntervalLaws.{signed-are, intervals-stand}
use Rattle.format.proofs.TagLaws.{opened-header}
use Rattle.index.proofs.AnswerLaws.{answer-up}
use Rattle.types.specs.Types.{interval_of}
use Rattle.types.specs.declared.HeaderFields.{HeaderFields}
use Rattle.types.specs.declared.IntervalTable.{IntervalTable}
use Rattle.types.specs.declared.MapHeader.{MapHeader}
use Rattle.types.specs.declared.ZoomInterval.{ZoomInterval}
use Rattle.header_fields.proofs.FieldLaws.{chunk-on, chunk-refused}
use Rattle.zoom_intervals.specs.Rows.{table_before}
use Rattle.header.specs.HeaderView.{header_fields, map_header, whole}
use Rattle.header.proofs.HeaderLaws.{Stored, fields-stored, whole_read}

-- a sub file's signature, by the bytes that were read
module _ (m : List ℕ) (at : ℕ) where
  abbrev told : List ℕ → ℕ → Res Unit
  told s e = cond (same s index_signature) (ok tt e) (no 6 [])

  pub signature-lost : (e : Refusal) → refused e ≡ part 16 m at → refused e ≡ answered (signature m at)
  unfolding signature
  signature-lost e q = then-then (chunk 16 m at) told (λ a _. answer a) (refused e) (chunk-refused m 16 at e (λ s e. and_then (told s e) (λ a _. answer a)) q)

  module _ (v : Part) (n : ℕ) (q : ok v n ≡ part 16 m at) (l : List ℕ) (r : Bool) (h : l ≡ v.bytes) (i : r ≡ same l index_signature) where
    by-bytes : (x : Res Unit) → x ≡ and_then (told v.bytes n) (λ a _. answer a) → x ≡ answered (signature m at)
    unfolding signature
    by-bytes x p = then-then (chunk 16 m at) told (λ a _. answer a) x (chunk-on m 16 at v n (λ s e. and_then (told s e) (λ a _. answer a)) x q p)

    pub signature-held : r ≡ true → ok tt 0 ≡ answered (signature m at)
    signature-held d = let z : same v.bytes index_signature ≡ true = rw h at (sym i ∙ d) in by-bytes (ok tt 0) (rw z)

    pub signature-other : r ≡ false → no 6 [] ≡ answered (signature m at)
    signature-other d = let z : same v.bytes index_signature ≡ false = rw h at (sym i ∙ d) in by-bytes (no 6 []) (rw z)

-- a signature whose place is not told, in a definition that goes on from it
passed-on : (r f : Res Unit) → ok tt 0 ≡ answered r → f ≡ and_then r (λ _ _. f)
passed-on (ok a e) f q = refl
passed-on (no n v) f q = no_ok (sym q)

stopped-on : (e : Refusal) (r f : Res Unit) → refused e ≡ answered r → refused e ≡ and_then r (λ _ _. f)
stopped-on e (ok a n) f q = no_ok q
stopped-on e (no n v) f q = q

-- the loop over rows: what those from number i on say is what all say
pub signed_all : (m : List ℕ) (n at : ℕ) → rows_signed (n - 0) m at ≡ rows_signed n m at
signed_all m n at = ap (λ k. rows_signed k m at) (sub-zero n)

module _ (m : List ℕ) (i n at : ℕ) (whole : Res Unit) (e : rows_signed (n - i) m at ≡ whole) where
  pub signed-done : n ≤ i → ok tt 0 ≡ whole
  unfolding rows_signed
  signed-done h = let z : n - i ≡ 0 = omega arith in rw z at e

  first : i < n → and_then (interval m at) (λ z x. and_then (signature m z.start) (λ _ _. rows_signed (n - (i + 1)) m x)) ≡ whole
  unfolding rows_signed
  first h = let z : n - i ≡ suc (n - (i + 1)) = omega arith in rw z at e

  pub signed-lost : (x : Refusal) → i < n → refused x ≡ interval m at → refused x ≡ whole
  signed-lost x b q = refused-on x (interval m at) _ q ∙ first b

  module _ (z : ZoomInterval) (k : ℕ) (b : i < n) (q : ok (interval_of z) k ≡ interval m at) where
    pub signed_no : (x : Refusal) → refused x ≡ answered (signature m z.sub_file_start) → refused x ≡ whole
    signed_no x t = went-on _ k (interval m at) _ (refused x) q (stopped-on x _ _ t) ∙ first b

    pub signed-more : ok tt 0 ≡ answered (signature m z.sub_file_start) → rows_signed (n - (i + 1)) m k ≡ whole
    signed-more t = went-on _ k (interval m at) _ (rows_signed (n - (i + 1)) m k) q (passed-on _ _ t) ∙ first b

pub ruleset signs = (reads, answer-up, signed_all, signed-done, signed-lost, signed_no, signed-more)

-- a header that was read, by its debug flag and its signatures
pub open_no : (m : List ℕ) (e : Refusal) → refused e ≡ map_res header_fields (header m 0) → refused e ≡ map_res header_fields (opened m)
unfolding opened
open_no m e q = then-then (header m 0) _ _ _ (view-refused header_fields e (header m 0) _ q)

module _ (m : List ℕ) (f : HeaderFields) (n : ℕ) (q : ok f n ≡ map_res header_fields (header m 0)) where
  stored : Stored (header m 0) f n
  stored = fields-stored (header m 0) f n q

  flags-are : f.flags ≡ stored.header.front.flags
  flags-are = ap (λ (f : HeaderFields). f.flags) stored.shown

  pub open_plain : (f.flags / 128 % 2 ≡ 1 → ⊥) → ok f n ≡ map_res header_fields (opened m)
  unfolding opened
  open_plain c =
      let h : debug stored.header ≡ false = ne_eqb (stored.header.front.flags / 128 % 2) 1 (λ z. c (rw flags-are z)) in
      rw (stored.read, h) (ap (λ (f : HeaderFields). ok f n) stored.shown)

  -- by the table in front of the place behind the header
  module _ (t : IntervalTable) (k : t ≡ table_before n f.num_zoom_intervals) (c : f.flags / 128 % 2 ≡ 1) where
    signed : rows_signed t.count m t.start ≡ signatures stored.header.intervals m
    signed =
        let l = stored.header.intervals in
        ap (λ (t : IntervalTable). rows_signed t.count m t.start) (k ∙ ap (λ (f : HeaderFields). table_before n f.num_zoom_intervals) stored.shown)
        ∙ signed-are m (length l) (start_before n (length l)) l n (intervals-stand m stored.header n stored.read)

    flagged : debug stored.header ≡ true
    flagged = eq-eqb (stored.header.front.flags / 128 % 2) 1 (rw flags-are at c)

    pub open-signed : ok tt 0 ≡ rows_signed t.count m t.start → ok f n ≡ map_res header_fields (opened m)
    unfolding opened
    open-signed r = rw (stored.read, flagged, ← (r ∙ signed)) (ap (λ (f : HeaderFields). ok f n) stored.shown)

    pub open-bad : (e : Refusal) → refused e ≡ rows_signed t.count m t.start → refused e ≡ map_res header_fields (opened m)
    unfolding opened
    open-bad e r = rw (stored.read, flagged, ← (r ∙ signed))

-- with its intervals
pub source-is : (m : List ℕ) (g : Res HeaderFields) (x : Res MapHeader) → g ≡ map_res header_fields (opened m) → x ≡ and_then g (whole m) → x ≡ map_res map_header (opened m)
source-is m g x q p = whole_read m (opened m) g x (λ h e z. opened-header m h e z) q p

pub ruleset opens = (signs, open_no, open_plain, open-signed, open-bad)
