-- A map that opened, by what opening gave: the stored header and the lists that were written; by its fields, the header that `from_source` gives
-- of it, and what the rows of its table say.
use Prim.Native.Nat.{ℕ}
use mathlib.Core.Path.{◌≡◌, refl, sym, ap, ◌∙◌}
use mathlib.Core.Bool.{Bool, true, false}
use mathlib.Core.List.{List}
use lib.ListN.{length}
use Rattle.parsing.specs.Parse.{Res, ok, no, map_res, nth}
use Rattle.parsing.specs.Good.{split, ok-val, ok_at, no_ok}
use Rattle.format.specs.Header.{Header, opened}
use Rattle.format.specs.Index.{answer, sub_file_for_zoom}
use Rattle.format.specs.IntervalTable.{row_at, row_holding}
use Rattle.format.specs.Lent.{Replied}
use Rattle.format.specs.TagLists.{TagLists, tag_lists, lists_fit, lists_written, listing}
use Rattle.format.proofs.IntervalLaws.{opened-row, opened-sub-file}
use Rattle.types.specs.Types.{intervals_of}
use Rattle.types.specs.declared.HeaderFields.{HeaderFields}
use Rattle.types.specs.declared.IntervalTable.{IntervalTable}
use Rattle.zoom_intervals.specs.Rows.{table_before}
use Rattle.header.specs.HeaderView.{map_header}
use Rattle.header.proofs.HeaderLaws.{Stored, intervals-back}
use Rattle.opening.specs.Opening.{listing_as}

-- a header that is delivered was stored, and its lists, for which there was room, are written
pub record Delivered (stored : Res Header) (lent : TagLists) (h : Header) (e : ℕ) : Type 0 where
  pub read : stored ≡ ok h e
  pub fits : lists_fit (tag_lists h) lent ≡ true
  pub lists : (listing stored lent).lists ≡ lists_written (tag_lists h) lent

pub delivered : (stored : Res Header) (lent : TagLists) (h : Header) (e : ℕ) → (listing stored lent).answer ≡ ok h e → Delivered stored lent h e
delivered (no n v) lent h e q = no_ok q
delivered (ok a x) lent h e q = go (lists_fit (tag_lists a) lent) refl
  where
    go : (c : Bool) → lists_fit (tag_lists a) lent ≡ c → Delivered (ok a x) lent h e
    go true k = let z : ok a x ≡ ok h e = rw k at q in let y = ok-val z in record { read = z; fits = rw y at k; lists = rw (k, y) }
    go false k = no_ok (rw k at q)

-- the same of an answer in a view
pub record OpenedWith {A : Type 0} (view : Header → A) (stored : Res Header) (lent : TagLists) (v : A) (e : ℕ) (left : TagLists) : Type 0 where
  pub header : Header
  pub read : stored ≡ ok header e
  pub shown : v ≡ view header
  pub fits : lists_fit (tag_lists header) lent ≡ true
  pub lists : left ≡ lists_written (tag_lists header) lent

pub opened_with : {A : Type 0} (view : Header → A) (stored : Res Header) (lent : TagLists) (v : A) (e : ℕ) (left : TagLists) → ◌≡◌ {A = Replied TagLists (Res A)} (record { answer = ok v e; lists = left }) (listing_as view stored lent) → OpenedWith view stored lent v e left
opened_with {A = A} view stored lent v e left q =
    let s = split (listing stored lent).answer (λ h x. ok (view h) x) v e (sym (ap (λ (r : Replied TagLists (Res A)). r.answer) q)) in
    let d = delivered stored lent s.val s.mid s.first in
    record {
      header = s.val;
      read = d.read ∙ ap (ok s.val) (ok_at s.second);
      shown = sym (ok-val s.second);
      fits = d.fits;
      lists = ap (λ (r : Replied TagLists (Res A)). r.lists) q ∙ d.lists;
    }

module _ (m : List ℕ) (f : HeaderFields) (e : ℕ) (s : Stored (opened m) f e) where
  pub opened-header : ok (map_header s.header) e ≡ map_res map_header (opened m)
  opened-header = ap (map_res map_header) (sym s.read)

  -- by the table that stands in front of the place behind the header
  module _ (t : IntervalTable) (k : t ≡ table_before e f.num_zoom_intervals) where
    abbrev stored : Header
    stored = s.header

    table_is : t ≡ table_before e (length stored.intervals)
    table_is = k ∙ ap (λ (f : HeaderFields). table_before e f.num_zoom_intervals) s.shown

    -- a row is an interval of the header, and none is refused
    pub opened-interval : (i : ℕ) → row_at t.start t.count i m ≡ answer (nth (intervals_of (map_header s.header)) i)
    opened-interval i =
        ap (λ (t : IntervalTable). row_at t.start t.count i m) table_is ∙ opened-row m stored e s.read i
        ∙ ap (λ l. answer (nth l i)) (sym (intervals-back stored))

    pub opened-zoom : (zoom : ℕ) → row_holding zoom 0 t.count m t.start ≡ answer (sub_file_for_zoom (intervals_of (map_header s.header)) zoom)
    opened-zoom zoom =
        ap (λ (t : IntervalTable). row_holding zoom 0 t.count m t.start) table_is ∙ opened-sub-file m stored e s.read zoom
        ∙ ap (λ l. answer (sub_file_for_zoom l zoom)) (sym (intervals-back stored))
