-- For a header that was read, `tag_text` gives the header's own list of tag names, name by name; and where its tables stand.
use Prim.Native.Nat.{ℕ, zero, suc, ◌+◌, ◌≤◌, ◌<◌, ◌^◌}
use native.Mathlib.Omega.{arith}
use mathlib.Core.Path.{◌≡◌, refl, sym, ap, ◌∙◌, subst}
use mathlib.Core.Bool.{Bool, true, false, cond}
use mathlib.Core.List.{List, [], ◌∷◌}
use lib.Dec.{leb, ltb, eqb}
use lib.ListN.{length, take, drop}
use borrow.Author.Tests.{lt-ltb, le-ltb, ltb-true, ltb-false}
use Rattle.parsing.specs.Parse.{ok, no, Parser, and_then, many, chunk, Part, part, some, nth}
use Rattle.parsing.specs.Good.{split, ok-val, ok_at, no_ok}
use Rattle.parsing.proofs.Loops.{many-count}
use Rattle.byte_source.specs.BigEndian.{big_endian, big_endian-good}
use Rattle.utils.specs.Vbe.{unsigned, text}
use Rattle.utils.proofs.VbeLaws.{text-is}
use Rattle.parsing.proofs.Lists.{nth_past}
use Rattle.format.specs.Header.{Header, Tags, tags, front, options, intervals, intervals-good, tables, header, debug, signatures, opened}
use Rattle.format.specs.TagTable.{table_of, tag_text, named}

-- value k of n values, read again behind the k values in front of it
pub record Behind {A : Type 0} (p : Parser A) (k : ℕ) (m : List ℕ) (i : ℕ) (l : List A) : Type 0 where
  pub front : List A
  pub val : A
  pub mid : ℕ
  pub end : ℕ
  pub first : many p k m i ≡ ok front mid
  pub second : p m mid ≡ ok val end
  pub found : nth l k ≡ some val

module _ {A : Type 0} (p : Parser A) (m : List ℕ) where
  one_more : (k i x y : ℕ) (a : A) (l : List A) → p m i ≡ ok a x → many p k m x ≡ ok l y → many p (suc k) m i ≡ ok (a ∷ l) y
  one_more k i x y a l h g = rw (h, g)

  pub behind : (k n i : ℕ) (l : List A) (e : ℕ) → k < n → many p n m i ≡ ok l e → Behind p k m i l
  behind k zero i l e b h = absurd (omega arith)
  behind zero (suc n) i l e b h =
      let s = split (p m i) (λ a x. and_then (many p n m x) (λ l y. ok (a ∷ l) y)) l e h in
      let t = split (many p n m s.mid) (λ l y. ok (s.val ∷ l) y) l e s.second in
      subst (λ (l : List A). Behind p zero m i l) (ok-val t.second) (record {
        front = [];
        val = s.val;
        mid = i;
        end = s.mid;
        first = refl;
        second = s.first;
        found = refl;
      })
  behind (suc k) (suc n) i l e b h =
      let s = split (p m i) (λ a x. and_then (many p n m x) (λ l y. ok (a ∷ l) y)) l e h in
      let t = split (many p n m s.mid) (λ l y. ok (s.val ∷ l) y) l e s.second in
      let r = behind k n s.mid t.val t.mid (omega arith) t.first in
      subst (λ (l : List A). Behind p (suc k) m i l) (ok-val t.second) (record {
        front = s.val ∷ r.front;
        val = r.val;
        mid = r.mid;
        end = r.end;
        first = one_more k i s.mid r.mid s.val r.front s.first r.first;
        second = r.second;
        found = r.found;
      })

-- a text ends behind its bytes
cond-end : {A : Type 0} (c : Bool) (a b : A) (x e : ℕ) → cond c (ok a x) (no 1 []) ≡ ok b e → e ≡ x
cond-end true a b x e h = sym (ok_at h)
cond-end false a b x e h = no_ok h

chunk_end : (n : ℕ) (m : List ℕ) (i : ℕ) (b : List ℕ) (e : ℕ) → chunk n m i ≡ ok b e → e ≡ i + n
chunk_end zero m i b e h = let z : i ≡ e = ok_at h in omega arith
chunk_end (suc n) m i b e h = cond-end (leb (i + suc n) (length m)) (take (suc n) (drop i m)) b (i + suc n) e h

part_end : (n : ℕ) (m : List ℕ) (i : ℕ) (p : Part) (e : ℕ) → part n m i ≡ ok p e → e ≡ p.start + p.size
unfolding part
part_end n m i p e h =
    let s = split (chunk n m i) (λ b x. ok (record { start = i; size = n; bytes = b }) x) p e h in
    subst (λ (p : Part). e ≡ p.start + p.size) (ok-val s.second)
    (sym (ok_at s.second) ∙ chunk_end n m i s.val s.mid s.first)

pub text-end : (m : List ℕ) (i : ℕ) (p : Part) (e : ℕ) → text m i ≡ ok p e → e ≡ p.start + p.size
text-end m i p e h =
    let s = split (unsigned m i) (λ n x. cond (leb n (2 ^ 20)) (part n m x) (no 9 [])) p e (sym (text-is m i) ∙ h) in
    kept (leb s.val (2 ^ 20)) s.val s.mid s.second
  where
    kept : (c : Bool) (n x : ℕ) → cond c (part n m x) (no 9 []) ≡ ok p e → e ≡ p.start + p.size
    kept true n x h = part_end n m x p e h
    kept false n x h = no_ok h

-- the texts of a table that was read from a place up to another
pub record Listed (m : List ℕ) (t : Tags) (from end : ℕ) : Type 0 where
  pub list : many text (length t.texts) m t.start ≡ ok t.texts end
  pub behind : from ≤ t.start

listed : (m : List ℕ) (i : ℕ) (t : Tags) (e : ℕ) → tags m i ≡ ok t e → Listed m t i e
unfolding tags
listed m i t e h =
    let s = split (big_endian 2 m i) (λ n x. and_then (many text n m x) (λ l y. ok (record { start = x; texts = l }) y)) t e h in
    let r = split (many text s.val m s.mid) (λ l y. ok (record { start = s.mid; texts = l }) y) t e s.second in
    subst (λ (t : Tags). Listed m t i e) (ok-val r.second)
    (record {
      list = counted s.val s.mid r.val r.mid r.first ∙ ap (ok r.val) (ok_at r.second);
      behind = (big_endian-good 2).forth m i s.val s.mid s.first;
    })
  where
    counted : (n x : ℕ) (l : List Part) (y : ℕ) → many text n m x ≡ ok l y → many text (length l) m x ≡ ok l y
    counted n x l y h = rw (many-count text m n x l y h) h

module _ (m : List ℕ) (t : Tags) (from end : ℕ) (d : Listed m t from end) (k : ℕ) where
  in_table : k < length t.texts → tag_text (table_of t) k m ≡ named k (nth t.texts k)
  unfolding tag_text
  in_table h =
      let b = behind text m k (length t.texts) t.start t.texts end h d.list in
      rw (lt-ltb k (length t.texts) h, b.first, b.second, b.found, text-end m b.mid b.val b.end b.second)

  not-in-table : length t.texts ≤ k → tag_text (table_of t) k m ≡ named k (nth t.texts k)
  unfolding tag_text
  not-in-table h = rw (le-ltb k (length t.texts) h, nth_past t.texts k h)

  either : (c : Bool) → ltb k (length t.texts) ≡ c → tag_text (table_of t) k m ≡ named k (nth t.texts k)
  either true b = in_table (ltb-true k (length t.texts) b)
  either false b = not-in-table (ltb-false k (length t.texts) b)

  -- the tag name of an id is that element of the list that was read
  pub tag-text : tag_text (table_of t) k m ≡ named k (nth t.texts k)
  tag-text = either (ltb k (length t.texts)) refl

-- both tables of a header, one behind the other, and in the map
pub record HeaderTags (m : List ℕ) (h : Header) (e : ℕ) : Type 0 where
  pub from : ℕ
  pub mid : ℕ
  pub end : ℕ
  pub poi : Listed m h.poi_tags from mid
  pub way : Listed m h.way_tags mid end
  pub inside : end ≤ e

pub header-listed : (m : List ℕ) (i : ℕ) (h : Header) (e : ℕ) → header m i ≡ ok h e → HeaderTags m h e
unfolding header tables
header-listed m i h e q =
    let f = split (front m i) _ h e q in
    let o = split (options f.val.flags m f.mid) _ h e f.second in
    let p = split (tags m o.mid) _ h e o.second in
    let w = split (tags m p.mid) _ h e p.second in
    let z = split (intervals m w.mid) _ h e w.second in
    let g = kept (eqb f.val.preamble.size 0) _ z.mid z.second in
    let n = intervals-good.forth m w.mid z.val z.mid z.first in
    subst (λ (h : Header). HeaderTags m h e) g.0
    (record {
      from = o.mid;
      mid = p.mid;
      end = w.mid;
      poi = listed m o.mid p.val p.mid p.first;
      way = listed m p.mid w.val w.mid w.first;
      inside = omega (arith, g.1);
    })
  where
    kept : (c : Bool) (a : Header) (x : ℕ) → cond c (no 5 []) (ok a x) ≡ ok h e → (a ≡ h) × (x ≡ e)
    kept true a x d = no_ok d
    kept false a x d = (ok-val d, ok_at d)

-- their tag names
pub record TagNames (m : List ℕ) (h : Header) : Type 0 where
  pub poi : (k : ℕ) → tag_text (table_of h.poi_tags) k m ≡ named k (nth h.poi_tags.texts k)
  pub way : (k : ℕ) → tag_text (table_of h.way_tags) k m ≡ named k (nth h.way_tags.texts k)

pub header-tags : (m : List ℕ) (i : ℕ) (h : Header) (e : ℕ) → header m i ≡ ok h e → TagNames m h
header-tags m i h e q =
    let d = header-listed m i h e q in
    record { poi = tag-text m h.poi_tags _ _ d.poi; way = tag-text m h.way_tags _ _ d.way }

-- opening reads that header
pub opened-header : (m : List ℕ) (h : Header) (e : ℕ) → opened m ≡ ok h e → header m 0 ≡ ok h e
unfolding opened
opened-header m h e q =
    let s = split (header m 0) _ h e q in
    let r = split (cond (debug s.val) (signatures s.val.intervals m) (ok tt 0)) _ h e s.second in
    same s.val s.mid s.first r.second
  where
    same : (a : Header) (x : ℕ) → header m 0 ≡ ok a x → ok a x ≡ ok h e → header m 0 ≡ ok h e
    same a x g d = g ∙ d
