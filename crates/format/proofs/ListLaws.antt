-- Lists that opening filled (request 3, document 02): each table's letters and starts stand in them, one behind the other, and each entry
-- says what a walk through the header finds.
use Prim.Native.Nat.{ℕ, zero, suc, ◌+◌, ◌≤◌, ◌<◌}
use native.Mathlib.Nat.{zero-add}
use native.Mathlib.Omega.{arith}
use mathlib.Core.Path.{◌≡◌, refl, sym, ap, ◌∙◌, subst}
use mathlib.Core.Bool.{Bool, true, false}
use mathlib.Core.List.{List, [], ◌∷◌, ◌++◌, map, append_assoc}
use lib.Dec.{ltb}
use lib.ListN.{length, get_or, drop, length-append, length-map, get_or-append}
use lib.Seq.{get_or-append-add}
use borrow.Author.Tests.{lt-ltb, le-ltb, ltb-true, ltb-false}
use Rattle.parsing.specs.Parse.{ok, Part, and_then, passed, many, nth}
use Rattle.parsing.specs.Good.{Split, split, ok-val, ok_at, total, strict-weight}
use Rattle.parsing.proofs.GoodLaws.{many-weight}
use Rattle.parsing.proofs.Lists.{nth_past}
use Rattle.utils.specs.Vbe.{text, text-strict}
use Rattle.tag.specs.Tag.{letter_of, kind_of}
use Rattle.tag.specs.declared.Kind.{Kind}
use Rattle.tag.specs.declared.Kind.TheVariants.{Byte, Short, Int, Float, Text, Nothing}
use Rattle.format.specs.Header.{Header, Tags, header, header-good}
use Rattle.format.specs.TagTable.{table_of, tag_text, named}
use Rattle.format.specs.Kinds.{kind_of_text, kind_found, tag_kind, tag_kinds, upto}
use Rattle.format.specs.Lent.{front}
use Rattle.format.specs.TagLists.{TagLists, starts_of, letter_of_text, tag_lists, lists_written, kinds_in, listed_text}
use Rattle.format.proofs.TagLaws.{behind, text-end, Listed, tag-text, header-listed}

-- how many entries there are
pub length-starts_of : (at : ℕ) (l : List Part) → length (starts_of at l) ≡ length l
length-starts_of at [] = refl
length-starts_of at (p ∷ l) = ap suc (length-starts_of (p.start + p.size) l)

module _ (h : Header) where
  abbrev both : ℕ
  both = length h.poi_tags.texts + length h.way_tags.texts

  pub starts-length : length (tag_lists h).starts ≡ both
  starts-length = rw (length-append, length-starts_of, length-starts_of)

  pub letters-length : length (tag_lists h).letters ≡ both
  letters-length = rw (length-append, length-map, length-map)

-- a list that has these values from an entry on
pub record Has (values : List ℕ) (first : ℕ) (list : List ℕ) : Type 0 where
  pub room : first + length values ≤ length list
  pub same : (k : ℕ) → k < length values → get_or list (first + k) 0 ≡ get_or values k 0

-- values that went to a list's front, in two parts
module _ (xs ys l : List ℕ) where
  abbrev rest : List ℕ
  rest = drop (length (xs ++ ys)) l

  front-first : Has xs 0 (front (xs ++ ys) l)
  front-first = record {
    room = rw (length-append, length-append) (omega arith);
    same = λ k b. rw (zero-add, append_assoc) (get_or-append xs (ys ++ rest) 0 k b);
  }

  front-second : (n : ℕ) → length xs ≡ n → Has ys n (front (xs ++ ys) l)
  front-second n e = record {
    room = rw (length-append, length-append) (omega arith);
    same = λ k b. rw (← e, append_assoc, get_or-append-add) (get_or-append ys rest 0 k b);
  }

-- a table's letters, and starts, in the lists
module _ (h : Header) (lent : TagLists) where
  abbrev filled : TagLists
  filled = lists_written (tag_lists h) lent

  poi-letters : Has (map letter_of_text h.poi_tags.texts) 0 filled.letters
  poi-letters = front-first _ _ lent.letters

  way-letters : Has (map letter_of_text h.way_tags.texts) (length h.poi_tags.texts) filled.letters
  way-letters = front-second (map letter_of_text h.poi_tags.texts) _ lent.letters _ (length-map h.poi_tags.texts letter_of_text)

  poi-starts : Has (starts_of h.poi_tags.start h.poi_tags.texts) 0 filled.starts
  poi-starts = front-first _ _ lent.starts

  way-starts : Has (starts_of h.way_tags.start h.way_tags.texts) (length h.poi_tags.texts) filled.starts
  way-starts = front-second (starts_of h.poi_tags.start h.poi_tags.texts) _ lent.starts _ (length-starts_of h.poi_tags.start h.poi_tags.texts)

-- a kind comes back from its letter
kind-back : (k : Kind) → kind_of (letter_of k) ≡ k
kind-back Byte = refl
kind-back Short = refl
kind-back Int = refl
kind-back Float = refl
kind-back Text = refl
kind-back Nothing = refl

upto-same : {A : Type 0} (n : ℕ) (f g : ℕ → A) → ((k : ℕ) → k < n → f k ≡ g k) → upto n f ≡ upto n g
upto-same zero f g h = refl
upto-same (suc n) f g h =
    let first : f zero ≡ g zero = h zero (omega arith) in
    rw (first, upto-same n (λ k. f (suc k)) (λ k. g (suc k)) (λ k b. h (suc k) (omega arith)))

kinds-back : (l : List Part) → upto (length l) (λ k. kind_of (get_or (map letter_of_text l) k 0)) ≡ map kind_of_text l
kinds-back [] = refl
kinds-back (p ∷ l) = rw (kind-back (kind_of_text p), kinds-back l)

kinds-in : (l : List Part) (first : ℕ) (letters : List ℕ) → Has (map letter_of_text l) first letters → kinds_in letters first (length l) ≡ map kind_of_text l
unfolding kinds_in
kinds-in l first letters h =
    upto-same (length l) _ _ (λ k b. ap kind_of (h.same k (rw (length-map l letter_of_text) b))) ∙ kinds-back l

-- the kinds that listed letters say are those of the header's texts
pub record ListedKinds (h : Header) (letters : List ℕ) : Type 0 where
  pub poi : kinds_in letters 0 (length h.poi_tags.texts) ≡ map kind_of_text h.poi_tags.texts
  pub way : kinds_in letters (length h.poi_tags.texts) (length h.way_tags.texts) ≡ map kind_of_text h.way_tags.texts

pub kinds-listed : (h : Header) (lent : TagLists) → ListedKinds h (lists_written (tag_lists h) lent).letters
kinds-listed h lent = record {
  poi = kinds-in h.poi_tags.texts 0 _ (poi-letters h lent);
  way = kinds-in h.way_tags.texts (length h.poi_tags.texts) _ (way-letters h lent);
}

-- entry k of a table's starts is the place behind k texts
module _ (m : List ℕ) where
  behind-first : (k at : ℕ) (p : Part) (y : ℕ) (f : List Part) (x : ℕ) → text m at ≡ ok p y → many text (suc k) m at ≡ ok f x → Split (many text k m y) (λ l y. ok (p ∷ l) y) f x
  behind-first k at p y f x d w = split (many text k m y) (λ l y. ok (p ∷ l) y) f x (rw d at w)

  start-behind : (k at : ℕ) (p : Part) (y : ℕ) (l : List Part) (x : ℕ) → text m at ≡ ok p y → get_or (starts_of y l) k 0 ≡ x → get_or (starts_of at (p ∷ l)) (suc k) 0 ≡ x
  start-behind k at p y l x d q = rw (← text-end m at p y d) q

  start-at : (k n at : ℕ) (l : List Part) (e : ℕ) (f : List Part) (x : ℕ) → k < n → many text n m at ≡ ok l e → many text k m at ≡ ok f x → get_or (starts_of at l) k 0 ≡ x
  start-at k zero at l e f x b q w = absurd (omega arith)
  start-at zero (suc n) at l e f x b q w =
      let s = split (text m at) (λ a x. and_then (many text n m x) (λ l y. ok (a ∷ l) y)) l e q in
      let t = split (many text n m s.mid) (λ l y. ok (s.val ∷ l) y) l e s.second in
      subst (λ (l : List Part). get_or (starts_of at l) zero 0 ≡ x) (ok-val t.second) (ok_at w)
  start-at (suc k) (suc n) at l e f x b q w =
      let s = split (text m at) (λ a x. and_then (many text n m x) (λ l y. ok (a ∷ l) y)) l e q in
      let t = split (many text n m s.mid) (λ l y. ok (s.val ∷ l) y) l e s.second in
      let v = behind-first k at s.val s.mid f x s.first w in
      let i = start-at k n s.mid t.val t.mid v.val v.mid (omega arith) t.first v.first in
      subst (λ (l : List Part). get_or (starts_of at l) (suc k) 0 ≡ x) (ok-val t.second)
      (start-behind k at s.val s.mid t.val x s.first (i ∙ ok_at v.second))

  module _ (t : Tags) (from end : ℕ) (d : Listed m t from end) (first : ℕ) (starts : List ℕ) (w : Has (starts_of t.start t.texts) first starts) (k : ℕ) where
    listed_start : k < length t.texts → passed (many text k m t.start) ≡ ok tt (get_or starts (first + k) 0)
    listed_start b =
        let r = behind text m k (length t.texts) t.start t.texts end b d.list in
        let c : k < length (starts_of t.start t.texts) = rw (length-starts_of t.start t.texts) b in
        rw r.first (ap (ok tt) (sym (w.same k c ∙ start-at k (length t.texts) t.start t.texts end r.front r.mid b d.list r.first)))

    name_in : k < length t.texts → listed_text starts first (length t.texts) k m ≡ named k (nth t.texts k)
    unfolding listed_text
    name_in b =
        let n = length-starts_of t.start t.texts in
        let r = behind text m k (length t.texts) t.start t.texts end b d.list in
        let c : k < length (starts_of t.start t.texts) = omega arith in
        let i : first + k < length starts = omega (arith, w.room) in
        let s = w.same k c ∙ start-at k (length t.texts) t.start t.texts end r.front r.mid b d.list r.first in
        rw (lt-ltb k (length t.texts) b, lt-ltb (first + k) (length starts) i, s, r.second, r.found, text-end m r.mid r.val r.end r.second)

    name-past : length t.texts ≤ k → listed_text starts first (length t.texts) k m ≡ named k (nth t.texts k)
    unfolding listed_text
    name-past b = rw (le-ltb k (length t.texts) b, nth_past t.texts k b)

    name-at : listed_text starts first (length t.texts) k m ≡ named k (nth t.texts k)
    name-at = go (ltb k (length t.texts)) refl
      where
        go : (c : Bool) → ltb k (length t.texts) ≡ c → listed_text starts first (length t.texts) k m ≡ named k (nth t.texts k)
        go true b = name_in (ltb-true k (length t.texts) b)
        go false b = name-past (ltb-false k (length t.texts) b)

-- the text at a listed start is the header's text of that number
pub record ListedNames (m : List ℕ) (h : Header) (starts : List ℕ) : Type 0 where
  pub poi : (k : ℕ) → listed_text starts 0 (length h.poi_tags.texts) k m ≡ named k (nth h.poi_tags.texts k)
  pub way : (k : ℕ) → listed_text starts (length h.poi_tags.texts) (length h.way_tags.texts) k m ≡ named k (nth h.way_tags.texts k)

pub names-listed : (m : List ℕ) (h : Header) (e : ℕ) → header m 0 ≡ ok h e → (lent : TagLists) → ListedNames m h (lists_written (tag_lists h) lent).starts
names-listed m h e q lent =
    let d = header-listed m 0 h e q in
    record {
      poi = name-at m h.poi_tags _ _ d.poi 0 _ (poi-starts h lent);
      way = name-at m h.way_tags _ _ d.way _ _ (way-starts h lent);
    }

-- What a walk through the header finds of a table, and the lists say from an entry on: kinds and names of all tags, and of each its start
-- and its letter.
pub record Walked (m : List ℕ) (t : Tags) (first : ℕ) (lists : TagLists) : Type 0 where
  pub kinds : kinds_in lists.letters first (length t.texts) ≡ tag_kinds (table_of t) m
  pub name : (k : ℕ) → listed_text lists.starts first (length t.texts) k m ≡ tag_text (table_of t) k m
  pub start : (k : ℕ) → k < length t.texts → passed (many text k m t.start) ≡ ok tt (get_or lists.starts (first + k) 0)
  pub letter : (k : ℕ) → k < length t.texts → get_or lists.letters (first + k) 0 ≡ letter_of (tag_kind (table_of t) k m)

letter-found : (j : ℕ) (l : List Part) (k : ℕ) → k < length l → letter_of (kind_found (named j (nth l k))) ≡ get_or (map letter_of_text l) k 0
letter-found j [] k b = absurd (omega arith)
letter-found j (p ∷ l) zero b = refl
letter-found j (p ∷ l) (suc k) b = letter-found j l k (omega arith)

module _ (m : List ℕ) (t : Tags) (from end : ℕ) (d : Listed m t from end) where
  walked-letter : (k : ℕ) → k < length t.texts → letter_of (tag_kind (table_of t) k m) ≡ get_or (map letter_of_text t.texts) k 0
  unfolding tag_kind
  walked-letter k b = rw (tag-text m t from end d k) (letter-found k t.texts k b)

  -- the kinds of a table that was read are those of its texts
  walked-kinds : tag_kinds (table_of t) m ≡ map kind_of_text t.texts
  unfolding tag_kinds
  walked-kinds =
      upto-same (length t.texts) _ _ (λ k b. sym (kind-back (tag_kind (table_of t) k m)) ∙ ap kind_of (walked-letter k b)) ∙ kinds-back t.texts

  walked : (first : ℕ) (lists : TagLists) → Has (starts_of t.start t.texts) first lists.starts → Has (map letter_of_text t.texts) first lists.letters → Walked m t first lists
  walked first lists s l = record {
    kinds = kinds-in t.texts first lists.letters l ∙ sym walked-kinds;
    name = λ k. name-at m t from end d first lists.starts s k ∙ sym (tag-text m t from end d k);
    start = listed_start m t from end d first lists.starts s;
    letter = λ k b. l.same k (rw (length-map t.texts letter_of_text) b) ∙ sym (walked-letter k b);
  }

-- of both tables
pub record WalkedLists (m : List ℕ) (h : Header) (lists : TagLists) : Type 0 where
  pub poi : Walked m h.poi_tags 0 lists
  pub way : Walked m h.way_tags (length h.poi_tags.texts) lists

module _ (m : List ℕ) (h : Header) (e : ℕ) (q : header m 0 ≡ ok h e) where
  pub lists-are-the-walk : (lent : TagLists) → WalkedLists m h (lists_written (tag_lists h) lent)
  lists-are-the-walk lent =
      let d = header-listed m 0 h e q in
      record {
        poi = walked m h.poi_tags _ _ d.poi 0 _ (poi-starts h lent) (poi-letters h lent);
        way = walked m h.way_tags _ _ d.way _ _ (way-starts h lent) (way-letters h lent);
      }

  -- each text has a byte at least
  pub tags-fit : length h.poi_tags.texts + length h.way_tags.texts ≤ length m
  tags-fit =
      let d = header-listed m 0 h e q in
      let b = header-good.bound m 0 h e q in
      let p = bytes (length h.poi_tags.texts) h.poi_tags.start h.poi_tags.texts d.mid d.poi.list in
      let w = bytes (length h.way_tags.texts) h.way_tags.start h.way_tags.texts d.end d.way.list in
      omega (arith, d.way.behind, d.inside)
    where
      counted : (l : List Part) → total (λ p. 1) l ≡ length l
      counted [] = refl
      counted (p ∷ l) = omega (arith, counted l)

      bytes : (n at : ℕ) (l : List Part) (x : ℕ) → many text n m at ≡ ok l x → at + length l ≤ x
      bytes n at l x r = rw counted at ((many-weight (strict-weight text-strict) n).weighs m at l x r)
