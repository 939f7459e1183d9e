-- Opening with lists, delivered or not: the replies by the tests that the code makes.
use Prim.Native.Nat.{ℕ, ◌+◌, ◌^◌, ◌≤◌, ◌<◌}
use native.Mathlib.Omega.{arith}
use mathlib.Core.Path.{◌≡◌, refl, sym, ap, ◌∙◌}
use mathlib.Core.Bool.{Bool, true, false, cond, ◌&&◌}
use mathlib.Core.List.{List}
use lib.Dec.{leb}
use lib.ListN.{length}
use borrow.Author.Rules.{rules}
use borrow.Author.Tests.{leb-true, not-true, not-false}
use Rattle.std.specs.Prelude.{Result, Ok, Err}
use Rattle.std.specs.Result.{IsErr, IsErrAnd}
use Rattle.parsing.specs.Parse.{Res, ok, no, map_res}
use Rattle.parsing.specs.Good.{no_ok}
use Rattle.error.specs.Refusals.{refused, lent_refused}
use Rattle.error.specs.declared.LentRefusal.{LentRefusal}
use Rattle.error.specs.declared.LentRefusal.TheVariants as lent-refusal
use Rattle.error.specs.declared.Refusal.{Refusal}
use Rattle.byte_source.proofs.ReadLaws.{met}
use Rattle.format.specs.Header.{Header, opened}
use Rattle.format.specs.Lent.{Replied}
use Rattle.format.specs.TagLists.{TagLists, tag_lists, lists_fit, listing}
use Rattle.format.proofs.TagLaws.{HeaderTags, header-listed, opened-header}
use Rattle.format.proofs.ListLaws.{starts-length, letters-length, tags-fit}
use Rattle.types.specs.declared.HeaderFields.{HeaderFields}
use Rattle.types.specs.declared.MapHeader.{MapHeader}
use Rattle.header.specs.HeaderView.{header_fields, map_header, whole}
use Rattle.header.proofs.HeaderLaws.{Stored, fields-stored, whole_read}
use Rattle.opening.specs.Opening.{lists, ListedIs, OpenIs}
use Rattle.opening.specs.Listing.{long_enough, too_short, BothFit, BothListed}
use Rattle.opening.proofs.OpenedLaws.{delivered}

-- the test of the lengths
module _ (n s l : ℕ) where
  room-both : long_enough n s l ≡ true → (n ≤ s) × (n ≤ l)
  room-both h =
      let b = both (leb n s) (leb n l) h in
      (leb-true n s b.0, leb-true n l b.1)
    where
      both : (a b : Bool) → (a && b) ≡ true → (a ≡ true) × (b ≡ true)
      both true b h = (refl, h)
      both false b h = (h, absurd (let x : ◌≡◌ {A = ℕ} 0 1 = ap (λ (y : Bool). cond y 1 0) h in omega arith))

-- a map that opened, by its stored header
module _ (m s l : List ℕ) (f : HeaderFields) (h : Header) (e : ℕ) (o : opened m ≡ ok h e) (z : f ≡ header_fields h) where
  abbrev count : ℕ
  count = f.poi_tags.count + f.way_tags.count

  abbrev room : Bool
  room = long_enough count (length s) (length l)

  tables : HeaderTags m h e
  tables = header-listed m 0 h e (opened-header m h e o)

  count_fits : count ≤ length m
  count_fits = rw z (tags-fit m h e (opened-header m h e o))

  room-is : lists_fit (tag_lists h) (lists s l) ≡ room
  room-is = rw (starts-length h, letters-length h, z)

  short-here : room ≡ false → ListedIs (opened m) (lists s l) (Err (too_short count)) (lists s l)
  short-here k = rw (o, room-is, k, starts-length h, letters-length h, z)

  fit-here : room ≡ true → BothFit m f.poi_tags f.way_tags s l
  fit-here k =
      let r = room-both count (length s) (length l) k in
      record { poi = rw (z, tables.poi.list) tt; way = rw (z, tables.way.list) tt; starts = r.0; letters = r.1 }

  done-here : room ≡ true → (s' l' : List ℕ) → BothListed m f.poi_tags f.way_tags s l s' l' → ListedIs (opened m) (lists s l) (Ok (f, e)) (lists s' l')
  done-here k s' l' d = rw (o, room-is, k, d.starts, d.letters, z, tables.poi.list, tables.way.list)

-- the same by the code's answer
module _ (m s l : List ℕ) where
  pub listed-no : (g : Result (HeaderFields × ℕ) LentRefusal) (e : Refusal) → IsErr g × IsErrAnd g (λ x. x ≡ lent-refusal.Refused e) → refused e ≡ map_res header_fields (opened m) → ListedIs (opened m) (lists s l) g (lists s l)
  listed-no g e h q = rw (met h) (go (opened m) q)
    where
      go : (r : Res Header) → refused e ≡ map_res header_fields r → ListedIs r (lists s l) (Err (lent-refusal.Refused e)) (lists s l)
      go (ok h x) q = no_ok q
      go (no n v) q = ap (λ a. record { answer = a; lists = lists s l }) q

  module _ (f : HeaderFields) (n : ℕ) (q : ok f n ≡ map_res header_fields (opened m)) where
    stored : Stored (opened m) f n
    stored = fields-stored (opened m) f n q

    pub counts-fit : length m < 2 ^ 64 → f.poi_tags.count + f.way_tags.count < 2 ^ 64
    counts-fit b = omega (arith, count_fits m s l f stored.header n stored.read stored.shown)

    module _ (k : Bool) (i : k ≡ long_enough (f.poi_tags.count + f.way_tags.count) (length s) (length l)) where
      pub listed-short : (x : LentRefusal) → k ≡ false → x ≡ too_short (f.poi_tags.count + f.way_tags.count) → ListedIs (opened m) (lists s l) (Err x) (lists s l)
      listed-short x j w = rw w (short-here m s l f stored.header n stored.read stored.shown (sym i ∙ j))

      pub listed-fit : k ≡ true → BothFit m f.poi_tags f.way_tags s l
      listed-fit j = fit-here m s l f stored.header n stored.read stored.shown (sym i ∙ j)

      pub listed-done : (s' l' : List ℕ) → k ≡ true → BothListed m f.poi_tags f.way_tags s l s' l' → ListedIs (opened m) (lists s l) (Ok (f, n)) (lists s' l')
      listed-done s' l' j b = done-here m s l f stored.header n stored.read stored.shown (sym i ∙ j) s' l' b

pub ruleset replies = (rules, not-true, not-false, listed-no, counts-fit, listed-short, listed-fit, listed-done)

-- the whole header, by the fields
both : (a a' : Res MapHeader) (l l' : TagLists) → a ≡ a' → l ≡ l' → ◌≡◌ {A = Replied TagLists (Res MapHeader)} (record { answer = a; lists = l }) (record { answer = a'; lists = l' })
both a a' l l' p q = rw (p, q)

module _ (m : List ℕ) (lent left : TagLists) where
  abbrev answer : Res Header
  answer = (listing (opened m) lent).answer

  pub open_refused : (g : Result (MapHeader × ℕ) LentRefusal) (e : LentRefusal) → IsErr g × IsErrAnd g (λ x. x ≡ e) → ListedIs (opened m) lent (Err e) left → OpenIs (opened m) lent g left
  open_refused g e h q =
      rw (met h) (both _ _ _ _ (go answer (ap (λ (r : Replied TagLists (Res HeaderFields)). r.answer) q)) (ap (λ (r : Replied TagLists (Res HeaderFields)). r.lists) q))
    where
      go : (r : Res Header) → lent_refused e ≡ map_res header_fields r → lent_refused e ≡ map_res map_header r
      go (ok h x) q = no_ok q
      go (no n v) q = cc

  module _ (f : HeaderFields) (n : ℕ) (q : ListedIs (opened m) lent (Ok (f, n)) left) where
    made : (x : Res MapHeader) → x ≡ whole m f n → x ≡ map_res map_header answer
    made x p =
        whole_read m answer (ok f n) x (λ h e k. opened-header m h e (delivered (opened m) lent h e k).read) (ap (λ (r : Replied TagLists (Res HeaderFields)). r.answer) q) p

    pub whole_open : (h : MapHeader) (e : ℕ) → ok h e ≡ whole m f n → OpenIs (opened m) lent (Ok (h, e)) left
    whole_open h e p = both _ _ _ _ (made (ok h e) p) (ap (λ (r : Replied TagLists (Res HeaderFields)). r.lists) q)

    pub whole_refused : (g : Result (MapHeader × ℕ) LentRefusal) (e : Refusal) → IsErr g × IsErrAnd g (λ x. x ≡ lent-refusal.Refused e) → refused e ≡ whole m f n → OpenIs (opened m) lent g left
    whole_refused g e h p = rw (met h) (both _ _ _ _ (made (refused e) p) (ap (λ (r : Replied TagLists (Res HeaderFields)). r.lists) q))

pub ruleset wholes = (rules, open_refused, whole_open, whole_refused)
