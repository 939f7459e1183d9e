-- Texts that were read are parts of the map and short, and a feature has 15 tags at most: so all its texts together are short too.
use Prim.Native.Nat.{ℕ, ◌+◌, ◌-◌, ◌*◌, ◌%◌, ◌^◌, ◌≤◌, ◌<◌}
use native.Mathlib.Omega.{arith}
use mathlib.Core.Path.{◌≡◌, refl, sym, ap, ◌∙◌, subst}
use mathlib.Core.Bool.{Bool, true, false, cond}
use mathlib.Core.List.{List, [], ◌∷◌, ◌++◌}
use lib.Dec.{leb, ltb}
use lib.ListN.{length, get_or, take, drop, replicate, length-append, length-take}
use lib.Seq.{take-append_seam, length-take-le}
use borrow.Author.Tests.{leb-true}
use Rattle.parsing.specs.Parse.{Res, ok, no, map_res, many, chunk, Part, part, byte, optional, Maybe, none, some}
use Rattle.parsing.specs.Good.{split, ok-val, ok_at, no_ok}
use Rattle.parsing.proofs.Loops.{many-count}
use Rattle.text.specs.Utf8.{replaced}
use Rattle.text.proofs.ReplacedLaws.{replaced-most}
use Rattle.utils.specs.Vbe.{Noted, noted, values_of, noted_unsigned, noted_signed, noted_text, text}
use Rattle.types.proofs.NotedLaws.{values_length}
use Rattle.tag.specs.declared.Kind.{Kind}
use Rattle.format.specs.Header.{bit}
use Rattle.format.specs.TagLists.{listed_text}
use Rattle.types.specs.declared.TagRange.{TagRange}
use Rattle.format.specs.WayData.{node, way_data}
use Rattle.format.specs.Tile.{debug_signature, tag_id, values, tagged, point_fields, point, head_rest, Head, head, maybe_value, WayFields, way_fields, data_block_count, body}
use Rattle.byte_source.specs.BigEndian.{big_endian}
use Rattle.tagged.specs.TagIds.{filled_ids, tag_ids}
use Rattle.tagged.specs.declared.TagIds.{TagIds}
use Rattle.fields.proofs.StreamLaws.{Gives, any, gives-bind, gives-return, noted-within}
use Rattle.fetched.specs.Fetched.{part_bytes, found_bytes, started_name, id_texts, present, buffered}
use Rattle.feature_texts.specs.Known.{Stored, PointTexts}
use Rattle.feature_texts.proofs.TextLaws.{present-bytes}

-- a text that was read
part-sized : (m : List ℕ) (n i : ℕ) (p : Part) (e : ℕ) → part n m i ≡ ok p e → p.size ≡ n
unfolding part
part-sized m n i p e h =
    let s = split (chunk n m i) (λ b x. ok (record { start = i; size = n; bytes = b }) x) p e h in
    ap (λ (q : Part). q.size) (sym (ok-val s.second))

noted-sized : (m : List ℕ) (i : ℕ) (t : Noted Part) (e : ℕ) → noted_text m i ≡ ok t e → t.value.size ≤ 2 ^ 20
unfolding noted_text
noted-sized m i t e h =
    let s = split (noted_unsigned m i) (λ n x. cond (leb n.value (2 ^ 20)) (map_res (λ b. noted b n.plain) (part n.value m x)) (no 9 [])) t e h in
    go s.val s.mid (leb s.val.value (2 ^ 20)) refl s.second
  where
    go : (n : Noted ℕ) (x : ℕ) (c : Bool) → leb n.value (2 ^ 20) ≡ c → cond c (map_res (λ b. noted b n.plain) (part n.value m x)) (no 9 []) ≡ ok t e → t.value.size ≤ 2 ^ 20
    go n x true q k =
        let u = split (part n.value m x) (λ b y. ok (noted b n.plain) y) t e k in
        let l = leb-true n.value (2 ^ 20) q in
        let z = part-sized m n.value x u.val u.mid u.first in
        let v = ap (λ (a : Noted Part). a.value.size) (ok-val u.second) in
        omega arith
    go n x false q k = no_ok k

noted-short : (m : List ℕ) (i : ℕ) (t : Noted Part) (e : ℕ) → noted_text m i ≡ ok t e → length t.value.bytes ≤ 2 ^ 20
noted-short m i t e h =
    let b = ((noted-within m).holds i t e h).bytes in
    let n = ap length b ∙ length-take t.value.size (drop t.value.start m) in
    let z = noted-sized m i t e h in
    omega arith

text-short : (m : List ℕ) (i : ℕ) (p : Part) (e : ℕ) → text m i ≡ ok p e → length p.bytes ≤ 2 ^ 20
unfolding text
text-short m i p e h =
    let s = split (noted_text m i) (λ t x. ok t.value x) p e h in
    let z = noted-short m i s.val s.mid s.first in
    let v = ap (λ (a : Part). length a.bytes) (ok-val s.second) in
    omega arith

pub none-stored : (m : List ℕ) → Stored m none
none-stored m = record { same = refl; short = omega arith }

optional-stored : (m : List ℕ) (c : Bool) → Gives m (optional c noted_text) (λ q. Stored m (maybe_value q))
unfolding optional
optional-stored m true = record {
  holds = λ i o e h.
      let s = split (noted_text m i) (λ t x. ok (some t) x) o e h in
      subst (λ (q : Maybe (Noted Part)). Stored m (maybe_value q)) (ok-val s.second) (record {
        same = ap (λ (b : List ℕ). some (record { start = s.val.value.start; size = s.val.value.size; bytes = b })) (sym ((noted-within m).holds i s.val s.mid s.first).bytes);
        short = noted-short m i s.val s.mid s.first;
      });
}
optional-stored m false = gives-return m none (λ q. Stored m (maybe_value q)) (none-stored m)

-- a value that was read, of which a view is known
pub record Known {A C : Type 0} (view : A → C) (v : C) (n : ℕ) (r : Res A) : Type 0 where
  pub value : A
  pub same : r ≡ ok value n
  pub shown : v ≡ view value

pub known_by : {A C : Type 0} (view : A → C) (v : C) (n : ℕ) (r : Res A) → ok v n ≡ map_res view r → Known view v n r
known_by view v n (ok a e) q = record { value = a; same = ap (ok a) (sym (ok_at q)); shown = ok-val q }
known_by view v n (no k l) q = no_ok (sym q)

filled-length : (l : List ℕ) → length l ≤ length (filled_ids l)
unfolding filled_ids
filled-length l = let e = length-append l (drop (length l) (replicate 15 0)) in omega arith

filled-front : (l : List ℕ) → take (length l) (filled_ids l) ≡ l
unfolding filled_ids
filled-front l = take-append_seam l (drop (length l) (replicate 15 0))

-- the ids as a record holds them: as many as it counts are there, and these are the ids
module _ (t : TagIds) (l : List ℕ) (e : t ≡ tag_ids l) where
  pub ids-within : t.count ≤ length t.ids
  ids-within = rw e (filled-length l)

  pub ids-counted : t.count ≡ length (take t.count t.ids)
  ids-counted = sym (length-take-le t.count t.ids ids-within)

  pub ids-are : take t.count t.ids ≡ l
  ids-are = ap (λ (x : TagIds). take x.count x.ids) e ∙ filled-front l

-- up to 15 ids
few-ids : (m : List ℕ) (n k : ℕ) → Gives m (many (tag_id n) (k % 16)) (λ ids. length (values_of ids) ≤ 15)
few-ids m n k = record { holds = λ i ids e h. let c = many-count (tag_id n) m (k % 16) i ids e h in let v = values_length ids in omega arith }

tagged-few : (m : List ℕ) (kinds : List Kind) → Gives m (tagged kinds) (λ t. length t.ids ≤ 15)
unfolding tagged
tagged-few m kinds =
    gives-bind m (any m byte) λ s _. gives-bind m (few-ids m (length kinds) s) λ ids few. gives-bind m (any m (values kinds (values_of ids))) λ v _. gives-return m _ _ few

-- what is known of a point that was read
record Both (m : List ℕ) (n h : Maybe Part) : Type 0 where
  first : Stored m n
  second : Stored m h

point-both : (m : List ℕ) → Gives m point_fields (λ f. Both m f.name f.house_number)
unfolding point_fields
point-both m =
    gives-bind m (any m byte) λ f _. gives-bind m (optional-stored m (bit 7 f)) λ n a. gives-bind m (optional-stored m (bit 6 f)) λ h b. gives-bind m (any m (optional (bit 5 f) noted_signed)) λ e _. gives-return m _ _ (record { first = a; second = b })

pub point-texts : (m : List ℕ) (debug : Bool) (kinds : List Kind) → Gives m (point debug kinds) (PointTexts m)
unfolding point
point-texts m debug kinds =
    gives-bind m (any m (debug_signature debug)) λ g _. gives-bind m (any m node) λ p _. gives-bind m (tagged-few m kinds) λ t few. gives-bind m (point-both m) λ f h. gives-return m _ (PointTexts m) (record { few = few; name = h.first; house_number = h.second })

-- of a way's head and of its fields
rest-few : (m : List ℕ) (kinds : List Kind) (g : Maybe Part) (n : Noted ℕ) (a : ℕ) → Gives m (head_rest kinds g n a) (λ h. length h.tagged.ids ≤ 15)
unfolding head_rest
rest-few m kinds g n a =
    gives-bind m (any m (big_endian 2)) λ b _. gives-bind m (tagged-few m kinds) λ t few. record { holds = λ i h e k. subst (λ (x : Head). length x.tagged.ids ≤ 15) (ok-val k) few }

pub head_few : (m : List ℕ) (debug : Bool) (kinds : List Kind) → Gives m (head debug kinds) (λ h. length h.tagged.ids ≤ 15)
unfolding head
head_few m debug kinds =
    gives-bind m (any m (debug_signature debug)) λ g _. gives-bind m (any m noted_unsigned) λ n _. record { holds = λ i h e k. (rest-few m kinds g n i).holds i h e k }

pub record WayTexts (m : List ℕ) (f : WayFields) : Type 0 where
  pub name : Stored m f.name
  pub house_number : Stored m f.house_number
  pub reference : Stored m f.reference

fields-texts : (m : List ℕ) → Gives m way_fields (WayTexts m)
unfolding way_fields
fields-texts m =
    gives-bind m (any m byte) λ f _. gives-bind m (optional-stored m (bit 7 f)) λ n a. gives-bind m (optional-stored m (bit 6 f)) λ h b. gives-bind m (optional-stored m (bit 5 f)) λ r c. gives-bind m (any m (optional (bit 4 f) node)) λ l _. gives-return m _ (WayTexts m) (record { name = a; house_number = b; reference = c })

pub body-texts : (m : List ℕ) → Gives m body (λ b. WayTexts m b.fields)
unfolding body
body-texts m =
    gives-bind m (fields-texts m) λ f h. gives-bind m (any m (data_block_count f.flags)) λ k _. gives-bind m (any m (way_data k.value)) λ d _. gives-return m _ _ h

-- a tag's name
name-short : (s : List ℕ) (t : TagRange) (m : List ℕ) (i : ℕ) → length (started_name s t m i) ≤ 2 ^ 20
unfolding listed_text
name-short s t m i = tested (ltb i t.count) (ltb (t.first + i) (length s))
  where
    read : (e : ℕ) (r : Res Part) → text m e ≡ r → length (found_bytes r) ≤ 2 ^ 20
    read e (ok p x) h = text-short m e p x h
    read e (no n v) h = omega arith

    at : ℕ
    at = get_or s (t.first + i) 0

    tested : (c d : Bool) → length (found_bytes (cond c (cond d (text m (get_or s (t.first + i) 0)) (no 7 (i ∷ []))) (no 7 (i ∷ [])))) ≤ 2 ^ 20
    tested true true = read at (text m at) refl
    tested true false = omega arith
    tested false d = omega arith

ids_short : (s : List ℕ) (t : TagRange) (m ids : List ℕ) → length (id_texts (started_name s t m) ids) ≤ length ids * 3145728
ids_short s t m [] = omega arith
ids_short s t m (i ∷ ids) =
    let a = length-append (replaced (started_name s t m i)) (id_texts (started_name s t m) ids) in
    let b = replaced-most (started_name s t m i) in
    let c = name-short s t m i in
    let d = ids_short s t m ids in
    omega arith

present-short : (m : List ℕ) (o : Maybe Part) → Stored m o → length (present o) ≤ 3145728
present-short m o s =
    let a = ap length (present-bytes o) in
    let b = replaced-most (part_bytes o) in
    let c = s.short in
    omega arith

pub texts-short : (s : List ℕ) (t : TagRange) (m ids : List ℕ) (n h r : Maybe Part) → length ids ≤ 15 → Stored m n → Stored m h → Stored m r → length (buffered (started_name s t m) ids n h r) < 2 ^ 64 - 1
texts-short s t m ids n h r few a b c =
    let l = length-append (id_texts (started_name s t m) ids ++ present n ++ present h) (present r) in
    let k = length-append (id_texts (started_name s t m) ids ++ present n) (present h) in
    let j = length-append (id_texts (started_name s t m) ids) (present n) in
    let w = ids_short s t m ids in
    let x = present-short m n a in
    let y = present-short m h b in
    let z = present-short m r c in
    omega arith
