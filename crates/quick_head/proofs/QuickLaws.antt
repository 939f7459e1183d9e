-- One law for each read: where the code's tests hold, the parser succeeds with the code's values.
use Prim.Native.Nat.{ℕ, zero, suc, ◌+◌, ◌-◌, ◌*◌, ◌/◌, ◌%◌, ◌^◌, ◌<◌, ◌≤◌}
use native.Mathlib.Nat.{mod-eq_of_lt}
use native.Mathlib.Omega.{arith}
use mathlib.Core.Path.{◌≡◌, refl, sym, ap, ◌∙◌}
use mathlib.Core.Bool.{Bool, true, false, cond, ◌&&◌}
use mathlib.Core.List.{List, [], ◌∷◌, ◌++◌}
use lib.Dec.{eqb, lit<, lit≤}
use lib.IntN.{ℤ}
use lib.Signed.{mag}
use mir.Syntax.{w8, w64}
use mir.Val.{Fits, to_z, of_z}
use lib.ListN.{length, get_or, take, drop, set, drop_of_length-le, length-take}
use lib.Seq.{drop-cons, get_or-take, length-take-le, take-append_seam}
use native.Mathlib.Numerals.{add-one}
use borrow.Author.Rules.{rules}
use borrow.Author.Tests.{ne_eqb, lt-ltb, le-leb}
use Rattle.std.specs.Prelude.{Option, IfSome}
use Rattle.parsing.specs.Parse.{Res, ok, no, map_res, and_then, many, Part, part, none, optional}
use Rattle.parsing.specs.Good.{ok-val, ok_at, no_ok}
use Rattle.parsing.proofs.Steps.{eqb_yes, eqb_no, byte-here}
use Rattle.parsing.proofs.Loops.{many-count}
use Rattle.byte_source.proofs.ByteLaws.{part-here, number-here, pair16}
use Rattle.arithmetic.specs.Cut.{cut}
use Rattle.tag.specs.Tag.{kind_of}
use Rattle.tag.specs.Value.{value, sized, fixed}
use Rattle.tag.specs.declared.Kind.{Kind}
use Rattle.tag.specs.declared.Kind.TheVariants.{Byte, Short, Int, Float, Text, Nothing}
use Rattle.format.specs.TagLists.{kinds_in}
use Rattle.tag_table.proofs.KindLaws.{length-kinds, kind-past, kind-there}
use Rattle.types.proofs.FillLaws.{front-more, held_more}
use Rattle.types.proofs.NotedLaws.{values_length, values-snoc, plain-snoc}
use Rattle.format.specs.Tile.{Tagged, debug_signature, tag_id, kind_at, values, layer_of, tagged, head_rest, head}
use Rattle.tagged.proofs.LayerLaws.{layer-bits}
use Rattle.utils.specs.Vbe.{groups, Noted, noted, values_of, all_plain, noted_unsigned}
use Rattle.utils.proofs.VbeLaws.{above-none, loop-more, loop-last, unsigned-one}
use Rattle.quick_head.specs.Quick.{Reads, whole, is_plain, are_plain, width_of, put, filled, ShownTags, tags_of, head_of, FrontIs}

-- numbers
module _ (m : List ℕ) (at a : ℕ) where
  pub number-one : at < length m → a ≡ get_or m at 0 → a < 128 → Reads whole (noted_unsigned m at) (length m) (noted a true) (at + 1)
  number-one h e l = record { same = rw (← unsigned-one m at a h e l); inside = omega arith }

  groups-two : (k b : ℕ) → at + 1 < length m → a ≡ get_or m at 0 → 128 ≤ a → b ≡ get_or m (at + 1) 0 → b < 128 → ok (record { magnitude = 0 + 1 * (a % 128) + 1 * 128 * (b % k); sign = b / k; weight = 1 * 128 }) (at + 1 + 1) ≡ groups k 9 m at
  groups-two k b h e l q s =
      loop-last k m (groups k 9 m at) (0 + 1 * (a % 128)) (1 * 128) 8 (at + 1)
      (loop-more k m (groups k 9 m at) 0 1 9 at (above-none (groups k 9 m at)) a (lit< tt) (omega arith) e l) b (lit< tt) h q s

  -- the second byte is not 0, so that no shorter encoding gives the value
  pub number-two : (b : ℕ) → at < length m → 2 ≤ length m - at → a ≡ get_or m at 0 → 128 ≤ a → b ≡ get_or m (at + 1) 0 → 1 ≤ b → b < 128 → Reads whole (noted_unsigned m at) (length m) (noted (a % 128 + 128 * b) true) (at + 2)
  unfolding noted_unsigned
  number-two b g h e l q n s =
      let i : 0 + 1 * (a % 128) + 1 * 128 * (b % 128) ≡ a % 128 + 128 * b = rw (mod-eq_of_lt s) (omega arith) in
      let j : at + 1 + 1 ≡ at + 2 = omega arith in
      record { same = rw (← groups-two 128 b (omega arith) e l q s, i, j, le-leb 128 (a % 128 + 128 * b) (omega arith)); inside = omega arith }

pub reads-inside : {A B : Type 0} (view : A → B) (r : Res A) (n e : ℕ) (v : B) → Reads view r n v e → e ≤ n
reads-inside view r n e v h = h.inside

pub whole_is : {A : Type 0} {v : A} {e : ℕ} (r : Res A) → map_res whole r ≡ ok v e → r ≡ ok v e
whole_is (ok a x) h = h
whole_is (no n l) h = no_ok h

-- a result by its view
pub record Stored {A B : Type 0} (view : A → B) (r : Res A) (v : B) (e : ℕ) : Type 0 where
  pub value : A
  pub shown : view value ≡ v
  pub is : r ≡ ok value e

pub stored : {A B : Type 0} (view : A → B) (r : Res A) (v : B) (e : ℕ) → map_res view r ≡ ok v e → Stored view r v e
stored view (ok a x) v e h = record { value = a; shown = ok-val h; is = ap (ok a) (ok_at h) }
stored view (no n l) v e h = no_ok h

-- a part of the map
pub part-is : (m : List ℕ) (at n : ℕ) → at ≤ length m → n ≤ length m - at → part n m at ≡ ok (record { start = at; size = n; bytes = take n (drop at m) }) (at + n)
unfolding part
part-is m at zero h l = let z : at + 0 ≡ at = omega arith in rw z
part-is m at (suc n) h l = sym (part-here m at (suc n) (omega arith) h l)

-- values
module _ (m : List ℕ) (at : ℕ) where
  pub sized-is : (v e : ℕ) → Reads whole (noted_unsigned m at) (length m) (noted v true) e → v ≤ length m - e → Reads is_plain (sized m at) (length m) true (e + v)
  unfolding sized
  sized-is v e r l =
      let i = r.inside in
      record { same = rw (whole_is (noted_unsigned m at) r.same, part-is m e v i l); inside = omega arith }

  value-width : (l : ℕ) → (l ≡ 115 → ⊥) → value (kind_of l) ≡ fixed (width_of l)
  unfolding value
  value-width l h = go (eqb l 98) (eqb l 104) (eqb l 105) (eqb l 102)
    where
      go : (a b c d : Bool) → value (cond a Byte (cond b Short (cond c Int (cond d Float (cond (eqb l 115) Text Nothing))))) ≡ fixed (cond a 1 (cond b 2 (cond c 4 (cond d 4 0))))
      go true b c d = refl
      go false true c d = refl
      go false false true d = refl
      go false false false true = refl
      go false false false false = rw (ne_eqb l 115 h)

  pub value_none : (l : ℕ) → l ≡ 0 → at ≤ length m → Reads is_plain (value (kind_of l) m at) (length m) true at
  unfolding value part
  value_none l e h = record { same = rw e; inside = h }

  pub value-sized : (l : ℕ) (r : Option ℕ) → l ≡ 115 → IfSome r (λ e. Reads is_plain (sized m at) (length m) true e) → IfSome r (λ e. Reads is_plain (value (kind_of l) m at) (length m) true e)
  unfolding value
  value-sized l r q h = rw q h

  pub value-wide : (l n : ℕ) → (l ≡ 115 → ⊥) → n ≡ width_of l → at ≤ length m → n ≤ length m - at → Reads is_plain (value (kind_of l) m at) (length m) true (at + n)
  value-wide l n q w h b = record { same = rw (value-width l q, ← w, part-is m at n h b); inside = omega arith }

-- the kinds in a list of letters
module _ (letters : List ℕ) (first tags : ℕ) where
  pub letter-there : (k : ℕ) → k < tags → kind_of (get_or letters (first + k) 0) ≡ kind_at (kinds_in letters first tags) k
  letter-there k h = kind-there letters first tags k _ h refl

  pub letter-past : (k : ℕ) → tags ≤ k → kind_of 0 ≡ kind_at (kinds_in letters first tags) k
  letter-past k h = kind-past letters first tags k h

-- ids
module _ (m : List ℕ) (tags i at n : ℕ) (lent l : List ℕ) where
  id-is : (v e : ℕ) → Reads whole (noted_unsigned m n) (length m) (noted v true) e → v < tags → map_res whole (tag_id tags m n) ≡ ok (noted v true) e
  unfolding tag_id
  id-is v e r h = rw (whole_is (noted_unsigned m n) r.same, lt-ltb v tags h)

  abbrev put_id : Noted (List ℕ) → ℕ → Noted ℕ → Noted (List ℕ)
  put_id l i v = noted (set l.value i v.value) (l.plain && v.plain)

  grows : (xs : List (Noted ℕ)) (v : Noted ℕ) → length xs < length lent → filled lent (xs ++ (v ∷ [])) ≡ put_id (filled lent xs) (length xs) v
  unfolding put
  grows xs v h =
      let k = values_length xs in
      rw (values-snoc xs v, front-more (values_of xs) v.value lent (omega arith), k, plain-snoc xs v)

  pub ids_more : (v e k : ℕ) → map_res (filled lent) (many (tag_id tags) i m at) ≡ ok (noted l true) n → Reads whole (noted_unsigned m n) (length m) (noted v true) e → v < tags → length lent ≡ 15 → k ≤ 15 → i < k → map_res (filled lent) (many (tag_id tags) (i + 1) m at) ≡ ok (noted (set l i v) true) e
  ids_more v e k h r b c d f =
      held_more (filled lent) whole put_id (length lent) grows (tag_id tags) m i at n (noted l true) e (noted v true) h (id-is v e r b) (omega arith)

  pub ids-done : (k : ℕ) → map_res (filled lent) (many (tag_id tags) i m at) ≡ ok (noted l true) n → n ≤ length m → i ≤ k → k ≤ i → Reads (filled lent) (many (tag_id tags) k m at) (length m) (noted l true) n
  ids-done k h b c d = let e : i ≡ k = omega arith in record { same = rw e at h; inside = b }

pub ids-none : (lent : List ℕ) (at : ℕ) → ok (filled lent []) at ≡ ok (noted lent true) at
unfolding put
ids-none lent at = refl

-- values behind the ids, by what is left of the ids
module _ (K : List Kind) (m ids : List ℕ) (count i n : ℕ) (T : Res Bool) where
  values-step : (e : ℕ) (x : Noted Part) (rest : List ℕ) (v : ℕ) → value (kind_at K v) m n ≡ ok x e → x.plain ≡ true → map_res are_plain (values K (v ∷ rest) m n) ≡ map_res are_plain (values K rest m e)
  unfolding values
  values-step e x rest v h p = rw h (behind (values K rest m e))
    where
      behind : (r : Res (List (Noted Part))) → map_res are_plain (and_then r (λ l y. ok (x ∷ l) y)) ≡ map_res are_plain r
      behind (ok l y) = rw p
      behind (no k y) = refl

  pub values-more : (e l : ℕ) → map_res are_plain (values K (drop i (take count ids)) m n) ≡ T → Reads is_plain (value (kind_of l) m n) (length m) true e → kind_of l ≡ kind_at K (get_or ids i 0) → i < count → count ≤ 15 → length ids ≡ 15 → map_res are_plain (values K (drop (i + 1) (take count ids)) m e) ≡ T
  values-more e l h r q b c d =
      let len : length (take count ids) ≡ count = length-take-le count ids (omega arith) in
      let b' : i < length (take count ids) = omega arith in
      let here : get_or (take count ids) i 0 ≡ get_or ids i 0 = get_or-take count ids i 0 b in
      let s = stored is_plain (value (kind_of l) m n) true e r.same in
      let one : value (kind_at K (get_or (take count ids) i 0)) m n ≡ ok s.value e = rw (here, ← q) s.is in
      rw add-one (sym (values-step e s.value (drop (suc i) (take count ids)) (get_or (take count ids) i 0) one s.shown) ∙ (rw (drop-cons (take count ids) i 0 b') at h))

module _ (K : List Kind) (m ids : List ℕ) (count i at n : ℕ) where
  pub values-done : map_res are_plain (values K (drop i (take count ids)) m n) ≡ map_res are_plain (values K (take count ids) m at) → n ≤ length m → count ≤ i → Reads are_plain (values K (take count ids) m at) (length m) true n
  unfolding values
  values-done h b c =
      let e : drop i (take count ids) ≡ [] = drop_of_length-le (take count ids) {i = i} (omega (arith, length-take count ids)) in
      record { same = sym (rw e at h); inside = b }

-- layer and tags
filled-front : (lent a l : List ℕ) (k : ℕ) → put lent a ≡ l → length a ≡ k → take k l ≡ a
unfolding put
filled-front lent a l k h c = rw (← h, ← c) (take-append_seam a (drop (length a) lent))

-- what was filled, and that all of it was plain
filled-ids : (lent l : List ℕ) (a : List (Noted ℕ)) → filled lent a ≡ noted l true → put lent (values_of a) ≡ l
filled-ids lent l a h = ap (λ (z : Noted (List ℕ)). z.value) h

filled-plain : (lent l : List ℕ) (a : List (Noted ℕ)) → filled lent a ≡ noted l true → all_plain a ≡ true
filled-plain lent l a h = ap (λ (z : Noted (List ℕ)). z.plain) h

same-tags : (y y' : ℤ) (l l' : List ℕ) (k k' : ℕ) (p p' : Bool) (e : ℕ) → y ≡ y' → l ≡ l' → k ≡ k' → p ≡ p' → ◌≡◌ {A = Res ShownTags} (ok (record { layer = y; ids = l; count = k; plain = p }) e) (ok (record { layer = y'; ids = l'; count = k'; plain = p' }) e)
same-tags y y' l l' k k' p p' e a b c d = rw (a, b, c, d) refl

both-plain : (p q : Bool) → p ≡ true → q ≡ true → (p && q) ≡ true
both-plain p q a b = rw (a, b) refl

module _ (letters : List ℕ) (first tags : ℕ) (m lent l : List ℕ) where
  abbrev K : List Kind
  K = kinds_in letters first tags

  tagged_is : (at s n e : ℕ) (xs : List (Noted ℕ)) (v : List (Noted Part)) → at < length m → s ≡ get_or m at 0 → many (tag_id tags) (s % 16) m (at + 1) ≡ ok xs n → values K (values_of xs) m n ≡ ok v e → tagged K m at ≡ ok (record { layer = layer_of s; ids = values_of xs; values = values_of v; plain = all_plain xs && all_plain v }) e
  unfolding tagged
  tagged_is at s n e xs v h q i j = rw (byte-here m at h, ← q, length-kinds letters first tags, i, j)

  pub tags-is : (n e at s : ℕ) (y : ℤ) → at < length m → s ≡ get_or m at 0 → Reads (filled lent) (many (tag_id tags) (s % 16) m (at + 1)) (length m) (noted l true) n → Reads are_plain (values K (take (s % 16) l) m n) (length m) true e → y ≡ layer_of s → mag y < 2 ^ 7
      → Reads (tags_of lent) (tagged K m at) (length m) (record { layer = to_z w8 (of_z w8 y); ids = l; count = s % 16; plain = true }) e
  tags-is n e at s y h q i r w z =
      let x = stored (filled lent) (many (tag_id tags) (s % 16) m (at + 1)) (noted l true) n i.same in
      let xs = x.value in
      let ids = filled-ids lent l xs x.shown in
      let c = values_length xs ∙ many-count (tag_id tags) m (s % 16) (at + 1) xs n x.is in
      let g : map_res are_plain (values K (values_of xs) m n) ≡ ok true e = rw (filled-front lent (values_of xs) l (s % 16) ids c) at r.same in
      let v = stored are_plain (values K (values_of xs) m n) true e g in
      let t = tagged_is at s n e xs v.value h q x.is v.is in
      record { same = ap (map_res (tags_of lent)) t ∙ same-tags _ _ _ _ _ _ _ _ e (sym (layer-bits y z ∙ w)) ids c (both-plain _ _ (filled-plain lent l xs x.shown) v.shown); inside = r.inside }

-- a way's head
module _ (m : List ℕ) (at : ℕ) where
  pub front-is : (v n h l : ℕ) → Reads whole (noted_unsigned m at) (length m) (noted v true) n → 2 ≤ length m - n → h ≡ get_or m n 0 → h < 256 → l ≡ get_or m (n + 1) 0 → l < 256 → FrontIs m at v n (h * 256 + l)
  front-is v n h l r k q b q' b' =
      let i = r.inside in
      let w : (h + l * 256) % 256 * 256 + (h + l * 256) / 256 ≡ h * 256 + l = omega arith in
      record {
        sized = whole_is (noted_unsigned m at) r.same;
        mapped = sym (number-here 2 m n (h * 256 + l) (lit≤ tt) i k (rw w at (pair16 m n h l (omega arith) q b q' b')));
        inside = omega arith;
      }

  pub front_fits : (v n b : ℕ) → FrontIs m at v n b → length m < 2 ^ 64 → Fits w64 (n + 2)
  front_fits v n b f k = omega (arith, f.inside)

  pub head-is : (K : List Kind) (size start bitmap e : ℕ) (t : Tagged) → FrontIs m at size start bitmap → tagged K m (start + 2) ≡ ok t e → head false K m at ≡ ok (record { signature = none; size = size; start = start; bitmap = bitmap; tagged = t; behind = e; plain = t.plain }) e
  unfolding head head_rest debug_signature optional
  head-is K size start bitmap e t f h = rw (f.sized, f.mapped, h)

  pub quick-head-is : (K : List Kind) (lent l : List ℕ) (size start bitmap count e p : ℕ) (y : ℤ) → FrontIs m at size start bitmap → Reads (tags_of lent) (tagged K m (start + 2)) (length m) (record { layer = y; ids = l; count = count; plain = true }) e → p ≡ cut (start + size) → mag y < 2 ^ 7
      → Reads (head_of lent) (head false K m at) (length m) (record { past = p; bitmap = bitmap; tags = record { layer = to_z w8 (of_z w8 y); ids = l; count = count; plain = true }; plain = true }) e
  quick-head-is K lent l size start bitmap count e p y f r c z =
      let x = stored (tags_of lent) (tagged K m (start + 2)) (record { layer = y; ids = l; count = count; plain = true }) e r.same in
      let h = head-is K size start bitmap e x.value f x.is in
      let pl = ap (λ (s : ShownTags). s.plain) x.shown in
      record { same = ap (map_res (head_of lent)) h ∙ rw (x.shown, pl, layer-bits y z, c); inside = r.inside }

pub ruleset quicks = (rules, eqb_yes, eqb_no, number-one, number-two, reads-inside, sized-is, value_none, value-sized, value-wide, letter-there, letter-past, ids_more, ids-done, ids-none, values-more, values-done, tags-is, front-is, front_fits, quick-head-is)
