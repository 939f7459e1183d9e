-- Tag ids filled into an array, and the values behind them.
use Prim.Native.Nat.{ℕ, suc, ◌+◌, ◌%◌, ◌^◌, ◌≤◌, ◌<◌}
use native.Mathlib.Numerals.{add-one}
use native.Mathlib.Omega.{arith}
use mathlib.Core.Path.{◌≡◌, refl, sym, ap, ◌∙◌}
use mathlib.Core.Bool.{Bool, true, ◌&&◌}
use mathlib.Core.List.{List, [], ◌∷◌, ◌++◌}
use lib.IntN.{ℤ}
use lib.ListN.{length, get_or, take, drop, set, replicate, length-append, drop_of_length-le}
use lib.Seq.{drop-cons, take-append_seam, length-take-le}
use lib.Signed.{mag}
use mir.Syntax.{w8}
use mir.Val.{to_z, of_z}
use Rattle.std.specs.Prelude.{Result}
use Rattle.std.specs.Result.{IsErr, IsErrAnd}
use Rattle.parsing.specs.Parse.{Res, ok, no, Part, and_then, map_res, passed, many}
use Rattle.parsing.specs.Good.{split, ok-val, ok_at, no_ok}
use Rattle.parsing.proofs.Loops.{counted, many-count}
use Rattle.parsing.proofs.Views.{viewed}
use Rattle.error.specs.Refusals.{refused}
use Rattle.error.specs.declared.Refusal.{Refusal}
use Rattle.byte_source.specs.Answers.{read_by}
use Rattle.byte_source.proofs.ReadLaws.{reads, met, loop-refused, view-refused}
use Rattle.utils.specs.Vbe.{Noted, noted, values_of, all_plain}
use Rattle.tag.specs.Value.{value}
use Rattle.tag.specs.declared.Kind.{Kind}
use Rattle.types.specs.declared.TagRange.{TagRange}
use Rattle.format.specs.Tile.{kind_at, tag_id, values, layer_of}
use Rattle.tag_table.specs.Tables.{kinds_by}
use Rattle.tag_table.proofs.KindLaws.{length-kinds}
use Rattle.tagged.specs.TagIds.{filled_ids, ShownTags, tags_of, noted_ids, noted_values}
use Rattle.tagged.proofs.LayerLaws.{layer-bits}
use Rattle.types.proofs.FillLaws.{front-more, held_more}
use Rattle.types.proofs.NotedLaws.{and_assoc, and-true, values_length, values-snoc, plain-snoc}

-- ids in an array
pub ids-none : (at : ℕ) (l : List ℕ) → l ≡ replicate 15 0 → ok (noted_ids []) at ≡ ok (noted l true) at
unfolding filled_ids
ids-none at l h = rw h

filled_more : (xs : List ℕ) (v : ℕ) → length xs < 15 → filled_ids (xs ++ (v ∷ [])) ≡ set (filled_ids xs) (length xs) v
unfolding filled_ids
filled_more xs v h = front-more xs v (replicate 15 0) h

-- one id more, and whether it was plain
abbrev put_id : Noted (List ℕ) → ℕ → Noted ℕ → Noted (List ℕ)
put_id l i v = noted (set l.value i v.value) (l.plain && v.plain)

noted_more : (xs : List (Noted ℕ)) (v : Noted ℕ) → length xs < 15 → noted_ids (xs ++ (v ∷ [])) ≡ put_id (noted_ids xs) (length xs) v
noted_more xs v h =
    let n = values_length xs in
    rw (values-snoc xs v, filled_more (values_of xs) v.value (omega (arith, n)), n, plain-snoc xs v)

module _ (t : ℕ) (m : List ℕ) (i at n k : ℕ) (l : List ℕ) (b : Bool) (h : map_res noted_ids (many (tag_id t) i m at) ≡ ok (noted l b) n) (o : i < k) where
  pub ids_more : (v : ℕ) (p : Bool) (e : ℕ) → ok (noted v p) e ≡ tag_id t m n → k ≤ 15 → map_res noted_ids (many (tag_id t) (i + 1) m at) ≡ ok (noted (set l i v) (b && p)) e
  ids_more v p e q z =
      held_more noted_ids (λ v. v) put_id 15 noted_more (tag_id t) m i at n (noted l b) e (noted v p) h (ap (map_res (λ v. v)) (sym q)) (omega arith)

  pub ids-no : (g : Result (Bool × ℕ) Refusal) (e : Refusal) → refused e ≡ tag_id t m n → IsErr g × IsErrAnd g (λ x. x ≡ e) → read_by (noted l) g ≡ map_res noted_ids (many (tag_id t) k m at)
  ids-no g e q p =
      ap (read_by (noted l)) (met p) ∙ ap (map_res noted_ids) (loop-refused (tag_id t) noted_ids (λ _. tt) m i k at n (noted l b) e (sym h) (ap passed q) o)

pub ruleset ids = (reads, ids-none, ids_more, ids-no, counted)

-- values behind the ids, by what is left of the ids: b is whether all in front were plain
abbrev pub noted_rest : Bool → List (Noted Part) → Noted Unit
noted_rest b l = noted tt (b && all_plain l)

module _ (kinds : List Kind) (m : List ℕ) (ids : List ℕ) (i n : ℕ) (b : Bool) (T : Res (Noted Unit)) where
  values-step : (e : ℕ) (x : Noted Part) (rest : List ℕ) (v : ℕ) → value (kind_at kinds v) m n ≡ ok x e → map_res (noted_rest b) (values kinds (v ∷ rest) m n) ≡ map_res (noted_rest (b && x.plain)) (values kinds rest m e)
  unfolding values
  values-step e x rest v h = rw h (behind (values kinds rest m e))
    where
      behind : (r : Res (List (Noted Part))) → map_res (noted_rest b) (and_then r (λ l y. ok (x ∷ l) y)) ≡ map_res (noted_rest (b && x.plain)) r
      behind (ok l y) = rw (and_assoc b x.plain (all_plain l))
      behind (no k y) = refl

  module _ (h : map_res (noted_rest b) (values kinds (drop i ids) m n) ≡ T) where
    module _ (k : Kind) (o : i < length ids) (q : k ≡ kind_at kinds (get_or ids i 0)) where
      pub values-more : (s : Part) (p : Bool) (e : ℕ) → ok (noted s p) e ≡ value k m n → map_res (noted_rest (b && p)) (values kinds (drop (i + 1) ids) m e) ≡ T
      values-more s p e d =
          let one : value (kind_at kinds (get_or ids i 0)) m n ≡ ok (noted s p) e = rw (← q) (sym d) in
          rw add-one (sym (values-step e (noted s p) (drop (suc i) ids) (get_or ids i 0) one) ∙ (rw (drop-cons ids i 0 o) at h))

      pub values-no : (g : Result (Bool × ℕ) Refusal) (e : Refusal) → refused e ≡ value k m n → IsErr g × IsErrAnd g (λ x. x ≡ e) → read_by (noted tt) g ≡ T
      unfolding values
      values-no g e d p =
          let one : value (kind_at kinds (get_or ids i 0)) m n ≡ refused e = rw (← q) (sym d) in
          ap (read_by (noted tt)) (met p) ∙ (rw (drop-cons ids i 0 o, one) at h)

    pub values-done : length ids ≤ i → ok (noted tt b) n ≡ T
    unfolding values
    values-done o = rw (drop_of_length-le ids o, and-true b) at h

pub ruleset skips = (reads, values-more, values-no, values-done)

-- ids and values, in a definition that goes on from them
module _ {B : Type 0} (s : List ℕ) (t : TagRange) (m : List ℕ) (k at : ℕ) (f : List (Noted ℕ) → ℕ → Res B) where
  pub ids-ok : (l : List ℕ) (c : Bool) (n : ℕ) (x : Res B) → ok (noted l c) n ≡ map_res noted_ids (many (tag_id t.count) k m at) → ((a : List (Noted ℕ)) → l ≡ filled_ids (values_of a) → c ≡ all_plain a → k ≡ length (values_of a) → x ≡ f a n) → x ≡ and_then (many (tag_id (length (kinds_by s t))) k m at) f
  ids-ok l c n x q p = rw (length-kinds s t.first t.count) (found (many (tag_id t.count) k m at) refl (sym q))
    where
      found : (r : Res (List (Noted ℕ))) → many (tag_id t.count) k m at ≡ r → map_res noted_ids r ≡ ok (noted l c) n → x ≡ and_then r f
      found (ok a e) d z =
          let w = sym (ok-val z) in
          p a (ap (λ (y : Noted (List ℕ)). y.value) w) (ap (λ (y : Noted (List ℕ)). y.plain) w) (sym (values_length a ∙ many-count (tag_id t.count) m k at a e d)) ∙ ap (f a) (sym (ok_at z))
      found (no i v) d z = no_ok z

  pub ids-stop : (e : Refusal) → refused e ≡ map_res noted_ids (many (tag_id t.count) k m at) → refused e ≡ and_then (many (tag_id (length (kinds_by s t))) k m at) f
  ids-stop e q = rw (length-kinds s t.first t.count) (view-refused noted_ids e (many (tag_id t.count) k m at) f q)

-- the number of ids is the special byte's low four bits
module _ (t s at n : ℕ) (m l : List ℕ) (c : Bool) (q : ok (noted l c) n ≡ map_res noted_ids (many (tag_id t) (s % 16) m at)) where
  pub ids-fit : s % 16 ≤ length l
  unfolding filled_ids
  ids-fit =
      let z = split (many (tag_id t) (s % 16) m at) (λ a y. ok (noted_ids a) y) (noted l c) n (sym q) in
      found z.val z.mid z.first (ap (λ (y : Noted (List ℕ)). y.value) (ok-val z.second))
    where
      found : (a : List (Noted ℕ)) (y : ℕ) → many (tag_id t) (s % 16) m at ≡ ok a y → filled_ids (values_of a) ≡ l → s % 16 ≤ length l
      found a y d e = rw (← e, length-append (values_of a) (drop (length (values_of a)) (replicate 15 0)), values_length a, many-count (tag_id t) m (s % 16) at a y d) (omega arith)

  pub ids-count : s % 16 ≡ length (take (s % 16) l)
  ids-count = sym (length-take-le (s % 16) l ids-fit)

filled-front : (a l : List ℕ) (k : ℕ) → l ≡ filled_ids a → k ≡ length a → take k l ≡ a
unfolding filled_ids
filled-front a l k h c = rw (h, c) (take-append_seam a (drop (length a) (replicate 15 0)))

module _ {B : Type 0} (kinds : List Kind) (m : List ℕ) (k at : ℕ) (l a : List ℕ) (f : List (Noted Part) → ℕ → Res B) (d : l ≡ filled_ids a) (w : k ≡ length a) where
  pub values-ok : (c : Bool) (n : ℕ) (x : Res B) → ok (noted tt c) n ≡ map_res noted_values (values kinds (take k l) m at) → ((v : List (Noted Part)) → c ≡ all_plain v → x ≡ f v n) → x ≡ and_then (values kinds a m at) f
  values-ok c n x q p =
      viewed noted_values (values kinds a m at) f (sym (rw (filled-front a l k d w) at q)) (λ v e. p v (ap (λ (y : Noted Unit). y.plain) e))

  pub values-stop : (e : Refusal) → refused e ≡ map_res noted_values (values kinds (take k l) m at) → refused e ≡ and_then (values kinds a m at) f
  values-stop e q = view-refused noted_values e (values kinds a m at) f (rw (filled-front a l k d w) at q)

pub tags-made : (y : ℤ) (s k n : ℕ) (l : List ℕ) (c c' : Bool) (a : List (Noted ℕ)) (v : List (Noted Part)) → y ≡ layer_of s → mag y < 2 ^ 7 → l ≡ filled_ids (values_of a) → k ≡ length (values_of a) → c ≡ all_plain a → c' ≡ all_plain v → ◌≡◌ {A = Res ShownTags} (ok (record { layer = to_z w8 (of_z w8 y); ids = record { ids = l; count = k }; plain = c && c' }) n) (ok (tags_of (record { layer = layer_of s; ids = values_of a; values = values_of v; plain = all_plain a && all_plain v })) n)
tags-made y s k n l c c' a v h b d w e e' = rw (layer-bits y b, h, d, w, e, e')

pub ruleset tags = (reads, ids-fit, ids-count)
