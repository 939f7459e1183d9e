-- Sums of rows, and a zoom table summed in two parts.
use Prim.Native.Nat.{ℕ, zero, suc, ◌+◌, ◌-◌, ◌≤◌, ◌<◌}
use native.Mathlib.Nat.{zero-add, suc-add, add_assoc}
use native.Mathlib.Omega.{arith}
use mathlib.Core.Path.{◌≡◌, refl, sym, ap, ◌∙◌, subst}
use mathlib.Core.Bool.{Bool, true, ◌&&◌}
use mathlib.Core.List.{List, [], ◌∷◌, ◌++◌}
use lib.ListN.{length, get_or}
use lib.Seq.{take-append_seam}
use Rattle.parsing.specs.Parse.{Res, ok, no, Parser, and_then, map_res, many}
use Rattle.parsing.specs.Good.{split, ok-val, ok_at, total}
use Rattle.parsing.proofs.Loops.{fold_more, many-count}
use Rattle.parsing.proofs.Steps.{then-then}
use Rattle.byte_source.proofs.ReadLaws.{view-on, view-refused, loop-refused}
use Rattle.error.specs.Refusals.{refused}
use Rattle.error.specs.declared.Refusal.{Refusal}
use Rattle.error.specs.declared.Refusal.TheVariants.{ReversedInterval}
use Rattle.arithmetic.specs.Cut.{cut}
use Rattle.arithmetic.proofs.CutLaws.{cut-add}
use Rattle.utils.specs.Vbe.{Noted, noted, values_of, all_plain}
use Rattle.utils.proofs.VbeLaws.{unsigned-one}
use Rattle.format.specs.Tile.{Row, row}
use Rattle.format.specs.Rows.{rows_upto, points_of, ways_of, numbers_of_table}
use Rattle.types.proofs.NotedLaws.{and_assoc, and-true, values_length, values-snoc, plain-snoc}
use Rattle.zoom_table.specs.Blocks.{sum_of, noted_sums, IfShort, ShortRow}
use Rattle.zoom_table.specs.declared.ZoomRow.{ZoomRow}
use Rattle.zoom_table.specs.declared.Sums.{Sums}
use Rattle.zoom_table.proofs.BlockLaws.{table-reversed, table_is}

total-append : {A : Type 0} (f : A → ℕ) (xs ys : List A) → total f (xs ++ ys) ≡ total f xs + total f ys
total-append f [] ys = sym (zero-add (total f ys))
total-append f (x ∷ xs) ys = rw (total-append f xs ys) (sym (add_assoc (f x) (total f xs) (total f ys)))

-- noted rows, of which some were read behind others
values-append : (xs ys : List (Noted Row)) → values_of (xs ++ ys) ≡ values_of xs ++ values_of ys
values-append [] ys = refl
values-append (x ∷ xs) ys = ap (λ l. x.value ∷ l) (values-append xs ys)

plain-append : (xs ys : List (Noted Row)) → all_plain (xs ++ ys) ≡ (all_plain xs && all_plain ys)
plain-append [] ys = refl
plain-append (x ∷ xs) ys = ap (λ b. x.plain && b) (plain-append xs ys) ∙ and_assoc x.plain (all_plain xs) (all_plain ys)

cut-both : (a b : ℕ) → cut (cut a + cut b) ≡ cut (a + b)
cut-both a b =
    let e : a + cut b ≡ cut b + a = omega arith in
    let d : b + a ≡ a + b = omega arith in
    cut-add a (cut b) ∙ ap cut e ∙ cut-add b a ∙ ap cut d

-- a row more
added : Noted ZoomRow → Noted Row → Noted ZoomRow
added s r = noted (record { points = cut (s.value.points + r.value.points); ways = cut (s.value.ways + r.value.ways) }) (s.plain && r.plain)

sum_more : (xs : List (Noted Row)) (r : Noted Row) → sum_of (xs ++ (r ∷ [])) ≡ added (sum_of xs) r
unfolding added
sum_more xs r =
    let l = values_of xs in
    let v = r.value in
    let p : v.points + 0 ≡ v.points = omega arith in
    let w : v.ways + 0 ≡ v.ways = omega arith in
    rw (values-snoc xs r, plain-snoc xs r, total-append (λ r. r.points) l (v ∷ []), total-append (λ r. r.ways) l (v ∷ []), p, w, cut-add (points_of l) v.points, cut-add (ways_of l) v.ways)

module _ (m : List ℕ) (i at n p w : ℕ) (b : Bool) (h : map_res sum_of (many row i m at) ≡ ok (noted (record { points = p; ways = w }) b) n) where
  pub sums-more : (v : Noted Row) (e p' w' : ℕ) (b' : Bool) → ok v e ≡ row m n → p' ≡ cut (p + v.value.points) → w' ≡ cut (w + v.value.ways) → b' ≡ (b && v.plain) → map_res sum_of (many row (i + 1) m at) ≡ ok (noted (record { points = p'; ways = w' }) b') e
  unfolding added
  sums-more v e p' w' b' q x y z =
      rw (x, y, z) (fold_more row m sum_of (λ a. a) added sum_more i at h (ap (map_res (λ a. a)) (sym q)))

  pub sums-no : (e : Refusal) (k : ℕ) → refused e ≡ row m n → i < k → refused e ≡ map_res sum_of (many row k m at)
  sums-no e k q o = ap (map_res sum_of) (loop-refused row sum_of (λ a. a) m i k at n _ e (sym h) (ap (map_res (λ a. a)) q) o)

-- a row whose numbers have one byte each
module _ (m : List ℕ) (n : ℕ) (t : Bool) (s : IfShort t (ShortRow m n)) (k : t ≡ true) where
  short : ShortRow m n
  short = subst (λ (b : Bool). IfShort b (ShortRow m n)) k s

  pub short-inside : n + 2 ≤ length m
  short-inside = short.inside

  pub short-points : get_or m n 0 < 128
  short-points = short.points

  pub short-ways : get_or m (n + 1) 0 < 128
  short-ways = short.ways

  short_row : row m n ≡ ok (noted (record { points = get_or m n 0; ways = get_or m (n + 1) 0 }) true) (n + 2)
  unfolding row
  short_row =
      let i = short.inside in
      let e : n + 1 + 1 ≡ n + 2 = omega arith in
      rw (← unsigned-one m n (get_or m n 0) (omega arith) refl short.points, ← unsigned-one m (n + 1) (get_or m (n + 1) 0) (omega arith) refl short.ways, e)

  pub short-more : (i at p w p' w' : ℕ) (b : Bool) → map_res sum_of (many row i m at) ≡ ok (noted (record { points = p; ways = w }) b) n → p' ≡ cut (p + get_or m n 0) → w' ≡ cut (w + get_or m (n + 1) 0) → map_res sum_of (many row (i + 1) m at) ≡ ok (noted (record { points = p'; ways = w' }) b) (n + 2)
  short-more i at p w p' w' b h x y = sums-more m i at n p w b h _ (n + 2) p' w' b (sym short_row) x y (sym (and-true b))

-- k values, then those that `then` gives from the place behind them
module _ {A : Type 0} (then : ℕ → Res (List A)) where
  abbrev joined : Res (List A) → Res (List A)
  joined r = and_then r (λ xs x. map_res (λ ys. xs ++ ys) (then x))

  joined-more : (a : A) (r : Res (List A)) → and_then (joined r) (λ l y. ok (a ∷ l) y) ≡ joined (and_then r (λ l y. ok (a ∷ l) y))
  joined-more a (ok xs x) = behind (then x)
    where
      behind : (r : Res (List A)) → and_then (map_res (λ ys. xs ++ ys) r) (λ l y. ok (a ∷ l) y) ≡ map_res (λ ys. a ∷ xs ++ ys) r
      behind (ok l e) = refl
      behind (no n v) = refl
  joined-more a (no n v) = refl

joined-none : {A : Type 0} (r : Res (List A)) → r ≡ map_res (λ ys. [] ++ ys) r
joined-none (ok l e) = refl
joined-none (no n v) = refl

many-append : {A : Type 0} (p : Parser A) (m : List ℕ) (k j at : ℕ) → many p (k + j) m at ≡ and_then (many p k m at) (λ xs x. map_res (λ ys. xs ++ ys) (many p j m x))
many-append p m zero j at = rw (zero-add j) (joined-none (many p j m at))
many-append {A = A} p m (suc k) j at = rw (suc-add k j) (first (λ x. many-append p m k j x) (p m at))
  where
    first : ((x : ℕ) → many p (k + j) m x ≡ joined (many p j m) (many p k m x)) → (r : Res A) → and_then r (λ a x. and_then (many p (k + j) m x) (λ l y. ok (a ∷ l) y)) ≡ joined (many p j m) (and_then r (λ a x. and_then (many p k m x) (λ l y. ok (a ∷ l) y)))
    first ih (ok a x) = rw (ih x) (joined-more (many p j m) a (many p k m x))
    first ih (no n v) = refl

-- the sums of a table from those of its parts
of_parts : Noted ZoomRow → Noted ZoomRow → Noted Sums
of_parts v w = noted (record {
  points = v.value.points;
  ways = v.value.ways;
  all_points = cut (v.value.points + w.value.points);
  all_ways = cut (v.value.ways + w.value.ways);
}) (v.plain && w.plain)

sums-of : (a b z : ℕ) (xs ys : List (Noted Row)) → rows_upto a b z ≡ length xs → of_parts (sum_of xs) (sum_of ys) ≡ noted_sums a b z (xs ++ ys)
unfolding of_parts
sums-of a b z xs ys h =
    let l = values_of xs in
    let r = values_of ys in
    let k : rows_upto a b z ≡ length l = h ∙ sym (values_length xs) in
    rw (values-append xs ys, plain-append xs ys, k, take-append_seam l r, total-append (λ r. r.points) l r, total-append (λ r. r.ways) l r, cut-both (points_of l) (points_of r), cut-both (ways_of l) (ways_of r))

-- a table of which the first k rows and then the others are summed
module _ (m : List ℕ) (a b at k : ℕ) where
  parts : a ≤ b → k ≤ suc (b - a) → numbers_of_table a b m at ≡ and_then (many row k m at) (λ xs x. map_res (λ ys. xs ++ ys) (many row (b - a + 1 - k) m x))
  parts h l =
      let e : k + (b - a + 1 - k) ≡ b - a + 1 = omega arith in
      sym (table_is m a b at h) ∙ (rw e at (many-append row m k (b - a + 1 - k) at))

  module _ {B : Type 0} (f : List (Noted Row) → ℕ → Res B) where
    pub sum-reversed : b < a → refused ReversedInterval ≡ and_then (numbers_of_table a b m at) f
    sum-reversed h = rw (← (table-reversed m a b at h))

    pub front-no : (e : Refusal) → refused e ≡ map_res sum_of (many row k m at) → a ≤ b → k ≤ suc (b - a) → refused e ≡ and_then (numbers_of_table a b m at) f
    front-no e q h l =
        rw (parts h l) (then-then (many row k m at) _ f (refused e) (view-refused sum_of e (many row k m at) _ q))

    pub back-no : (n : ℕ) (v : Noted ZoomRow) (e : Refusal) → ok v n ≡ map_res sum_of (many row k m at) → refused e ≡ map_res sum_of (many row (b - a + 1 - k) m n) → a ≤ b → k ≤ suc (b - a) → refused e ≡ and_then (numbers_of_table a b m at) f
    back-no n v e c d h l =
        rw (parts h l) (then-then (many row k m at) _ f (refused e) (view-on sum_of v n (many row k m at) _ (refused e) c
        (λ xs _. then-then (many row (b - a + 1 - k) m n) _ f (refused e) (view-refused sum_of e (many row (b - a + 1 - k) m n) _ d))))

  pub both_ok : (n e p w z : ℕ) (o : Bool) (v u : Noted ZoomRow) → ok v n ≡ map_res sum_of (many row k m at) → ok u e ≡ map_res sum_of (many row (b - a + 1 - k) m n) → a ≤ b → k ≡ rows_upto a b z → k ≤ suc (b - a) → p ≡ cut (v.value.points + u.value.points) → w ≡ cut (v.value.ways + u.value.ways) → o ≡ (v.plain && u.plain)
      → ok (noted (record { points = v.value.points; ways = v.value.ways; all_points = p; all_ways = w }) o) e ≡ map_res (noted_sums a b z) (numbers_of_table a b m at)
  unfolding of_parts
  both_ok n e p w z o v u c i h f l x y y' =
      let s = split (many row k m at) (λ xs r. ok (sum_of xs) r) v n (sym c) in
      let t = split (many row (b - a + 1 - k) m n) (λ ys r. ok (sum_of ys) r) u e (sym i) in
      done s.val s.mid t.val t.mid s.first (ok-val s.second) (ok_at s.second) t.first (ok-val t.second) (ok_at t.second)
    where
      done : (xs : List (Noted Row)) (r : ℕ) (ys : List (Noted Row)) (r' : ℕ) → many row k m at ≡ ok xs r → sum_of xs ≡ v → r ≡ n → many row (b - a + 1 - k) m n ≡ ok ys r' → sum_of ys ≡ u → r' ≡ e → ok (noted (record { points = v.value.points; ways = v.value.ways; all_points = p; all_ways = w }) o) e ≡ map_res (noted_sums a b z) (numbers_of_table a b m at)
      done xs r ys r' f1 w1 o1 f2 w2 o2 =
          let c1 : rows_upto a b z ≡ length xs = sym f ∙ sym (many-count row m k at xs r f1) in
          let c2 : of_parts v u ≡ noted_sums a b z (xs ++ ys) = rw (← w1, ← w2) (sums-of a b z xs ys c1) in
          rw (parts h l, f1, o1, f2, o2, x, y, y') (ap (λ (q : Noted Sums). ok q e) c2)
