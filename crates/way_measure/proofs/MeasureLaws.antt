-- The first pass: what its answers say.
use Prim.Native.Nat.{ℕ, zero, suc, ◌+◌, ◌*◌, ◌≤◌, ◌<◌, ◌^◌}
use native.Mathlib.Omega.{arith}
use mathlib.Core.Path.{◌≡◌, refl, sym, ap, ◌∙◌, subst}
use mathlib.Core.Bool.{Bool, ◌&&◌, and-true, and_assoc}
use mathlib.Core.List.{List, [], ◌∷◌, ◌++◌, append-nil, append_assoc}
use lib.Dec.{leb}
use lib.IntN.{ℤ}
use lib.ListN.{length, length-append}
use mir.Syntax.{w64}
use mir.Val.{Fits}
use borrow.Author.Rules.{rules}
use Rattle.parsing.specs.Parse.{Res, ok, no, Parser, and_then, map_res, bind, return, many}
use Rattle.parsing.specs.Good.{Weight, total, strict-weight, bind-weight, pick-weight, fail-weight, more-weight, split, ok-val, ok_at, no_ok}
use Rattle.parsing.proofs.GoodLaws.{many-weight}
use Rattle.parsing.proofs.Loops.{fold_more, counted, many-count}
use Rattle.std.specs.Prelude.{Some}
use Rattle.error.specs.Refusals.{refused}
use Rattle.error.specs.declared.Refusal.{Refusal}
use Rattle.byte_source.proofs.ReadLaws.{loop-refused, handed-up}
use Rattle.utils.specs.Vbe.{Noted, noted, values_of, all_plain, noted_coordinate, noted_unsigned-strict}
use Rattle.utils.proofs.NumberLaws.{reads}
use Rattle.coordinates.specs.Skip.{skip_of}
use Rattle.coordinates.proofs.SkipLaws.{skipped, plain-snoc}
use Rattle.format.specs.WayData.{Node, node, block, data_block, concat, node_count, counted as together, node-strict}
use Rattle.way_measure.specs.Answers.{count_of, nodes_count, sizes_of, blocks_sizes, way_sizes}
use Rattle.way_measure.specs.declared.Sizes.{Sizes}

-- sizes of lists that grow
pub values-append : {A : Type 0} (xs ys : List (Noted A)) → values_of (xs ++ ys) ≡ values_of xs ++ values_of ys
values-append [] ys = refl
values-append (x ∷ xs) ys = rw (values-append xs ys)

behind-snoc : {A : Type 0} (p : Bool) (xs : List (Noted A)) (v : Noted A) → (p && all_plain (xs ++ (v ∷ []))) ≡ (p && all_plain xs && v.plain)
behind-snoc p xs v = rw (plain-snoc xs v, and_assoc)

pub count-append : (xs ys : List (List Node)) → node_count (xs ++ ys) ≡ node_count xs + node_count ys
count-append [] ys = omega arith
count-append (x ∷ xs) ys = let ih = count-append xs ys in omega arith

concat-snoc : {A : Type 0} (xs : List (List A)) (v : List A) → concat (xs ++ (v ∷ [])) ≡ concat xs ++ v
concat-snoc [] v = append-nil v
concat-snoc (x ∷ xs) v = rw (concat-snoc xs v, append_assoc)

abbrev plus : Sizes → Sizes → Sizes
plus a b = record { blocks = a.blocks + b.blocks; nodes = a.nodes + b.nodes; plain = a.plain && b.plain }

abbrev one_block : Noted ℕ → Sizes
one_block n = record { blocks = 1; nodes = n.value; plain = n.plain }

abbrev one_more : Noted ℕ → Bool → Noted ℕ
one_more n p = noted (n.value + 1) (n.plain && p)

count-snoc : (p : Bool) (xs : List (Noted Node)) (v : Noted Node) → nodes_count p (xs ++ (v ∷ [])) ≡ one_more (nodes_count p xs) v.plain
count-snoc p xs v = rw (values-append xs (v ∷ []), length-append, behind-snoc p xs v)

sizes-snoc : (p : Bool) (xs : List (Noted (List Node))) (b : Noted (List Node)) → blocks_sizes p (xs ++ (b ∷ [])) ≡ plus (blocks_sizes p xs) (one_block (count_of b))
sizes-snoc p xs b =
    let h : length b.value + 0 ≡ length b.value = omega arith in
    rw (values-append xs (b ∷ []), length-append, count-append, behind-snoc p xs b, h)

way-snoc : (xs : List (Noted (List (List Node)))) (b : Noted (List (List Node))) → way_sizes (xs ++ (b ∷ [])) ≡ plus (way_sizes xs) (sizes_of b)
way-snoc xs b = rw (values-append xs (b ∷ []), concat-snoc, length-append, count-append, plain-snoc xs b)

-- nodes
abbrev flag : Noted Node → Bool
flag x = x.plain

module _ (b : Bool) (s : List ℕ) (i at n : ℕ) (a : Bool) (e : map_res (nodes_count b) (many node i s at) ≡ ok (noted i a) n) where
  pub nodes-more : (k : ℕ) (v : Noted Node) → ok v k ≡ node s n → map_res (nodes_count b) (many node (i + 1) s at) ≡ ok (noted (i + 1) (a && v.plain)) k
  nodes-more k v q = fold_more node s (nodes_count b) flag one_more (count-snoc b) i at e (ap (map_res flag) (sym q))

  pub nodes-stop : (k : ℕ) (x : Refusal) → refused x ≡ node s n → i < k → refused x ≡ map_res (nodes_count b) (many node k s at)
  nodes-stop k x q d = ap (map_res (nodes_count b)) (loop-refused node (nodes_count b) flag s i k at n _ x (sym e) (ap (map_res flag) q) d)

pub nodes-none : (b : Bool) (s : List ℕ) (at : ℕ) → map_res (nodes_count b) (many node 0 s at) ≡ ok (noted 0 b) at
nodes-none b s at = rw (and-true b)

-- two coordinates to a node
record Paired (s : List ℕ) (n at e : ℕ) (p : Bool) : Type 0 where
  list : List (Noted Node)
  is : many node n s at ≡ ok list e
  plain : all_plain list ≡ p

node_of : (s : List ℕ) (at x e : ℕ) (a o : Noted ℤ) → noted_coordinate s at ≡ ok a x → noted_coordinate s x ≡ ok o e → node s at ≡ ok (noted (record { latitude = a.value; longitude = o.value }) (a.plain && o.plain)) e
unfolding node
node_of s at x e a o p q = rw (p, q)

pair-plain : (a o x p : Bool) → x ≡ p → (a && o && x) ≡ (a && (o && p))
pair-plain a o x p h = rw (h, and_assoc)

-- a node in front
pair : (s : List ℕ) (n at x y e : ℕ) (a o : Noted ℤ) (l : List (Noted ℤ)) → noted_coordinate s at ≡ ok a x → noted_coordinate s x ≡ ok o y → Paired s n y e (all_plain l) → Paired s (suc n) at e (all_plain (a ∷ (o ∷ l)))
pair s n at x y e a o l p q w = record {
  list = noted (record { latitude = a.value; longitude = o.value }) (a.plain && o.plain) ∷ w.list;
  is = rw (node_of s at x y a o p q, w.is);
  plain = pair-plain a.plain o.plain (all_plain w.list) (all_plain l) w.plain;
}

-- the first of at least one
record First (s : List ℕ) (n at : ℕ) (l : List (Noted ℤ)) (e : ℕ) : Type 0 where
  value : Noted ℤ
  next : ℕ
  others : List (Noted ℤ)
  is : noted_coordinate s at ≡ ok value next
  rest : many noted_coordinate n s next ≡ ok others e
  all : value ∷ others ≡ l

first : (s : List ℕ) (n at : ℕ) (l : List (Noted ℤ)) (e : ℕ) → many noted_coordinate (suc n) s at ≡ ok l e → First s n at l e
first s n at l e h =
    let u = split (noted_coordinate s at) (λ a x. and_then (many noted_coordinate n s x) (λ r i. ok (a ∷ r) i)) l e h in
    let v = split (many noted_coordinate n s u.mid) (λ r i. ok (u.val ∷ r) i) l e u.second in
    record {
      value = u.val;
      next = u.mid;
      others = v.val;
      is = u.first;
      rest = v.first ∙ ap (λ (x : ℕ). ok v.val x) (ok_at v.second);
      all = ok-val v.second;
    }

paired : (s : List ℕ) (n at : ℕ) (l : List (Noted ℤ)) (e : ℕ) → many noted_coordinate (n + n) s at ≡ ok l e → Paired s n at e (all_plain l)
paired s zero at l e h = record { list = []; is = ap (λ (x : ℕ). ok [] x) (ok_at h); plain = ap all_plain (ok-val h) }
paired s (suc n) at l e h =
    let k : suc n + suc n ≡ suc (suc (n + n)) = omega arith in
    let a = first s (suc (n + n)) at l e (rw k at h) in
    two a (first s (n + n) a.next a.others e a.rest) (λ x r d. paired s n x r e d)
  where
    two : (a : First s (suc (n + n)) at l e) (o : First s (n + n) a.next a.others e) → ((x : ℕ) (r : List (Noted ℤ)) → many noted_coordinate (n + n) s x ≡ ok r e → Paired s n x e (all_plain r)) → Paired s (suc n) at e (all_plain l)
    two a o ih =
        subst (λ (r : List (Noted ℤ)). Paired s (suc n) at e (all_plain r)) (ap (λ (r : List (Noted ℤ)). a.value ∷ r) o.all ∙ a.all)
        (pair s n at a.next o.next e a.value o.value o.others a.is o.is (ih o.next o.others o.rest))

pub skip-nodes : (b : Bool) (s : List ℕ) (at n e : ℕ) (p : Bool) → Some (p, e) ≡ skip_of s at (2 * n) → ok (noted n (b && p)) e ≡ map_res (nodes_count b) (many node n s at)
skip-nodes b s at n e p h =
    let u = split (many noted_coordinate (2 * n) s at) (λ l x. ok (all_plain l) x) p e (skipped s (2 * n) at e p h) in
    let w = twice u.val u.mid u.first in
    let c = many-count node s n at w.list u.mid w.is in
    counts w.list u.mid w.is (values-count w.list ∙ c) (w.plain ∙ ok-val u.second) (ok_at u.second)
  where
    twice : (l : List (Noted ℤ)) (e : ℕ) → many noted_coordinate (2 * n) s at ≡ ok l e → Paired s n at e (all_plain l)
    twice l e d = let k : 2 * n ≡ n + n = omega arith in paired s n at l e (rw k at d)

    values-count : (l : List (Noted Node)) → length (values_of l) ≡ length l
    values-count [] = refl
    values-count (a ∷ l) = rw (values-count l)

    counts : (l : List (Noted Node)) (x : ℕ) → many node n s at ≡ ok l x → length (values_of l) ≡ n → all_plain l ≡ p → x ≡ e → ok (noted n (b && p)) e ≡ map_res (nodes_count b) (many node n s at)
    counts l x d c f z = rw (d, c, f, z)

-- each block takes a byte, and each node
total-one : {A : Type 0} (l : List (Noted A)) → length (values_of l) ≤ total (λ a. 1) l
total-one [] = omega arith
total-one (a ∷ l) = let ih = total-one l in omega arith

nodes-weight : (n : ℕ) → Weight (many node n) (λ l. length (values_of l))
nodes-weight n = more-weight (many-weight (strict-weight node-strict) n) total-one

-- a read whose value is put through h
then-weight : {A B : Type 0} {p : Parser A} {f : A → ℕ} (h : A → B) (g : B → ℕ) → ((a : A) → g (h a) ≡ f a) → Weight p f → Weight (bind p (λ a. return (h a))) g
then-weight {p = p} {f = f} h g z w = record {
  weighs = λ m i b e k.
      let s = split (p m i) (λ a x. ok (h a) x) b e k in
      let u = w.weighs m i s.val s.mid s.first in
      let v : g b ≡ f s.val = ap g (sym (ok-val s.second)) ∙ z s.val in
      omega (arith, ok_at s.second);
}

block-weight : Weight block (λ b. suc (length b.value))
unfolding block
block-weight =
    bind-weight noted_unsigned-strict (λ n. pick-weight (leb n.value (2 ^ 20)) (then-weight (together n) (λ b. length b.value) (λ l. refl) (nodes-weight n.value)) (fail-weight 10 [] (λ b. length b.value)))

abbrev both : List (List Node) → ℕ
both l = length l + node_count l

total-both : (l : List (Noted (List Node))) → both (values_of l) ≤ total (λ b. suc (length b.value)) l
total-both [] = omega arith
total-both (b ∷ l) = let ih = total-both l in omega arith

blocks-weight : (n : ℕ) → Weight (many block n) (λ l. both (values_of l))
blocks-weight n = more-weight (many-weight block-weight n) total-both

data_block-weight : Weight data_block (λ l. suc (both l.value))
unfolding data_block
data_block-weight = bind-weight noted_unsigned-strict (λ n. then-weight (together n) (λ l. both l.value) (λ l. refl) (blocks-weight n.value))

total-data : (l : List (Noted (List (List Node)))) → both (concat (values_of l)) ≤ total (λ b. suc (both b.value)) l
total-data [] = omega arith
total-data (b ∷ l) =
    let ih = total-data l in
    rw (length-append b.value (concat (values_of l)), count-append b.value (concat (values_of l))) (omega arith)

data-weight : (n : ℕ) → Weight (many data_block n) (λ l. both (concat (values_of l)))
data-weight n = more-weight (many-weight data_block-weight n) total-data

-- of a summary of the value
weighed : {A B : Type 0} (f : A → B) (g : B → ℕ) (p : Parser A) → Weight p (λ a. g (f a)) → (s : List ℕ) (at : ℕ) (b : B) (e : ℕ) → map_res f (p s at) ≡ ok b e → at + g b ≤ e
weighed {A = A} {B = B} f g p w s at b e h = go (p s at) refl h
  where
    go : (r : Res A) → p s at ≡ r → map_res f r ≡ ok b e → at + g b ≤ e
    go (ok a x) d h = subst (λ (y : B). at + g y ≤ e) (ok-val h) (subst (λ (y : ℕ). at + g (f a) ≤ y) (ok_at h) (w.weighs s at a x d))
    go (no n v) d h = no_ok h

abbrev weight_of : Sizes → ℕ
weight_of z = z.blocks + z.nodes

-- a loop that adds sizes up, stated once: f of the values of p that were read, and `size` of the view w of the next one
module _ {A C : Type 0} (p : Parser A) (f : List A → Sizes) (w : A → C) (size : C → Sizes) where
  abbrev pub Adds : Type 0
  Adds = (s : List ℕ) (i at n y z : ℕ) (b : Bool) (k : ℕ) (c : C) → map_res f (many p i s at) ≡ ok (record { blocks = y; nodes = z; plain = b }) n → ok c k ≡ map_res w (p s n) → map_res f (many p (i + 1) s at) ≡ ok (record { blocks = y + (size c).blocks; nodes = z + (size c).nodes; plain = b && (size c).plain }) k

  abbrev pub Fit : (Sizes → ℕ) → Type 0
  Fit part = (s : List ℕ) (i at n y z : ℕ) (b : Bool) (k : ℕ) (c : C) → map_res f (many p i s at) ≡ ok (record { blocks = y; nodes = z; plain = b }) n → ok c k ≡ map_res w (p s n) → k < 2 ^ 64 → Fits w64 (part (record { blocks = y; nodes = z; plain = b }) + part (size c))

  abbrev pub Ends : Type 0
  Ends = (s : List ℕ) (i at n y z : ℕ) (b : Bool) (k : ℕ) (x : Refusal) → map_res f (many p i s at) ≡ ok (record { blocks = y; nodes = z; plain = b }) n → refused x ≡ map_res w (p s n) → i < k → refused x ≡ map_res f (many p k s at)

  adds : ((xs : List A) (v : A) → f (xs ++ (v ∷ [])) ≡ plus (f xs) (size (w v))) → Adds
  adds law s i at n y z b k c e q = fold_more p s f w (λ a b. plus a (size b)) law i at e (sym q)

  fit : ((n : ℕ) → Weight (many p n) (λ l. weight_of (f l))) → Weight p (λ a. weight_of (size (w a))) → (part : Sizes → ℕ) → ((z : Sizes) → part z ≤ weight_of z) → Fit part
  fit all one part low s i at n y z b k c e q d =
      let r : Sizes = record { blocks = y; nodes = z; plain = b } in
      let u = weighed f weight_of (many p i) (all i) s at r n e in
      let v = weighed w (λ x. weight_of (size x)) p one s n c k (sym q) in
      let o : part r ≤ y + z = low r in
      let t : part (size c) ≤ (size c).blocks + (size c).nodes = low (size c) in
      omega arith

  ends : Ends
  ends s i at n y z b k x e q d = ap (map_res f) (loop-refused p f w s i k at n _ x (sym e) q d)

-- blocks
module _ (p : Bool) where
  pub blocks_more : Adds block (blocks_sizes p) count_of one_block
  blocks_more = adds block (blocks_sizes p) count_of one_block (sizes-snoc p)

  pub blocks-fit : Fit block (blocks_sizes p) count_of one_block (λ z. z.nodes)
  blocks-fit = fit block (blocks_sizes p) count_of one_block blocks-weight (more-weight block-weight (λ b. omega arith)) (λ z. z.nodes) (λ z. omega arith)

  pub blocks-stop : Ends block (blocks_sizes p) count_of one_block
  blocks-stop = ends block (blocks_sizes p) count_of one_block

  pub blocks-none : (s : List ℕ) (at : ℕ) → map_res (blocks_sizes p) (many block 0 s at) ≡ ok (record { blocks = 0; nodes = 0; plain = p }) at
  blocks-none s at = rw (and-true p)

-- data blocks
data-fits : (part : Sizes → ℕ) → ((z : Sizes) → part z ≤ weight_of z) → Fit data_block way_sizes sizes_of (λ z. z) part
data-fits = fit data_block way_sizes sizes_of (λ z. z) data-weight (more-weight data_block-weight (λ b. omega arith))

pub data-more : Adds data_block way_sizes sizes_of (λ z. z)
data-more = adds data_block way_sizes sizes_of (λ z. z) way-snoc

pub data-fits-blocks : Fit data_block way_sizes sizes_of (λ z. z) (λ z. z.blocks)
data-fits-blocks = data-fits (λ z. z.blocks) (λ z. omega arith)

pub data-fits-nodes : Fit data_block way_sizes sizes_of (λ z. z) (λ z. z.nodes)
data-fits-nodes = data-fits (λ z. z.nodes) (λ z. omega arith)

pub data-stop : Ends data_block way_sizes sizes_of (λ z. z)
data-stop = ends data_block way_sizes sizes_of (λ z. z)

pub ruleset measures = (reads, skip-nodes)

-- each loop by its own laws alone
pub ruleset over-nodes = (rules, counted, handed-up, nodes-none, nodes-more, nodes-stop)

pub ruleset over-blocks = (rules, counted, handed-up, blocks-none, blocks_more, blocks-stop, blocks-fit)

pub ruleset over-data = (rules, counted, handed-up, data-more, data-stop, data-fits-blocks, data-fits-nodes)
