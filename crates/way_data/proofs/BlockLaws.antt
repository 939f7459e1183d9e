-- Blocks of nodes, and loops over them: whatever finishes the rest finishes the whole.
use Prim.Native.Nat.{ℕ, zero, suc, ◌+◌, ◌-◌, ◌≤◌, ◌<◌, ◌^◌}
use native.Mathlib.Omega.{arith}
use native.Mathlib.Numerals.{sub-one}
use mathlib.Core.Path.{◌≡◌, refl, sym, ap, ◌∙◌, subst}
use mathlib.Core.Bool.{Bool, true, false, cond}
use mathlib.Core.List.{List, [], ◌∷◌, ◌++◌, map, append-nil, append_assoc}
use lib.Dec.{leb}
use lib.IntN.{ℤ}
use lib.ListN.{length, length-append, length-map, set}
use lib.Seq.{sets, length-sets}
use lib.Ieee.{Float}
use mir.Syntax.{w64}
use mir.Val.{Fits}
use Rattle.parsing.specs.Parse.{Res, ok, no, Parser, and_then, map_res, many, Fine, end_of, list_of}
use Rattle.parsing.proofs.Loops.{sets-append, fine-is, many-count}
use Rattle.error.specs.Refusals.{refused}
use Rattle.error.specs.declared.Refusal.{Refusal}
use Rattle.utils.specs.Vbe.{unsigned}
use Rattle.format.specs.WayData.{Node, concat, node_count}
use Rattle.format.specs.Nodes.{block_nodes, latitude_of, longitude_of, node_counts, latitudes, longitudes}
use Rattle.format.proofs.NodeLaws.{length-block_nodes}
use Rattle.way_measure.proofs.MeasureLaws.{count-append}
use Rattle.way_data.specs.Writes.{node_alone, block_alone, data_block_alone, in_block, one_block, NodesFit, NodesWritten, BlocksFit, BlocksWritten}
use Rattle.way_data.specs.declared.Progress.{Progress}

abbrev Blocks : Type 0
Blocks = Res (List (List Node))

-- a block, behind its count
record Opened (s : List ℕ) (at n start : ℕ) : Type 0 where
  same : block_alone s at ≡ many node_alone n s start
  fine : Fine (many node_alone n s start)
  count : length (list_of (many node_alone n s start)) ≡ n

abbrev alone : Res (List Node) → Blocks
alone r = and_then r (λ b e. ok (b ∷ []) e)

fine-alone : (r : Res (List Node)) → Fine (alone r) → Fine r
fine-alone (ok l e) f = tt
fine-alone (no x y) f = absurd f

list-alone : (r : Res (List Node)) → Fine r → list_of (alone r) ≡ list_of r ∷ []
list-alone (ok l e) f = refl
list-alone (no x y) f = absurd f

end-alone : (r : Res (List Node)) → end_of (alone r) ≡ end_of r
end-alone (ok l e) = refl
end-alone (no x y) = refl

fine-cond : (c : Bool) (r : Res (List Node)) → Fine (cond c r (no 10 [])) → cond c r (no 10 []) ≡ r
fine-cond true r f = refl
fine-cond false r f = absurd f

open-as : (s : List ℕ) (at n start : ℕ) → unsigned s at ≡ ok n start → block_alone s at ≡ cond (leb n (2 ^ 20)) (many node_alone n s start) (no 10 [])
unfolding block_alone
open-as s at n start e = rw e

opened : (s : List ℕ) (at n start : ℕ) → Fine (one_block s at) → ok n start ≡ unsigned s at → Opened s at n start
unfolding one_block
opened s at n start f e =
    let a = open-as s at n start (sym e) in
    let f' : Fine (cond (leb n (2 ^ 20)) (many node_alone n s start) (no 10 [])) = rw a at (fine-alone (block_alone s at) f) in
    let b = fine-cond (leb n (2 ^ 20)) (many node_alone n s start) f' in
    let f'' : Fine (many node_alone n s start) = rw b at f' in
    record { same = a ∙ b; fine = f''; count = many-count node_alone s n start _ _ (fine-is (many node_alone n s start) f'') }

module _ (s : List ℕ) (p : Progress) (c : List ℕ) (la lo : List Float) (y : BlocksFit (one_block s p.next) p c la lo) where
  pub block_no : (r : Refusal) (t : Bool) (c₀ : List ℕ) (la₀ lo₀ : List Float) (q : Progress) → refused r ≡ unsigned s p.next → BlocksWritten t (one_block s p.next) p c₀ la₀ lo₀ q c la lo
  unfolding block_alone one_block
  block_no r t c₀ la₀ lo₀ q e = absurd (rw (← e) at y.fine)

  module _ (n start : ℕ) (e : ok n start ≡ unsigned s p.next) where
    sized : (p.blocks + 1 ≤ length c) × (p.nodes + n ≤ length la) × (p.nodes + n ≤ length lo)
    unfolding one_block
    sized =
        let o = opened s p.next n start y.fine e in
        let k = o.count in
        let l : list_of (one_block s p.next) ≡ list_of (many node_alone n s start) ∷ [] = rw o.same (list-alone (many node_alone n s start) o.fine) in
        let u = rw l at y.counts in
        let v = rw l at y.lats in
        let w = rw l at y.lons in
        (omega arith, omega arith, omega arith)

    pub block_fit : NodesFit s start n p.nodes la lo
    block_fit = record { fine = (opened s p.next n start y.fine e).fine; lats = sized.1; lons = sized.2 }

    pub block-slot : p.blocks < length c
    block-slot = let u = sized.0 in omega arith

    pub block-fits : length la < 2 ^ 64 → Fits w64 (p.nodes + n)
    block-fits l = let u = sized.1 in omega arith

    pub block-done : (t : Bool) (next : ℕ) (la' lo' : List Float) → NodesWritten (in_block t) (many node_alone n s start) p.nodes la lo next la' lo'
        → BlocksWritten t (one_block s p.next) p c la lo (record { next = next; blocks = p.blocks + 1; nodes = p.nodes + n }) (set c p.blocks n) la' lo'
    unfolding one_block
    block-done t next la' lo' d =
        let o = opened s p.next n start y.fine e in
        let k = o.count in
        let l = list-alone (many node_alone n s start) o.fine in
        let z = end-alone (many node_alone n s start) in
        rw o.same record {
          end = d.end ∙ sym z;
          blocks = rw l refl;
          nodes = rw l (omega arith);
          counts = rw (l, k) refl;
          lats = rw (l, append-nil) d.lats;
          lons = rw (l, append-nil) d.lons;
        }

-- some blocks, and the others behind them
abbrev join : Blocks → (ℕ → Blocks) → Blocks
join x f = and_then x (λ l e. and_then (f e) (λ r i. ok (l ++ r) i))

-- one coordinate of all nodes
module _ (t : Bool) (of : Node → ℤ) where
  abbrev along : List (List Node) → List Float
  along l = concat (map (λ b. block_nodes t (map of b)) l)

  along-append : (x y : List (List Node)) → along (x ++ y) ≡ along x ++ along y
  along-append [] y = refl
  along-append (b ∷ x) y = rw (along-append x y, append_assoc)

  pub length-along : (l : List (List Node)) → length (along l) ≡ node_count l
  length-along [] = refl
  length-along (b ∷ l) =
      let h = length-along l in
      rw (length-append, length-block_nodes, length-map) (omega arith)

  -- of two runs of stores
  sets-along : (xs ys : List (List Node)) (l : List Float) (n : ℕ) → sets l n (along (xs ++ ys)) ≡ sets (sets l n (along xs)) (n + node_count xs) (along ys)
  sets-along xs ys l n = rw (along-append xs ys, sets-append, length-along xs)

counts-append : (x y : List (List Node)) → node_counts (x ++ y) ≡ node_counts x ++ node_counts y
counts-append [] y = refl
counts-append (b ∷ x) y = ap (λ (l : List ℕ). length b ∷ l) (counts-append x y)

module _ (t : Bool) (o : Progress) (c : List ℕ) (la lo : List Float) where
  -- of lists: first xs, then ys
  written_both : (xs ys : List (List Node)) (e i : ℕ) (p q : Progress) (c' c'' : List ℕ) (la' lo' la'' lo'' : List Float)
      → BlocksWritten t (ok xs e) o c la lo p c' la' lo' → BlocksWritten t (ok ys i) p c' la' lo' q c'' la'' lo'' → BlocksWritten t (ok (xs ++ ys) i) o c la lo q c'' la'' lo''
  written_both xs ys e i p q c' c'' la' lo' la'' lo'' u v =
      let h = length-append xs ys in
      let k = count-append xs ys in
      record {
        end = v.end;
        blocks = omega (arith, u.blocks, v.blocks);
        nodes = omega (arith, u.nodes, v.nodes);
        counts = v.counts ∙ rw (counts-append xs ys, sets-append, length-map) (rw (u.counts, u.blocks) refl);
        lats = v.lats ∙ rw (sets-along t latitude_of xs ys) (rw (u.lats, u.nodes) refl);
        lons = v.lons ∙ rw (sets-along t longitude_of xs ys) (rw (u.lons, u.nodes) refl);
      }

  fit-both : (xs ys : List (List Node)) (e i : ℕ) (p : Progress) (c' : List ℕ) (la' lo' : List Float)
      → BlocksFit (ok (xs ++ ys) i) o c la lo → BlocksWritten t (ok xs e) o c la lo p c' la' lo' → BlocksFit (ok ys i) p c' la' lo'
  fit-both xs ys e i p c' la' lo' y u =
      let h = length-append xs ys in
      let k = count-append xs ys in
      let lc = ap length u.counts ∙ length-sets c o.blocks (node_counts xs) in
      let ll = ap length u.lats ∙ length-sets la o.nodes (latitudes t xs) in
      let lm = ap length u.lons ∙ length-sets lo o.nodes (longitudes t xs) in
      record {
        fine = tt;
        counts = omega (arith, y.counts, u.blocks);
        lats = omega (arith, y.lats, u.nodes);
        lons = omega (arith, y.lons, u.nodes);
      }

  fit-some : (xs ys : List (List Node)) (e i : ℕ) → BlocksFit (ok (xs ++ ys) i) o c la lo → BlocksFit (ok xs e) o c la lo
  fit-some xs ys e i y =
      let h = length-append xs ys in
      let k = count-append xs ys in
      record { fine = tt; counts = omega (arith, y.counts); lats = omega (arith, y.lats); lons = omega (arith, y.lons) }

  -- of results
  fit-first : (x : Blocks) (f : ℕ → Blocks) → BlocksFit (join x f) o c la lo → BlocksFit x o c la lo
  fit-first (no r v) f y = absurd y.fine
  fit-first (ok xs e) f y = go (f e) y
    where
      go : (r : Blocks) → BlocksFit (and_then r (λ l i. ok (xs ++ l) i)) o c la lo → BlocksFit (ok xs e) o c la lo
      go (ok ys i) y = fit-some xs ys e i y
      go (no r v) y = absurd y.fine

  module _ (p : Progress) (c' : List ℕ) (la' lo' : List Float) where
    fit-rest : (x : Blocks) (f : ℕ → Blocks) → BlocksFit (join x f) o c la lo → BlocksWritten t x o c la lo p c' la' lo' → BlocksFit (f p.next) p c' la' lo'
    fit-rest (no r v) f y u = absurd y.fine
    fit-rest (ok xs e) f y u = subst (λ (x : ℕ). BlocksFit (f x) p c' la' lo') (sym u.end) (go (f e) y)
      where
        go : (r : Blocks) → BlocksFit (and_then r (λ l i. ok (xs ++ l) i)) o c la lo → BlocksFit r p c' la' lo'
        go (ok ys i) y = fit-both xs ys e i p c' la' lo' y u
        go (no r v) y = absurd y.fine

    written-join : (x : Blocks) (f : ℕ → Blocks) (q : Progress) (c'' : List ℕ) (la'' lo'' : List Float) → BlocksFit (join x f) o c la lo → BlocksWritten t x o c la lo p c' la' lo'
        → BlocksWritten t (f p.next) p c' la' lo' q c'' la'' lo'' → BlocksWritten t (join x f) o c la lo q c'' la'' lo''
    written-join (no r v) f q c'' la'' lo'' y u w = absurd y.fine
    written-join (ok xs e) f q c'' la'' lo'' y u w =
        go (f e) y (subst (λ (x : ℕ). BlocksWritten t (f x) p c' la' lo' q c'' la'' lo'') u.end w)
      where
        go : (r : Blocks) → BlocksFit (and_then r (λ l i. ok (xs ++ l) i)) o c la lo → BlocksWritten t r p c' la' lo' q c'' la'' lo'' → BlocksWritten t (and_then r (λ l i. ok (xs ++ l) i)) o c la lo q c'' la'' lo''
        go (ok ys i) y w = written_both xs ys e i p q c' c'' la' lo' la'' lo'' u w
        go (no r v) y w = absurd y.fine

-- the loop: r is left to write from p on, of the whole from o on
pub record BlocksLeft (t : Bool) (whole : Blocks) (o : Progress) (c : List ℕ) (la lo : List Float) (r : Blocks) (p : Progress) (c' : List ℕ) (la' lo' : List Float) : Type 0 where
  pub fit : BlocksFit r p c' la' lo'
  pub finish : (q : Progress) (c'' : List ℕ) (la'' lo'' : List Float) → BlocksWritten t r p c' la' lo' q c'' la'' lo'' → BlocksWritten t whole o c la lo q c'' la'' lo''

-- a turn of a loop over any parser of blocks
module _ (d : Parser (List (List Node))) (s : List ℕ) where
  abbrev rest : ℕ → ℕ → Blocks
  rest left at = map_res concat (many d left s at)

  peel : (left at : ℕ) → 0 < left → rest left at ≡ join (d s at) (λ e. rest (left - 1) e)
  peel zero at h = absurd (omega arith)
  peel (suc k) at h = rw sub-one (two (d s at))
    where
      three : (a : List (List Node)) (r : Res (List (List (List Node)))) → map_res concat (and_then r (λ l i. ok (a ∷ l) i)) ≡ and_then (map_res concat r) (λ l i. ok (a ++ l) i)
      three a (ok l i) = refl
      three a (no x v) = refl

      two : (r : Blocks) → map_res concat (and_then r (λ a e. and_then (many d k s e) (λ l i. ok (a ∷ l) i))) ≡ join r (λ e. rest k e)
      two (ok a e) = three a (many d k s e)
      two (no x v) = refl

  none : (left at : ℕ) → left ≤ 0 → rest left at ≡ ok [] at
  none zero at h = refl
  none (suc k) at h = absurd (omega arith)

  module _ (t : Bool) (whole : Blocks) (o : Progress) (c : List ℕ) (la lo : List Float) (left : ℕ) (p : Progress) (c' : List ℕ) (la' lo' : List Float) (g : BlocksLeft t whole o c la lo (rest left p.next) p c' la' lo') where
    pub left-fit : 0 < left → BlocksFit (d s p.next) p c' la' lo'
    left-fit h = fit-first t p c' la' lo' (d s p.next) (λ e. rest (left - 1) e) (rw (peel left p.next h) at g.fit)

    pub left-more : (q : Progress) (c'' : List ℕ) (la'' lo'' : List Float) (after : ℕ) → left ≡ after + 1 → BlocksWritten t (d s p.next) p c' la' lo' q c'' la'' lo'' → BlocksLeft t whole o c la lo (rest after q.next) q c'' la'' lo''
    left-more q c'' la'' lo'' after h w = let k : left - 1 ≡ after = omega arith in rw (← k) (go (rw (peel left p.next (omega arith)) at g))
      where
        go : BlocksLeft t whole o c la lo (join (d s p.next) (λ e. rest (left - 1) e)) p c' la' lo' → BlocksLeft t whole o c la lo (rest (left - 1) q.next) q c'' la'' lo''
        go z = record {
          fit = fit-rest t p c' la' lo' q c'' la'' lo'' (d s p.next) (λ e. rest (left - 1) e) z.fit w;
          finish = λ x c''' la''' lo''' v. z.finish x c''' la''' lo''' (written-join t p c' la' lo' q c'' la'' lo'' (d s p.next) (λ e. rest (left - 1) e) x c''' la''' lo''' z.fit w v);
        }

    pub left-done : left ≤ 0 → BlocksWritten t whole o c la lo p c' la' lo'
    left-done h = g.finish p c' la' lo' (rw (none left p.next h) record { end = refl; blocks = omega arith; nodes = omega arith; counts = refl; lats = refl; lons = refl })

-- the count in front of a data block
all-alone : (s : List ℕ) (n at : ℕ) → map_res concat (many one_block n s at) ≡ many block_alone n s at
unfolding one_block
all-alone s zero at = refl
all-alone s (suc n) at = go (block_alone s at) (λ e. all-alone s n e)
  where
    cons : (b : List Node) (r : Res (List (List (List Node)))) → map_res concat (and_then r (λ l i. ok ((b ∷ []) ∷ l) i)) ≡ and_then (map_res concat r) (λ l i. ok (b ∷ l) i)
    cons b (ok l i) = refl
    cons b (no x v) = refl

    go : (r : Res (List Node)) → ((e : ℕ) → map_res concat (many one_block n s e) ≡ many block_alone n s e) → map_res concat (and_then (alone r) (λ a e. and_then (many one_block n s e) (λ l i. ok (a ∷ l) i))) ≡ and_then r (λ b e. and_then (many block_alone n s e) (λ l i. ok (b ∷ l) i))
    go (ok b e) ih = cons b (many one_block n s e) ∙ ap (λ (x : Blocks). and_then x (λ l i. ok (b ∷ l) i)) (ih e)
    go (no x v) ih = refl

module _ (s : List ℕ) (p : Progress) (c : List ℕ) (la lo : List Float) (y : BlocksFit (data_block_alone s p.next) p c la lo) where
  pub data-no : (r : Refusal) (t : Bool) (c₀ : List ℕ) (la₀ lo₀ : List Float) (q : Progress) → refused r ≡ unsigned s p.next → BlocksWritten t (data_block_alone s p.next) p c₀ la₀ lo₀ q c la lo
  unfolding data_block_alone
  data-no r t c₀ la₀ lo₀ q e = absurd (rw (← e) at y.fine)

  module _ (n start : ℕ) (e : ok n start ≡ unsigned s p.next) where
    data_is : data_block_alone s p.next ≡ map_res concat (many one_block n s start)
    unfolding data_block_alone
    data_is = rw (← e) (sym (all-alone s n start))

    -- the cursor behind the count
    abbrev inside : Progress
    inside = record { next = start; blocks = p.blocks; nodes = p.nodes }

    moved : (r : Blocks) → BlocksFit r p c la lo → BlocksFit r inside c la lo
    moved r z = record { fine = z.fine; counts = z.counts; lats = z.lats; lons = z.lons }

    pub data-fit : BlocksFit (map_res concat (many one_block n s start)) inside c la lo
    data-fit = moved (map_res concat (many one_block n s start)) (rw data_is at y)

    pub data-done : (t : Bool) (q : Progress) (c' : List ℕ) (la' lo' : List Float) → BlocksWritten t (map_res concat (many one_block n s start)) inside c la lo q c' la' lo' → BlocksWritten t (data_block_alone s p.next) p c la lo q c' la' lo'
    data-done t q c' la' lo' v =
        rw data_is record { end = v.end; blocks = v.blocks; nodes = v.nodes; counts = v.counts; lats = v.lats; lons = v.lons }
