-- The loop over the blocks, and that it finds the initial positions of the format.
use Prim.Native.Nat.{ℕ, zero, suc, ◌+◌, ◌≤◌, ◌<◌, min}
use native.Mathlib.Omega.{arith}
use native.Mathlib.Numerals.{add-one}
use mathlib.Core.Path.{◌≡◌, refl, ap, ◌∙◌}
use mathlib.Core.Bool.{Bool, true, false}
use mathlib.Core.List.{List, [], ◌∷◌, ◌++◌, map, append_assoc}
use lib.Dec.{leb}
use lib.IntN.{ℤ}
use lib.ListN.{length, get_or, drop, set, length-set, length-map, drop_of_length-le}
use lib.Seq.{sets, drop-cons, drop-drop, drop-length, drop_at}
use lib.Ieee.{Float}
use borrow.Author.Rules.{rules}
use borrow.Author.Tests.{le-leb, lt-leb, leb-true, leb-false}
use Rattle.format.specs.Lent.{sets-front}
use Rattle.format.specs.WayData.{Node, concat}
use Rattle.format.specs.Nodes.{zero64, block_nodes, initial_node, node_counts}
use Rattle.format.proofs.NodeLaws.{length-block_nodes}
use Rattle.initial_positions.specs.Initial.{first_of, initials, write_initials}

-- one value
module _ (v : List Float) (pos n : ℕ) where
  pub first-none : n < 1 → zero64 ≡ first_of n (drop pos v)
  first-none h = go n h
    where
      go : (n : ℕ) → n < 1 → zero64 ≡ first_of n (drop pos v)
      go zero h = refl
      go (suc n) h = absurd (omega arith)

  pub first_past : 1 ≤ n → length v ≤ pos → zero64 ≡ first_of n (drop pos v)
  first_past h b = rw (drop_of_length-le v b) (go n)
    where
      go : (n : ℕ) → zero64 ≡ first_of n []
      go zero = refl
      go (suc n) = refl

  -- whatever is read past the end
  pub first-here : (d : Float) → 1 ≤ n → pos < length v → get_or v pos d ≡ first_of n (drop pos v)
  first-here d h b = rw (drop-cons v pos d b) (go n h)
    where
      go : (n : ℕ) → 1 ≤ n → get_or v pos d ≡ first_of n (get_or v pos d ∷ drop (suc pos) v)
      go zero h = absurd (omega arith)
      go (suc n) h = refl

-- the loop: what is left, written to the list as it is, gives what is to be written
pub record InitialsLeft (counts : List ℕ) (values l : List Float) (i pos : ℕ) (target : List Float) : Type 0 where
  pub room : length counts ≤ length l
  pub within : pos ≤ length values
  pub is : sets l i (initials (drop i counts) (drop pos values)) ≡ target

pub initials-start : (counts : List ℕ) (values l : List Float) → length counts ≤ length l → InitialsLeft counts values l 0 0 (sets l 0 (initials counts values))
initials-start counts values l h = record { room = h; within = omega arith; is = refl }

drop_min : (v : List Float) (pos n : ℕ) → drop (min (pos + n) (length v)) v ≡ drop n (drop pos v)
drop_min v pos n = go (leb (pos + n) (length v)) refl
  where
    go : (t : Bool) → leb (pos + n) (length v) ≡ t → drop (min (pos + n) (length v)) v ≡ drop n (drop pos v)
    go true h =
        let l = leb-true (pos + n) (length v) h in
        let e : min (pos + n) (length v) ≡ pos + n = omega arith in
        rw (e, drop-drop n pos v)
    go false h =
        let l = leb-false (pos + n) (length v) h in
        let e : min (pos + n) (length v) ≡ length v = omega arith in
        let k : length v ≤ pos + n = omega arith in
        rw (e, drop-drop n pos v, drop-length v, drop_of_length-le v k)

pub initials-more : (counts : List ℕ) (values l : List Float) (i pos n p : ℕ) (x : Float) (target : List Float) → InitialsLeft counts values l i pos target → i < length counts → n ≡ get_or counts i 0 → x ≡ first_of n (drop pos values) → p ≡ min (pos + n) (length values)
    → InitialsLeft counts values (set l i x) (i + 1) p target
initials-more counts values l i pos n p x target y h q d f = record {
  room = simp length-set y.room;
  within = omega arith;
  is = rw (add-one, f, drop_min values pos n, d, q) (rw (drop-cons counts i 0 h) at y.is);
}

pub initials-done : (counts : List ℕ) (values l l₀ : List Float) (i pos : ℕ) → InitialsLeft counts values l i pos (sets l₀ 0 (initials counts values)) → length counts ≤ i → length counts ≤ length l₀ → l ≡ write_initials counts values l₀
initials-done counts values l l₀ i pos y h b =
    let n = length-initials counts values in
    rw (le-leb (length counts) (length l₀) b) ((rw (drop_of_length-le counts h) at y.is) ∙ sets-front (initials counts values) l₀ (omega arith))
  where
    length-initials : (c : List ℕ) (v : List Float) → length (initials c v) ≡ length c
    length-initials [] v = refl
    length-initials (k ∷ c) v = ap suc (length-initials c (drop k v))

pub initials-short : (counts : List ℕ) (values l : List Float) → length l < length counts → l ≡ write_initials counts values l
initials-short counts values l h = rw (lt-leb (length counts) (length l) h)

pub ruleset positions = (rules, first-none, first_past, first-here, initials-start, initials-more, initials-done, initials-short)

-- of the lists of a way, whatever lies behind its nodes: the format's
module _ (t : Bool) (of : Node → ℤ) where
  first-is : (b : List Node) (v : List Float) → first_of (length b) (block_nodes t (map of b) ++ v) ≡ initial_node (map of b)
  first-is [] v = refl
  first-is (x ∷ b) v = refl

  pub initials-are : (blocks : List (List Node)) (v : List Float) → initials (node_counts blocks) (concat (map (λ b. block_nodes t (map of b)) blocks) ++ v) ≡ map (λ b. initial_node (map of b)) blocks
  initials-are [] v = refl
  initials-are (b ∷ blocks) v =
      let rest = concat (map (λ b. block_nodes t (map of b)) blocks) in
      rw (append_assoc (block_nodes t (map of b)) rest v, first-is b (rest ++ v), drop_at (block_nodes t (map of b)) (rest ++ v) (length b) (length-block_nodes t (map of b) ∙ length-map b of), initials-are blocks v)
