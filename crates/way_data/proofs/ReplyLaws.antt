-- Way data delivered, or not: the replies by the tests that the code makes.
use Prim.Native.Nat.{ℕ, ◌≤◌}
use native.Mathlib.Omega.{arith}
use mathlib.Core.Path.{◌≡◌, refl, sym, ap, ◌∙◌}
use mathlib.Core.Bool.{Bool, true, false, cond, ◌||◌, ◌&&◌}
use mathlib.Core.List.{List}
use lib.Dec.{leb, ltb}
use lib.ListN.{length, length-map}
use lib.Ieee.{Float}
use borrow.Author.Tests.{ltb-true, ltb-false, le-leb, lt-leb}
use Rattle.parsing.specs.Parse.{Res, ok, no, map_res, list_of}
use Rattle.parsing.specs.Good.{ok-val, ok_at, no_ok}
use Rattle.error.specs.Refusals.{refused, lent_refused, lent_values}
use Rattle.error.specs.declared.LentRefusal.{LentRefusal}
use Rattle.error.specs.declared.Refusal.{Refusal}
use Rattle.utils.specs.Vbe.{Noted, noted, values_of, all_plain}
use Rattle.format.specs.Lent.{Reply, fits, written, needed, sets-front}
use Rattle.format.specs.WayData.{Node, concat, node_count}
use Rattle.format.specs.Nodes.{latitude_of, longitude_of, node_counts, latitudes, longitudes, way_lists}
use Rattle.way_measure.specs.Answers.{sizes_of, way_sizes}
use Rattle.way_measure.specs.declared.Sizes.{Sizes}
use Rattle.way_data.specs.Reply.{lent, read_way_data}
use Rattle.way_data.specs.Writes.{shorter, too_short, BlocksFit, BlocksWritten}
use Rattle.way_data.specs.declared.Progress.{Progress}
use Rattle.way_data.proofs.BlockLaws.{length-along}

abbrev WayData : Type 0
WayData = Res (List (Noted (List (List Node))))

-- the test of the lengths
module _ (z : Sizes) (c l o : ℕ) where
  long-enough : shorter z c l o ≡ false → (z.blocks ≤ c) × (z.nodes ≤ l) × (z.nodes ≤ o)
  long-enough h =
      let u = neither (ltb c z.blocks || ltb l z.nodes) (ltb o z.nodes) h in
      let v = neither (ltb c z.blocks) (ltb l z.nodes) u.0 in
      (ltb-false c z.blocks v.0, ltb-false l z.nodes v.1, ltb-false o z.nodes u.1)
    where
      neither : (a b : Bool) → (a || b) ≡ false → (a ≡ false) × (b ≡ false)
      neither true b h = (h, absurd (let x : ◌≡◌ {A = ℕ} 0 1 = ap (λ (y : Bool). cond y 0 1) h in omega arith))
      neither false b h = (refl, h)

-- by the lengths of what goes to the lists
flip : (a b : ℕ) → leb b a ≡ cond (ltb a b) false true
flip a b = go (ltb a b) refl
  where
    go : (x : Bool) → ltb a b ≡ x → leb b a ≡ cond x false true
    go true h = lt-leb b a (ltb-true a b h)
    go false h = le-leb b a (ltb-false a b h)

none-shorter : (x y z : Bool) → (cond x false true && cond y false true && cond z false true) ≡ cond (x || y || z) false true
none-shorter true y z = refl
none-shorter false true z = refl
none-shorter false false true = refl
none-shorter false false false = refl

-- the blocks of a way, and whether all were plain
abbrev all : List (Noted (List (List Node))) → Noted (List (List Node))
all d = noted (concat (values_of d)) (all_plain d)

module _ (t : Bool) (c : List ℕ) (la lo : List Float) where
  abbrev unchanged : Res Sizes → Reply (Res Sizes)
  unchanged a = record { answer = a; lists = lent c la lo }

  abbrev delivered : Noted (List (List Node)) → ℕ → Reply (Res Sizes)
  delivered b e = record { answer = ok (sizes_of b) e; lists = written (way_lists t b.value) (lent c la lo) }

  fits-is : (b : Noted (List (List Node))) → fits (way_lists t b.value) (lent c la lo) ≡ cond (shorter (sizes_of b) (length c) (length la) (length lo)) false true
  fits-is b =
      rw (
        length-map b.value length,
        length-along t latitude_of b.value,
        length-along t longitude_of b.value,
        flip (length c) (length b.value),
        flip (length la) (node_count b.value),
        flip (length lo) (node_count b.value),
      ) (none-shorter (ltb (length c) (length b.value)) (ltb (length la) (node_count b.value)) (ltb (length lo) (node_count b.value)))

  needed-is : (b : Noted (List (List Node))) → needed (way_lists t b.value) ≡ lent_values (too_short (sizes_of b))
  needed-is b = rw (length-map b.value length, length-along t latitude_of b.value, length-along t longitude_of b.value) refl

  pub reply-no : (r : WayData) (x : Refusal) → refused x ≡ map_res way_sizes r → unchanged (refused x) ≡ read_way_data t r c la lo
  reply-no (ok d e) x q = no_ok q
  reply-no (no n v) x q = ap unchanged q

  module _ (z : Sizes) (e : ℕ) where
    -- what a caller that has measured gets
    short-is : (r : WayData) → map_res way_sizes r ≡ ok z e → shorter z (length c) (length la) (length lo) ≡ true → read_way_data t r c la lo ≡ unchanged (lent_refused (too_short z))
    short-is (no n v) m f = no_ok m
    short-is (ok d i) m f =
        let f' : shorter (way_sizes d) (length c) (length la) (length lo) ≡ true = ap (λ s. shorter s (length c) (length la) (length lo)) (ok-val m) ∙ f in
        rw (fits-is (all d), f') (ap (λ v. unchanged (no 15 v)) (needed-is (all d) ∙ ap (λ s. lent_values (too_short s)) (ok-val m)))

    delivered-is : (r : WayData) → map_res way_sizes r ≡ ok z e → shorter z (length c) (length la) (length lo) ≡ false → read_way_data t r c la lo ≡ delivered (all (list_of r)) e
    delivered-is (no n v) m f = no_ok m
    delivered-is (ok d x) m f =
        let f' : shorter (way_sizes d) (length c) (length la) (length lo) ≡ false = ap (λ s. shorter s (length c) (length la) (length lo)) (ok-val m) ∙ f in
        rw (fits-is (all d), f') (ap (delivered (all d)) (ok_at m))

    -- where the second pass starts
    module _ (at : ℕ) (f : shorter z (length c) (length la) (length lo) ≡ false) where
      abbrev start : Progress
      start = record { next = at; blocks = 0; nodes = 0 }

      fit-as : (r : WayData) → map_res way_sizes r ≡ ok z e → BlocksFit (map_res concat (map_res values_of r)) start c la lo
      fit-as (no n v) m = no_ok m
      fit-as (ok d x) m =
          let l = long-enough z (length c) (length la) (length lo) f in
          let u : length (concat (values_of d)) ≡ z.blocks = ap (λ (s : Sizes). s.blocks) (ok-val m) in
          let v : node_count (concat (values_of d)) ≡ z.nodes = ap (λ (s : Sizes). s.nodes) (ok-val m) in
          record { fine = tt; counts = omega arith; lats = omega arith; lons = omega arith }

      done-as : (r : WayData) (p : Progress) (c' : List ℕ) (la' lo' : List Float) → map_res way_sizes r ≡ ok z e → BlocksWritten t (map_res concat (map_res values_of r)) start c la lo p c' la' lo' → ◌≡◌ {A = Reply (Res Sizes)} (record { answer = ok z e; lists = lent c' la' lo' }) (read_way_data t r c la lo)
      done-as (no n v) p c' la' lo' m w = no_ok m
      done-as (ok d x) p c' la' lo' m w =
          let b = concat (values_of d) in
          let l = long-enough z (length c) (length la) (length lo) f in
          let q : way_sizes d ≡ z = ok-val m in
          let u : length b ≡ z.blocks = ap (λ (s : Sizes). s.blocks) q in
          let v : node_count b ≡ z.nodes = ap (λ (s : Sizes). s.nodes) q in
          let n = length-along t latitude_of b in
          let o = length-along t longitude_of b in
          let y = length-map b length in
          rw (
            w.counts ∙ sets-front (node_counts b) c (omega arith),
            w.lats ∙ sets-front (latitudes t b) la (omega arith),
            w.lons ∙ sets-front (longitudes t b) lo (omega arith),
            ← q,
          ) (sym (delivered-is (ok d x) m f))

    -- the same by the code's answer; v is what the second pass reads
    module _ (r : WayData) (q : ok z e ≡ map_res way_sizes r) (k : Bool) (i : k ≡ shorter z (length c) (length la) (length lo)) where
      pub reply-short : (x : LentRefusal) → k ≡ true → x ≡ too_short z → unchanged (lent_refused x) ≡ read_way_data t r c la lo
      reply-short x j w = rw w (sym (short-is r (sym q) (sym i ∙ j)))

      module _ (v : Res (List (List (List Node)))) (y : map_res values_of r ≡ v) where
        pub reply-fit : (at : ℕ) → k ≡ false → BlocksFit (map_res concat v) (record { next = at; blocks = 0; nodes = 0 }) c la lo
        reply-fit at j = rw y at (fit-as at (sym i ∙ j) r (sym q))

        pub reply-done : (at : ℕ) (p : Progress) (c' : List ℕ) (la' lo' : List Float) → k ≡ false → BlocksWritten t (map_res concat v) (record { next = at; blocks = 0; nodes = 0 }) c la lo p c' la' lo' → ◌≡◌ {A = Reply (Res Sizes)} (record { answer = ok z e; lists = lent c' la' lo' }) (read_way_data t r c la lo)
        reply-done at p c' la' lo' j w = done-as at (sym i ∙ j) r p c' la' lo' (sym q) (rw (← y) at w)
