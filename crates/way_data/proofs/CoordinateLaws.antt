-- A coordinate that is known to be readable: its bytes are there, and those of a short one say it.
use Prim.Native.Nat.{ℕ, ◌+◌, ◌*◌, ◌/◌, ◌%◌, ◌^◌, ◌<◌, ◌≤◌}
use native.Mathlib.Omega.{arith}
use mathlib.Core.Path.{◌≡◌, refl, sym, ap, subst}
use mathlib.Core.Bool.{Bool, true, false, cond}
use mathlib.Core.List.{List, []}
use lib.Dec.{ltb, leb, lit<}
use lib.IntN.{ℤ, nat_abs}
use lib.ListN.{length, get_or}
use borrow.Author.Rules.{rules}
use borrow.Author.Tests.{ltb-true, ltb-false}
use Rattle.parsing.specs.Parse.{Res, ok, no, and_then, map_res, Fine}
use Rattle.parsing.specs.Good.{split, ok-val}
use Rattle.error.specs.Refusals.{refused}
use Rattle.error.specs.declared.Refusal.{Refusal}
use Rattle.utils.specs.Vbe.{Noted, Groups, groups, signed_of, noted_signed, noted_coordinate, signed, coordinate}
use Rattle.utils.proofs.VbeLaws.{above, above-none, loop-past, loop-last, loop-more}
use Rattle.utils.proofs.CoordinateLaws.{coordinate-small}
use Rattle.way_data.specs.Writes.{node_alone, node_res, Exact}
use Rattle.way_measure.specs.declared.Node.{Node as CodeNode}

pub fine-first : {A B : Type 0} (r : Res A) (k : A → ℕ → Res B) → Fine (and_then r k) → Fine r
fine-first (ok a e) k f = tt
fine-first (no n v) k f = absurd f

abbrev alone : {A : Type 0} → Noted A → A
alone v = v.value

abbrev limited : Noted ℤ → ℕ → Res (Noted ℤ)
limited v e = cond (leb (nat_abs v.value) (2 ^ 53)) (ok v e) (no 12 [])

-- it is the signed number, since only a refusal tells the two apart
signed_is : (s : List ℕ) (at : ℕ) → Fine (coordinate s at) → signed s at ≡ coordinate s at
unfolding coordinate noted_coordinate signed
signed_is s at f = go (noted_signed s at) f
  where
    within : (t : Bool) (v : Noted ℤ) (e : ℕ) → Fine (map_res alone (cond t (ok v e) (no 12 []))) → ok v.value e ≡ map_res alone (cond t (ok v e) (no 12 []))
    within true v e f = refl
    within false v e f = absurd f

    go : (r : Res (Noted ℤ)) → Fine (map_res alone (and_then r limited)) → map_res alone r ≡ map_res alone (and_then r limited)
    go (ok v e) f = within (leb (nat_abs v.value) (2 ^ 53)) v e f
    go (no n l) f = absurd f

module _ (s : List ℕ) (at : ℕ) (f : Fine (coordinate s at)) where
  abbrev all : Res Groups
  all = groups 64 9 s at

  groups-fine : Fine all
  unfolding coordinate noted_coordinate noted_signed
  groups-fine = fine-first all _ (fine-first (noted_signed s at) _ (fine-first (noted_coordinate s at) _ f))

  -- where the number goes on there is a byte
  there : (v w k next : ℕ) → map_res (above v w) (groups 64 k s next) ≡ all → 0 < k → next < length s
  there v w k next e h = go (ltb next (length s)) refl
    where
      go : (t : Bool) → ltb next (length s) ≡ t → next < length s
      go true q = ltb-true next (length s) q
      go false q = absurd (rw (← (loop-past 64 s all v w k next e h (ltb-false next (length s) q))) at groups-fine)

  says : (v v' g w e e' : ℕ) (y : ℤ) → ok (record { magnitude = v; sign = g; weight = w }) e ≡ all → v ≡ v' → e ≡ e' → y ≡ signed_of v' g → ok y e' ≡ coordinate s at
  unfolding signed noted_signed
  says v v' g w e e' y q i j k = rw (k, ← i, ← j, ← (signed_is s at f), ← q)

  pub first-there : at < length s
  first-there = there 0 1 9 at (above-none all) (lit< tt)

  module _ (a : ℕ) (qa : a ≡ get_or s at 0) where
    pub one_byte : (y : ℤ) → a < 128 → y ≡ signed_of (a % 64) (a / 64) → ok y (at + 1) ≡ coordinate s at
    one_byte y l k = says _ (a % 64) (a / 64) _ _ (at + 1) y (loop-last 64 s all 0 1 9 at (above-none all) a (lit< tt) first-there qa l) (omega arith) refl k

    module _ (la : 128 ≤ a) where
      rest1 : map_res (above (0 + 1 * (a % 128)) (1 * 128)) (groups 64 8 s (at + 1)) ≡ all
      rest1 = loop-more 64 s all 0 1 9 at (above-none all) a (lit< tt) first-there qa la

      pub second-there : at + 1 < length s
      second-there = there _ _ 8 (at + 1) rest1 (lit< tt)

      module _ (b : ℕ) (qb : b ≡ get_or s (at + 1) 0) where
        pub two_bytes : (y : ℤ) → b < 128 → y ≡ signed_of (a % 128 + 128 * (b % 64)) (b / 64) → ok y (at + 2) ≡ coordinate s at
        two_bytes y l k = says _ (a % 128 + 128 * (b % 64)) (b / 64) _ _ (at + 2) y (loop-last 64 s all _ _ 8 (at + 1) rest1 b (lit< tt) second-there qb l) (omega arith) (omega arith) k

        module _ (lb : 128 ≤ b) where
          rest2 : map_res (above (0 + 1 * (a % 128) + 1 * 128 * (b % 128)) (1 * 128 * 128)) (groups 64 7 s (at + 1 + 1)) ≡ all
          rest2 = loop-more 64 s all _ _ 8 (at + 1) rest1 b (lit< tt) second-there qb lb

          pub third-there : at + 2 < length s
          third-there = let h = there _ _ 7 (at + 1 + 1) rest2 (lit< tt) in omega arith

          pub three-bytes : (c : ℕ) (y : ℤ) → c ≡ get_or s (at + 2) 0 → c < 128 → y ≡ signed_of (a % 128 + 128 * (b % 128) + 16384 * (c % 64)) (c / 64) → ok y (at + 3) ≡ coordinate s at
          three-bytes c y qc l k =
              let j : at + 1 + 1 ≡ at + 2 = omega arith in
              says _ (a % 128 + 128 * (b % 128) + 16384 * (c % 64)) (c / 64) _ _ (at + 3) y
              (loop-last 64 s all _ _ 7 (at + 1 + 1) rest2 c (lit< tt) (there _ _ 7 (at + 1 + 1) rest2 (lit< tt)) (rw j qc) l)
              (omega arith) (omega arith) k

  -- any number of bytes
  pub long-is : (v : Noted ℤ) (e : ℕ) → ok v e ≡ noted_coordinate s at → ok v.value e ≡ coordinate s at
  unfolding coordinate
  long-is v e q = ap (map_res alone) q

  pub long-no : (r : Refusal) (y : ℤ) (e : ℕ) → refused r ≡ noted_coordinate s at → ok y e ≡ coordinate s at
  unfolding coordinate
  long-no r y e q = absurd (rw (← q) at f)

-- two of them
module _ (s : List ℕ) (at : ℕ) where
  pub latitude-fine : Fine (node_alone s at) → Fine (coordinate s at)
  unfolding node_alone
  latitude-fine f = fine-first (coordinate s at) _ f

  module _ (y : ℤ) (e : ℕ) (q : ok y e ≡ coordinate s at) where
    pub longitude-fine : Fine (node_alone s at) → Fine (coordinate s e)
    unfolding node_alone
    longitude-fine f = fine-first (coordinate s e) _ (rw (← q) at f)

    pub node-is : (x : ℤ) (i : ℕ) → ok x i ≡ coordinate s e → ok (record { latitude = y; longitude = x }) i ≡ node_alone s at
    unfolding node_alone
    node-is x i k = rw (← q, ← k)

-- exact as floats
alone-small : (s : List ℕ) (at : ℕ) (y : ℤ) (e : ℕ) → coordinate s at ≡ ok y e → nat_abs y ≤ 2 ^ 53
unfolding coordinate
alone-small s at y e h =
    let u = split (noted_coordinate s at) (λ v x. ok v.value x) y e h in
    subst (λ (z : ℤ). nat_abs z ≤ 2 ^ 53) (ok-val u.second) (coordinate-small.holds s at u.val u.mid u.first)

pub node-exact : (s : List ℕ) (at : ℕ) (g : CodeNode) (e : ℕ) → node_res (g, e) ≡ node_alone s at → Exact g
unfolding node_alone
node-exact s at g e q =
    let u = split (coordinate s at) (λ a x. and_then (coordinate s x) (λ o y. ok (record { latitude = a; longitude = o }) y)) _ _ (sym q) in
    let v = split (coordinate s u.mid) (λ o y. ok (record { latitude = u.val; longitude = o }) y) _ _ u.second in
    let n = ok-val v.second in
    (subst (λ (z : ℤ). nat_abs z ≤ 2 ^ 53) (ap (λ x. x.latitude) n) (alone-small s at u.val u.mid u.first), subst (λ (z : ℤ). nat_abs z ≤ 2 ^ 53) (ap (λ x. x.longitude) n) (alone-small s u.mid v.val v.mid v.first))

pub ruleset coordinates = (rules, one_byte, two_bytes, long-is, long-no, latitude-fine, longitude-fine, node-is)
