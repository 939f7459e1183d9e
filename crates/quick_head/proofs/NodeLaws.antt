-- Plain signed numbers: coordinates of one to four bytes, elevations of one and two.
use Prim.Native.Nat.{ℕ, zero, suc, ◌+◌, ◌-◌, ◌*◌, ◌/◌, ◌%◌, ◌^◌, ◌<◌, ◌≤◌}
use native.Mathlib.Omega.{arith}
use mathlib.Core.Path.{◌≡◌, refl, sym, ap, ◌∙◌}
use mathlib.Core.Bool.{Bool, true, false, not, cond}
use mathlib.Core.List.{List}
use lib.Dec.{eqb, lit<}
use lib.IntN.{ℤ, pos, neg_ℤ, nat_abs}
use lib.ListN.{length, get_or}
use lib.Signed.{mag}
use mir.Syntax.{w64}
use mir.Val.{to_z, of_z}
use mir.Facts.{to_z-of_z}
use borrow.Author.Rules.{rules}
use borrow.Author.Tests.{le-leb, ne_eqb}
use Rattle.std.specs.Prelude.{Option, IfSome}
use Rattle.std.proofs.lemmas.Option.{IfSome_then}
use Rattle.parsing.specs.Parse.{ok, map_res}
use Rattle.parsing.proofs.Steps.{eqb_yes, eqb_no}
use Rattle.utils.specs.Vbe.{groups, noted, signed_of, plain_signed, noted_signed, noted_coordinate}
use Rattle.utils.proofs.VbeLaws.{above, above-none, loop-more, loop-last, first_plain}
use Rattle.utils.proofs.SignedLaws.{neg-sfits, minus_is}
use Rattle.format.specs.WayData.{node}
use Rattle.quick_head.specs.Quick.{Reads, whole, SignedIs}
use Rattle.quick_head.proofs.QuickLaws.{reads-inside, whole_is}

abs-signed : (m : ℕ) (t : Bool) → nat_abs (cond t (pos m) (neg_ℤ (pos m))) ≡ m
abs-signed m true = refl
abs-signed zero false = refl
abs-signed (suc m) false = refl

-- the bits of a number that the code made, as a pair holds them
pub signed-made : (v s e : ℕ) (P : Type 0) (y : ℤ) → P → y ≡ signed_of v s → mag y < 2 ^ 63 → SignedIs v s P e (to_z w64 (of_z w64 y)) e
signed-made v s e P y p k z = record { plain = p; value = to_z-of_z {w = w64} {z = y} (record { sfits = z }) ∙ k; behind = refl }

-- one byte that is not 40, in base 16
one_plain : (a : ℕ) → a < 128 → (a ≡ 64 → ⊥) → plain_signed (a % 64) (a / 64) 1 ≡ true
one_plain a l n = sym (first_plain a l) ∙ ap not (ne_eqb a 64 n)

-- what the code's bytes say: a number of magnitude v and weight w
module _ (m : List ℕ) (at : ℕ) (r : Option (ℤ × ℕ)) where
  made : (v v' s w e e' : ℕ) (P : Type 0) (z : ℤ) (n : ℕ) → ok (record { magnitude = v; sign = s; weight = w }) e ≡ groups 64 9 m at → v ≡ v' → e ≡ e' → v' < 2 ^ 53 → (P → plain_signed v' s w ≡ true) → e' ≤ length m → SignedIs v' s P e' z n → Reads whole (noted_coordinate m at) (length m) (noted z true) n
  unfolding noted_coordinate noted_signed
  made v v' s w e e' P z n g p q b pl i k =
      let a : nat_abs (signed_of v s) ≤ 2 ^ 53 = rw (abs-signed v (eqb s 0)) (omega arith) in
      record { same = rw (← g, le-leb (nat_abs (signed_of v s)) (2 ^ 53) a, k.value, k.behind, p, q, pl k.plain); inside = rw k.behind i }

  module _ (f : at + 4 ≤ length m) (a : ℕ) (qa : a ≡ get_or m at 0) where
    pub one_byte : a < 128 → IfSome r (λ x. SignedIs (a % 64) (a / 64) (a ≡ 64 → ⊥) (at + 1) x.0 x.1) → IfSome r (λ x. Reads whole (noted_coordinate m at) (length m) (noted x.0 true) x.1)
    one_byte l k = IfSome_then r k (λ x k.
        made (0 + 1 * (a % 64)) (a % 64) (a / 64) 1 (at + 1) (at + 1) _ x.0 x.1
        (loop-last 64 m (groups 64 9 m at) 0 1 9 at (above-none (groups 64 9 m at)) a (lit< tt) (omega arith) qa l)
        (omega arith) refl (omega arith) (one_plain a l) (omega arith) k)

    module _ (la : 128 ≤ a) (b : ℕ) (qb : b ≡ get_or m (at + 1) 0) where
      rest1 : map_res (above (0 + 1 * (a % 128)) (1 * 128)) (groups 64 8 m (at + 1)) ≡ groups 64 9 m at
      rest1 = loop-more 64 m (groups 64 9 m at) 0 1 9 at (above-none (groups 64 9 m at)) a (lit< tt) (omega arith) qa la

      pub two_bytes : b < 128 → IfSome r (λ x. SignedIs (a % 128 + 128 * (b % 64)) (b / 64) (64 ≤ a % 128 + 128 * (b % 64)) (at + 2) x.0 x.1) → IfSome r (λ x. Reads whole (noted_coordinate m at) (length m) (noted x.0 true) x.1)
      two_bytes l k = IfSome_then r k (λ x k.
          made _ (a % 128 + 128 * (b % 64)) (b / 64) 128 _ (at + 2) _ x.0 x.1
          (loop-last 64 m (groups 64 9 m at) _ _ 8 (at + 1) rest1 b (lit< tt) (omega arith) qb l)
          (omega arith) (omega arith) (omega arith) (λ h. le-leb 128 (2 * (a % 128 + 128 * (b % 64))) (omega arith)) (omega arith) k)

      module _ (lb : 128 ≤ b) (c : ℕ) (qc : c ≡ get_or m (at + 2) 0) where
        rest2 : map_res (above (0 + 1 * (a % 128) + 1 * 128 * (b % 128)) (1 * 128 * 128)) (groups 64 7 m (at + 1 + 1)) ≡ groups 64 9 m at
        rest2 = loop-more 64 m (groups 64 9 m at) _ _ 8 (at + 1) rest1 b (lit< tt) (omega arith) qb lb

        qc' : c ≡ get_or m (at + 1 + 1) 0
        qc' = let j : at + 1 + 1 ≡ at + 2 = omega arith in rw j qc

        abbrev three : ℕ
        three = a % 128 + 128 * (b % 128) + 16384 * (c % 64)

        pub three-bytes : c < 128 → IfSome r (λ x. SignedIs (a % 128 + 128 * (b % 128) + 16384 * (c % 64)) (c / 64) (8192 ≤ a % 128 + 128 * (b % 128) + 16384 * (c % 64)) (at + 3) x.0 x.1) → IfSome r (λ x. Reads whole (noted_coordinate m at) (length m) (noted x.0 true) x.1)
        three-bytes l k = IfSome_then r k (λ x k.
            made _ three (c / 64) 16384 _ (at + 3) _ x.0 x.1
            (loop-last 64 m (groups 64 9 m at) _ _ 7 (at + 1 + 1) rest2 c (lit< tt) (omega arith) qc' l)
            (omega arith) (omega arith) (omega arith) (λ h. le-leb 16384 (2 * three) (omega arith)) (omega arith) k)

        pub four_bytes : (d : ℕ) → 128 ≤ c → d ≡ get_or m (at + 3) 0 → d < 128 → IfSome r (λ x. SignedIs (a % 128 + 128 * (b % 128) + 16384 * (c % 128) + 2097152 * (d % 64)) (d / 64) (1048576 ≤ a % 128 + 128 * (b % 128) + 16384 * (c % 128) + 2097152 * (d % 64)) (at + 4) x.0 x.1) → IfSome r (λ x. Reads whole (noted_coordinate m at) (length m) (noted x.0 true) x.1)
        four_bytes d lc qd l k =
            let j : at + 1 + 1 + 1 ≡ at + 3 = omega arith in
            let four = a % 128 + 128 * (b % 128) + 16384 * (c % 128) + 2097152 * (d % 64) in
            IfSome_then r k (λ x k.
            made _ four (d / 64) 2097152 _ (at + 4) _ x.0 x.1
            (loop-last 64 m (groups 64 9 m at) _ _ 6 (at + 1 + 1 + 1)
            (loop-more 64 m (groups 64 9 m at) _ _ 7 (at + 1 + 1) rest2 c (lit< tt) (omega arith) qc' lc)
            d (lit< tt) (omega arith) (rw j qd) l)
            (omega arith) (omega arith) (omega arith) (λ h. le-leb 2097152 (2 * four) (omega arith)) (omega arith) k)

module _ (m : List ℕ) (at : ℕ) (r : Option (ℤ × ℕ)) where
  whole-signed : (v v' s w e e' : ℕ) (P : Type 0) (z : ℤ) (n : ℕ) → ok (record { magnitude = v; sign = s; weight = w }) e ≡ groups 64 9 m at → v ≡ v' → e ≡ e' → (P → plain_signed v' s w ≡ true) → e' ≤ length m → SignedIs v' s P e' z n → Reads whole (noted_signed m at) (length m) (noted z true) n
  unfolding noted_signed
  whole-signed v v' s w e e' P z n g p q pl i k = record { same = rw (← g, k.value, k.behind, p, q, pl k.plain); inside = rw k.behind i }

  pub signed-one : (a : ℕ) → a ≡ get_or m at 0 → at < length m → a < 128 → IfSome r (λ x. SignedIs (a % 64) (a / 64) (a ≡ 64 → ⊥) (at + 1) x.0 x.1) → IfSome r (λ x. Reads whole (noted_signed m at) (length m) (noted x.0 true) x.1)
  signed-one a qa h l k = IfSome_then r k (λ x k.
      whole-signed (0 + 1 * (a % 64)) (a % 64) (a / 64) 1 (at + 1) (at + 1) _ x.0 x.1
      (loop-last 64 m (groups 64 9 m at) 0 1 9 at (above-none (groups 64 9 m at)) a (lit< tt) h qa l)
      (omega arith) refl (one_plain a l) (omega arith) k)

  pub signed-two : (a b : ℕ) → a ≡ get_or m at 0 → at < length m → 128 ≤ a → 2 ≤ length m - at → b ≡ get_or m (at + 1) 0 → b < 128 → IfSome r (λ x. SignedIs (a % 128 + 128 * (b % 64)) (b / 64) (64 ≤ a % 128 + 128 * (b % 64)) (at + 2) x.0 x.1) → IfSome r (λ x. Reads whole (noted_signed m at) (length m) (noted x.0 true) x.1)
  signed-two a b qa h la f qb l k = IfSome_then r k (λ x k.
      whole-signed _ (a % 128 + 128 * (b % 64)) (b / 64) 128 _ (at + 2) _ x.0 x.1
      (loop-last 64 m (groups 64 9 m at) _ _ 8 (at + 1)
      (loop-more 64 m (groups 64 9 m at) 0 1 9 at (above-none (groups 64 9 m at)) a (lit< tt) h qa la)
      b (lit< tt) (omega arith) qb l)
      (omega arith) (omega arith) (λ h. le-leb 128 (2 * (a % 128 + 128 * (b % 64))) (omega arith)) (omega arith) k)

-- two of them
module _ (m : List ℕ) (at : ℕ) where
  pub node-is : (y x : ℤ) (n e : ℕ) → Reads whole (noted_coordinate m at) (length m) (noted y true) n → Reads whole (noted_coordinate m n) (length m) (noted x true) e → mag y < 2 ^ 63 → mag x < 2 ^ 63 → Reads whole (node m at) (length m) (noted (record { latitude = to_z w64 (of_z w64 y); longitude = to_z w64 (of_z w64 x) }) true) e
  unfolding node
  node-is y x n e r s u v =
      record {
        same = rw (whole_is (noted_coordinate m at) r.same, whole_is (noted_coordinate m n) s.same, to_z-of_z {w = w64} {z = y} (record { sfits = u }), to_z-of_z {w = w64} {z = x} (record { sfits = v }));
        inside = s.inside;
      }

pub ruleset nodes = (rules, signed-made, one_byte, two_bytes, three-bytes, four_bytes, signed-one, signed-two, reads-inside, node-is, neg-sfits, minus_is, eqb_yes, eqb_no)
