-- Texts that were read are parts of the map, so what is streamed of a stored feature is told by its spans and the map.
use Prim.Native.Nat.{ℕ, zero, suc, ◌+◌, ◌^◌}
use mathlib.Core.Path.{◌≡◌, refl, sym, ap, subst}
use mathlib.Core.Bool.{Bool, true, false, cond}
use mathlib.Core.List.{List, []}
use lib.Dec.{leb}
use lib.ListN.{length, take, drop}
use Rattle.parsing.specs.Parse.{ok, no, Parser, bind, return, fail, pick, chunk, Part, part, Maybe, none, some, optional}
use Rattle.parsing.specs.Good.{split, ok-val, no_ok}
use Rattle.text.specs.Utf8.{valid}
use Rattle.utils.specs.Vbe.{noted, noted_unsigned, noted_text, text}
use Rattle.format.specs.Streamed.{streamed_maybe}
use Rattle.format.specs.Tile.{maybe_value}
use Rattle.types.specs.Types.{optional_span}
use Rattle.std.specs.Prelude.{Some}
use Rattle.fields.specs.Fields.{streamed_span}

-- what a success on the map m gives
pub record Gives {A : Type 0} (m : List ℕ) (p : Parser A) (Q : A → Type 0) : Type 0 where
  pub holds : (i : ℕ) (a : A) (e : ℕ) → p m i ≡ ok a e → Q a

module _ (m : List ℕ) where
  pub any : {A : Type 0} (p : Parser A) → Gives m p (λ _. Unit)
  any p = record { holds = λ i a e h. tt }

  pub gives-return : {A : Type 0} (a : A) (Q : A → Type 0) → Q a → Gives m (return a) Q
  gives-return a Q q = record { holds = λ i b e h. subst Q (ok-val h) q }

  pub gives-bind : {A B : Type 0} {p : Parser A} {f : A → Parser B} {P : A → Type 0} {Q : B → Type 0} → Gives m p P → ((a : A) → P a → Gives m (f a) Q) → Gives m (bind p f) Q
  gives-bind {p = p} {f = f} g h = record {
    holds = λ i b e k.
        let s = split (p m i) (λ a x. f a m x) b e k in
        (h s.val (g.holds i s.val s.mid s.first)).holds s.mid b e s.second;
  }

  pub gives-pick : {A : Type 0} {p q : Parser A} {Q : A → Type 0} (c : Bool) → Gives m p Q → Gives m q Q → Gives m (pick c p q) Q
  gives-pick true g h = g
  gives-pick false g h = h

  pub gives-fail : {A : Type 0} (n : ℕ) (v : List ℕ) (Q : A → Type 0) → Gives m (fail n v) Q
  gives-fail n v Q = record { holds = λ i b e h. no_ok h }

-- a part of the map m, with its bytes
pub record PartOf (m : List ℕ) (p : Part) : Type 0 where
  pub bytes : p.bytes ≡ take p.size (drop p.start m)

pub data Within (m : List ℕ) : Maybe Part → Type 0 where
  absent : Within m none
  stored : {p : Part} → PartOf m p → Within m (some p)

chunk_bytes : (m : List ℕ) (n i : ℕ) (b : List ℕ) (e : ℕ) → chunk n m i ≡ ok b e → b ≡ take n (drop i m)
chunk_bytes m zero i b e h = sym (ok-val h)
chunk_bytes m (suc n) i b e h = guarded (leb (i + suc n) (length m)) h
  where
    guarded : (c : Bool) → cond c (ok (take (suc n) (drop i m)) (i + suc n)) (no 1 []) ≡ ok b e → b ≡ take (suc n) (drop i m)
    guarded true k = sym (ok-val k)
    guarded false k = no_ok k

part-within : (m : List ℕ) (n : ℕ) → Gives m (part n) (PartOf m)
unfolding part
part-within m n = record {
  holds = λ i p e h.
      let s = split (chunk n m i) (λ b x. ok (record { start = i; size = n; bytes = b }) x) p e h in
      subst (PartOf m) (ok-val s.second) (record { bytes = chunk_bytes m n i s.val s.mid s.first });
}

pub noted-within : (m : List ℕ) → Gives m noted_text (λ t. PartOf m t.value)
unfolding noted_text
noted-within m =
    gives-bind m (any m noted_unsigned)
    (λ n _. gives-pick m (leb n.value (2 ^ 20)) (gives-bind m (part-within m n.value) (λ p h. gives-return m (noted p n.plain) _ h)) (gives-fail m 9 [] _))

pub text-within : (m : List ℕ) → Gives m text (PartOf m)
unfolding text
text-within m = gives-bind m (noted-within m) (λ t h. gives-return m t.value (PartOf m) h)

pub optional-within : (m : List ℕ) (c : Bool) → Gives m (optional c noted_text) (λ q. Within m (maybe_value q))
unfolding optional
optional-within m true = gives-bind m (noted-within m) (λ t h. gives-return m (some t) _ (stored h))
optional-within m false = gives-return m none _ absent

pub streamed-view : (m : List ℕ) (q : Maybe Part) → Within m q → streamed_span m (optional_span q) ≡ optional_span (streamed_maybe q)
streamed-view m none absent = refl
streamed-view m (some p) (stored h) =
    ap (λ (b : List ℕ). Some (record { start = p.start; size = cond (valid b) p.size 0 })) (sym h.bytes)
