-- The kind, the key and the value of a tag may be taken from the stored text: what U+FFFD replaces has no `=`, no `%` and no letter.
use Prim.Native.Nat.{ℕ, zero, suc, ◌-◌, ◌<◌, ◌≤◌}
use native.Mathlib.Omega.{arith}
use native.Mathlib.Decide.{dec_lt}
use mathlib.Core.Path.{◌≡◌, refl, sym, ap, ◌∙◌, subst, subst₂}
use mathlib.Core.List.{List, [], ◌∷◌, ◌++◌}
use mathlib.Core.Bool.{Bool, true, false}
use lib.Dec.{eqb}
use lib.ListN.{length, take, drop, take-append-drop, drop_of_length-le}
use lib.Seq.{take-append_seam, drop-append-add, take-length}
use native.Mathlib.Numerals.{add-one}
use borrow.Author.Tests.{ne_eqb, eqb-true, eqb-false}
use Rattle.text.specs.declared.Sequence.{Sequence}
use Rattle.text.specs.declared.Sequence.TheVariants.{Char, Ill}
use Rattle.text.specs.Utf8.{sequence, size_of, sequence_bytes, sequences_from, bytes_of_all, replaced}
use Rattle.text.proofs.ReplacedLaws.{High, sequence-high, sequence-low, size-some, rest, by-sequences, replaced-first, HighBytes, bytes_high, replaced-split}
use Rattle.tag.specs.declared.Kind.TheVariants.{Nothing}
use Rattle.tag.specs.Tag.{equals_at, key_of, value_of, first, letter_after, kind_of, kind}

skip-one : (b : ℕ) (s : List ℕ) → (b ≡ 61 → ⊥) → letter_after (b ∷ s) ≡ letter_after s
unfolding letter_after
skip-one b [] h = refl
skip-one b (d ∷ s) h = simp (ne_eqb b 61 h)

skip-high : (xs s : List ℕ) → High xs → letter_after (xs ++ s) ≡ letter_after s
skip-high [] s h = refl
skip-high (x ∷ xs) s h = let k : 128 ≤ x = h.0 in skip-one x (xs ++ s) (λ e. omega arith) ∙ skip-high xs s h.1

after-no : (d : ℕ) (s : List ℕ) → (d ≡ 37 → ⊥) → letter_after (61 ∷ d ∷ s) ≡ letter_after (d ∷ s)
unfolding letter_after
after-no d s h = simp (ne_eqb d 37 h)

after-yes : (s : List ℕ) → letter_after (61 ∷ 37 ∷ s) ≡ first s
unfolding letter_after
after-yes s = refl

high-kind : (b : ℕ) → 128 ≤ b → kind_of b ≡ Nothing
high-kind b h = simp (ne_eqb b 98 (λ e. omega arith), ne_eqb b 104 (λ e. omega arith), ne_eqb b 105 (λ e. omega arith), ne_eqb b 102 (λ e. omega arith), ne_eqb b 115 (λ e. omega arith))

-- two texts that no tag tells apart: at the start, behind `=`, and behind `=%`
record Alike (s t : List ℕ) : Type 0 where
  plain : kind s ≡ kind t
  behind : kind (61 ∷ s) ≡ kind (61 ∷ t)
  letter : kind_of (first s) ≡ kind_of (first t)

none_alike : Alike [] []
none_alike = record { plain = refl; behind = refl; letter = refl }

-- a byte below 80 in front of both
low_alike : (b : ℕ) (s t : List ℕ) → Alike s t → Alike (b ∷ s) (b ∷ t)
low_alike b s t a = go (eqb b 61) (eqb b 37) refl refl
  where
    at_first : (x : Bool) → eqb b 61 ≡ x → kind (b ∷ s) ≡ kind (b ∷ t)
    at_first true e = let q : b ≡ 61 = eqb-true b 61 e in rw q a.behind
    at_first false e = ap kind_of (skip-one b s (eqb-false b 61 e)) ∙ a.plain ∙ sym (ap kind_of (skip-one b t (eqb-false b 61 e)))

    go : (x y : Bool) → eqb b 61 ≡ x → eqb b 37 ≡ y → Alike (b ∷ s) (b ∷ t)
    go x true e f =
        let q : b ≡ 37 = eqb-true b 37 f in
        record { plain = at_first x e; behind = rw q (ap kind_of (after-yes s) ∙ a.letter ∙ sym (ap kind_of (after-yes t))); letter = refl }
    go x false e f =
        let q : b ≡ 37 → ⊥ = eqb-false b 37 f in
        record { plain = at_first x e; behind = ap kind_of (after-no b s q) ∙ at_first x e ∙ sym (ap kind_of (after-no b t q)); letter = refl }

-- bytes of 80 and above in front of both
high-alike : (x y : ℕ) (xs ys s t : List ℕ) → 128 ≤ x → 128 ≤ y → High xs → High ys → Alike s t → Alike (x ∷ (xs ++ s)) (y ∷ (ys ++ t))
high-alike x y xs ys s t hx hy f g a =
    let p : kind (x ∷ (xs ++ s)) ≡ kind (y ∷ (ys ++ t)) = ap kind_of (skip-high (x ∷ xs) s (hx, f)) ∙ a.plain ∙ sym (ap kind_of (skip-high (y ∷ ys) t (hy, g))) in
    record {
      plain = p;
      behind = ap kind_of (after-no x (xs ++ s) (λ e. omega arith)) ∙ p ∙ sym (ap kind_of (after-no y (ys ++ t) (λ e. omega arith)));
      letter = high-kind x hx ∙ sym (high-kind y hy);
    }

first_alike : (b : ℕ) (s : List ℕ) → Alike (replaced (rest b s)) (rest b s) → Alike (replaced (b ∷ s)) (b ∷ s)
first_alike b s a = go (dec_lt b 128)
  where
    go : Dec (b < 128) → Alike (replaced (b ∷ s)) (b ∷ s)
    go (yes h) =
        let e : sequence b s ≡ Char b 1 = sequence-low b s h in
        let d : rest b s ≡ s = ap (λ r. drop (size_of r - 1) s) e in
        let f : replaced (b ∷ s) ≡ b ∷ replaced s = replaced-first b s ∙ ap (λ r. sequence_bytes r (b ∷ s) ++ replaced (drop (size_of r - 1) s)) e in
        rw f (low_alike b (replaced s) s (rw d at a))
    go (no h) =
        let k : 128 ≤ b = omega arith in
        let w : HighBytes (sequence_bytes (sequence b s) (b ∷ s)) = bytes_high (sequence b s) b s (size-some b s) k (sequence-high b s) in
        subst₂ Alike (sym (replaced-first b s ∙ ap (λ l. l ++ replaced (rest b s)) w.is))
        (ap (λ t. b ∷ t) (take-append-drop (size_of (sequence b s) - 1) s))
        (high-alike w.head b w.tail (take (size_of (sequence b s) - 1) s) (replaced (rest b s)) (rest b s) w.head-high k w.tail-high (sequence-high b s) a)

raw-alike : (s : List ℕ) → Alike (replaced s) s
unfolding sequences_from bytes_of_all
raw-alike s = by-sequences (λ t. Alike (replaced t) t) none_alike first_alike s

pub kind-raw : (s : List ℕ) → kind (replaced s) ≡ kind s
kind-raw s = (raw-alike s).plain

-- the key and the value of the replaced text are those of the stored text, replaced: no byte is `=`
abbrev No : List ℕ → Type 0
No [] = Unit {0}
No (x ∷ xs) = (x ≡ 61 → ⊥) × No xs

no-append : (s t : List ℕ) → No s → No t → No (s ++ t)
no-append [] t h k = k
no-append (x ∷ s) t h k = (h.0, no-append s t h.1 k)

no-take : (n : ℕ) (s : List ℕ) → No s → No (take n s)
no-take zero s h = tt
no-take (suc n) [] h = tt
no-take (suc n) (x ∷ s) h = (h.0, no-take n s h.1)

no_drop : (n : ℕ) (s : List ℕ) → No s → No (drop n s)
no_drop zero s h = h
no_drop (suc n) [] h = tt
no_drop (suc n) (x ∷ s) h = no_drop n s h.1

no_bytes : (p : Sequence) (s : List ℕ) → No s → No (sequence_bytes p s)
no_bytes (Char c n) s h = no-take n s h
no_bytes (Ill n) s h = ((λ e. omega arith), ((λ e. omega arith), ((λ e. omega arith), tt)))

no-first : (b : ℕ) (s : List ℕ) → (No (rest b s) → No (replaced (rest b s))) → No (b ∷ s) → No (replaced (b ∷ s))
no-first b s f h =
    subst No (sym (replaced-first b s))
    (no-append (sequence_bytes (sequence b s) (b ∷ s)) (replaced (rest b s)) (no_bytes (sequence b s) (b ∷ s) h) (f (no_drop (size_of (sequence b s) - 1) s h.1)))

no-replaced : (s : List ℕ) → No s → No (replaced s)
unfolding sequences_from bytes_of_all
no-replaced s = by-sequences (λ t. No t → No (replaced t)) (λ h. h) no-first s

-- a text by its first `=`
data Split (s : List ℕ) : Type 0 where
  whole : No s → Split s
  at : (u v : List ℕ) → No u → s ≡ u ++ (61 ∷ v) → Split s

split : (s : List ℕ) → Split s
split [] = whole tt
split (b ∷ s) = go (eqb b 61) refl (split s)
  where
    go : (x : Bool) → eqb b 61 ≡ x → Split s → Split (b ∷ s)
    go true e c = at [] s tt (ap (λ a. a ∷ s) (eqb-true b 61 e))
    go false e (whole h) = whole ((λ q. eqb-false b 61 e q), h)
    go false e (at u v h f) = at (b ∷ u) v ((λ q. eqb-false b 61 e q), h) (ap (λ t. b ∷ t) f)

equals-split : (u v : List ℕ) → No u → equals_at (u ++ (61 ∷ v)) ≡ length u
unfolding equals_at
equals-split [] v h = refl
equals-split (b ∷ u) v h = rw (ne_eqb b 61 h.0, equals-split u v h.1)

equals-whole : (u : List ℕ) → No u → equals_at u ≡ length u
unfolding equals_at
equals-whole [] h = refl
equals-whole (b ∷ u) h = rw (ne_eqb b 61 h.0, equals-whole u h.1)

key_split : (u v : List ℕ) → No u → key_of (u ++ (61 ∷ v)) ≡ u
key_split u v h = rw (equals-split u v h) (take-append_seam u (61 ∷ v))

value-split : (u v : List ℕ) → No u → value_of (u ++ (61 ∷ v)) ≡ v
value-split u v h = rw (equals-split u v h, ← add-one (length u)) (drop-append-add u (61 ∷ v) 1)

key-whole : (u : List ℕ) → No u → key_of u ≡ u
key-whole u h = rw (equals-whole u h) (take-length u)

value-whole : (u : List ℕ) → No u → value_of u ≡ []
value-whole u h = rw (equals-whole u h) (drop_of_length-le u {i = suc (length u)} (omega arith))

pub key-raw : (s : List ℕ) → key_of (replaced s) ≡ replaced (key_of s)
key-raw s = go (split s)
  where
    go : Split s → key_of (replaced s) ≡ replaced (key_of s)
    go (whole h) = key-whole (replaced s) (no-replaced s h) ∙ sym (ap replaced (key-whole s h))
    go (at u v h e) =
        ap (λ t. key_of (replaced t)) e ∙ ap key_of (replaced-split 61 (omega arith) v u)
        ∙ key_split (replaced u) (replaced v) (no-replaced u h) ∙ sym (ap replaced (ap key_of e ∙ key_split u v h))

pub value-raw : (s : List ℕ) → value_of (replaced s) ≡ replaced (value_of s)
unfolding sequences_from bytes_of_all
value-raw s = go (split s)
  where
    go : Split s → value_of (replaced s) ≡ replaced (value_of s)
    go (whole h) = value-whole (replaced s) (no-replaced s h) ∙ sym (ap replaced (value-whole s h))
    go (at u v h e) =
        ap (λ t. value_of (replaced t)) e ∙ ap value_of (replaced-split 61 (omega arith) v u)
        ∙ value-split (replaced u) (replaced v) (no-replaced u h) ∙ sym (ap replaced (ap value_of e ∙ value-split u v h))
