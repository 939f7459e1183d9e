-- The texts of a feature: found, measured and written one behind the other.
use Prim.Native.Nat.{ℕ, suc, ◌+◌, ◌<◌}
use native.Mathlib.Nat.{add_assoc, add_comm, zero-add}
use native.Mathlib.Numerals.{add-one}
use native.Mathlib.Omega.{arith}
use mathlib.Core.Path.{◌≡◌, refl, sym, ap, ◌∙◌}
use mathlib.Core.List.{List, [], ◌++◌}
use lib.ListN.{length, get_or, drop, length-append}
use lib.Seq.{drop-cons}
use Rattle.parsing.specs.Parse.{Part, Maybe, none, some}
use Rattle.arithmetic.specs.Cut.{cut}
use Rattle.arithmetic.proofs.CutLaws.{cut-add}
use Rattle.text.specs.Utf8.{bytes_of_all, replaced}
use Rattle.text.proofs.Utf8Laws.{sequences-end}
use Rattle.types.specs.Types.{maybe_part}
use Rattle.fetched.specs.Fetched.{part_bytes, started_name, id_texts, present, buffered}
use Rattle.feature_texts.specs.FeatureTexts.{texts_in}
use Rattle.feature_texts.specs.declared.TextParts.{TextParts}

-- lengths, summed
module _ (f : ℕ → List ℕ) (ids : List ℕ) (len i : ℕ) where
  pub len-start : cut (0 + length (id_texts f (drop 0 ids))) ≡ cut (length (id_texts f ids))
  len-start = rw zero-add

  module _ (e : cut (len + length (id_texts f (drop i ids))) ≡ cut (length (id_texts f ids))) where
    pub len_more : (d one next : ℕ) (s : List ℕ) → i < length ids → s ≡ f (get_or ids i d) → one ≡ cut (length (replaced s)) → next ≡ cut (len + one)
        → cut (next + length (id_texts f (drop (i + 1) ids))) ≡ cut (length (id_texts f ids))
    len_more d one next s b h k n =
        let a = length (replaced s) in
        let r = length (id_texts f (drop (i + 1) ids)) in
        let w : cut (len + length (id_texts f (drop i ids))) ≡ cut (len + (a + r)) =
        rw (drop-cons ids i d b, length-append (replaced (f (get_or ids i d))) (id_texts f (drop (suc i) ids)), ← h, add-one i) refl in
        let u : cut (next + r) ≡ cut (len + (a + r)) = sums len a r one next k n in
        u ∙ sym w ∙ e
      where
        sums : (l a r one next : ℕ) → one ≡ cut a → next ≡ cut (l + one) → cut (next + r) ≡ cut (l + (a + r))
        sums l a r one next k n =
            let x : next ≡ cut (l + a) = n ∙ ap (λ y. cut (l + y)) k ∙ ap cut (add_comm l (cut a)) ∙ cut-add a l ∙ ap cut (add_comm a l) in
            ap (λ y. cut (y + r)) x ∙ cut-add (l + a) r ∙ ap cut (add_assoc l a r)

-- a text that is there, or not
replaced-nil : replaced [] ≡ []
unfolding bytes_of_all
replaced-nil = ap (λ ps. bytes_of_all ps []) (sequences-end [] 0 (omega arith))

pub present-bytes : (o : Maybe Part) → present o ≡ replaced (part_bytes o)
present-bytes none = sym replaced-nil
present-bytes (some p) = refl

pub texts-are : (f : ℕ → List ℕ) (ids : List ℕ) (n h r : Maybe Part) → buffered f ids n h r ≡ id_texts f ids ++ replaced (part_bytes n) ++ replaced (part_bytes h) ++ replaced (part_bytes r)
texts-are f ids n h r = rw (present-bytes n, present-bytes h, present-bytes r)

-- the sum of four lengths, each cut
sum_of : (A B a b x : ℕ) → a ≡ cut A → b ≡ cut B → x ≡ cut (a + b) → x ≡ cut (A + B)
sum_of A B a b x p q r =
    r ∙ ap (λ y. cut (y + b)) p ∙ cut-add A b ∙ ap (λ y. cut (A + y)) q ∙ ap cut (add_comm A (cut B)) ∙ cut-add B A ∙ ap cut (add_comm B A)

pub lengths-sum : (s : List ℕ) (p : TextParts) (m ids : List ℕ) (a b c d x y z : ℕ) → a ≡ cut (length (id_texts (started_name s p.tags m) ids))
    → b ≡ cut (length (replaced (part_bytes (maybe_part m p.name)))) → c ≡ cut (length (replaced (part_bytes (maybe_part m p.house_number)))) → d ≡ cut (length (replaced (part_bytes (maybe_part m p.reference))))
    → x ≡ cut (a + b) → y ≡ cut (x + c) → z ≡ cut (y + d) → z ≡ cut (length (texts_in s p m ids))
lengths-sum s p m ids a b c d x y z ha hb hc hd hx hy hz =
    four (id_texts (started_name s p.tags m) ids) (replaced (part_bytes (maybe_part m p.name))) (replaced (part_bytes (maybe_part m p.house_number))) (replaced (part_bytes (maybe_part m p.reference))) ha hb hc hd
    ∙ ap (λ l. cut (length l)) (sym (texts-are (started_name s p.tags m) ids (maybe_part m p.name) (maybe_part m p.house_number) (maybe_part m p.reference)))
  where
    four : (A B C D : List ℕ) → a ≡ cut (length A) → b ≡ cut (length B) → c ≡ cut (length C) → d ≡ cut (length D) → z ≡ cut (length (A ++ B ++ C ++ D))
    four A B C D ha hb hc hd =
        let u = sum_of (length A) (length B) a b x ha hb hx in
        let v = sum_of (length A + length B) (length C) x c y u hc hy in
        let w = sum_of (length A + length B + length C) (length D) y d z v hd hz in
        w ∙ rw (length-append (A ++ B ++ C) D, length-append (A ++ B) C, length-append A B)

-- bytes whose length is known
pub length-of : (s t : List ℕ) (n : ℕ) → n ≡ cut (length (replaced s)) → s ≡ t → n ≡ cut (length (replaced t))
length-of s t n h e = h ∙ ap (λ l. cut (length (replaced l))) e
