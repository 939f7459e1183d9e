-- Whether a buffer has room for the texts of a feature: by their stored length, which is a third of theirs at the least, or as measured.
use Prim.Native.Nat.{ℕ, ◌+◌, ◌-◌, ◌*◌, ◌/◌, ◌^◌, ◌<◌, ◌≤◌}
use native.Mathlib.Numerals.{add-one}
use native.Mathlib.Omega.{arith}
use mathlib.Core.Path.{◌≡◌, refl, sym, ap, ◌∙◌}
use mathlib.Core.Bool.{Bool, true, false, cond}
use mathlib.Core.List.{List, ◌++◌}
use lib.Dec.{leb, ltb}
use lib.ListN.{length, get_or, drop, length-append}
use lib.Seq.{sets, drop-cons}
use borrow.Author.Tests.{ltb-true, ltb-false, lt-ltb, le-leb, leb-true}
use Rattle.arithmetic.specs.Cut.{cut}
use Rattle.arithmetic.proofs.CutLaws.{cut_fits, cut-over}
use Rattle.text.specs.Utf8.{replaced}
use Rattle.text.proofs.ReplacedLaws.{replaced-most}
use Rattle.format.specs.Lent.{front, sets-front}
use Rattle.types.specs.Types.{maybe_part}
use Rattle.fetched.specs.Fetched.{part_bytes, started_name, id_texts}
use Rattle.feature_texts.specs.FeatureTexts.{texts_in, write_texts, AtMost, room_for}
use Rattle.feature_texts.specs.declared.TextParts.{TextParts}
use Rattle.feature_texts.proofs.TextLaws.{texts-are}

-- a sum below the cut is not cut
below : (x n : ℕ) → n ≡ cut x → n < 2 ^ 64 - 1 → n ≡ x
below x n e h = go (ltb x (2 ^ 64 - 1)) refl
  where
    go : (t : Bool) → ltb x (2 ^ 64 - 1) ≡ t → n ≡ x
    go true q = let y = ltb-true x (2 ^ 64 - 1) q in e ∙ cut_fits x (omega arith)
    go false q = let y = e ∙ cut-over x (ltb-false x (2 ^ 64 - 1) q) in absurd (omega arith)

-- the tags' strings, of which those from i on are left
pub record StoredLeft (f : ℕ → List ℕ) (ids : List ℕ) (len i : ℕ) : Type 0 where
  pub within : i ≤ length ids
  pub most : len < 2 ^ 64 - 1 → length (id_texts f ids) ≤ 3 * len + length (id_texts f (drop i ids))

module _ (f : ℕ → List ℕ) (ids : List ℕ) where
  module _ (len i : ℕ) (l : StoredLeft f ids len i) where
    pub stored_more : (d n : ℕ) (s : List ℕ) → i < length ids → s ≡ f (get_or ids i d) → n ≡ cut (len + length s) → StoredLeft f ids n (i + 1)
    stored_more d n s h e k = record { within = omega arith; most = λ b. bound (below (len + length s) n k b) b }
      where
        next : id_texts f (drop i ids) ≡ replaced s ++ id_texts f (drop (i + 1) ids)
        next = rw (drop-cons ids i d h, add-one i, e) refl

        bound : n ≡ len + length s → n < 2 ^ 64 - 1 → length (id_texts f ids) ≤ 3 * n + length (id_texts f (drop (i + 1) ids))
        bound q b =
            let x = ap length next ∙ length-append (replaced s) (id_texts f (drop (i + 1) ids)) in
            let y = replaced-most s in
            let z = l.most (omega arith) in
            omega arith

-- one text more
one_more : (xs s t : List ℕ) (a n : ℕ) → AtMost xs a → s ≡ t → n ≡ cut (a + length s) → AtMost (xs ++ replaced t) n
one_more xs s t a n h e k = record { most = λ b. bound (below (a + length s) n k b) b }
  where
    bound : n ≡ a + length s → n < 2 ^ 64 - 1 → length (xs ++ replaced t) ≤ 3 * n
    bound q b =
        let x = length-append xs (replaced t) in
        let y = replaced-most t in
        let z = h.most (omega arith) in
        let w = ap length e in
        omega arith

-- all texts
pub stored-all : (s : List ℕ) (p : TextParts) (m ids b₁ b₂ b₃ : List ℕ) (n₀ n₁ n₂ n₃ : ℕ) → AtMost (id_texts (started_name s p.tags m) ids) n₀
    → b₁ ≡ part_bytes (maybe_part m p.name) → b₂ ≡ part_bytes (maybe_part m p.house_number) → b₃ ≡ part_bytes (maybe_part m p.reference)
    → n₁ ≡ cut (n₀ + length b₁) → n₂ ≡ cut (n₁ + length b₂) → n₃ ≡ cut (n₂ + length b₃) → AtMost (texts_in s p m ids) n₃
stored-all s p m ids b₁ b₂ b₃ n₀ n₁ n₂ n₃ h e₁ e₂ e₃ k₁ k₂ k₃ =
    let a = one_more _ b₁ _ n₀ n₁ h e₁ k₁ in
    let b = one_more _ b₂ _ n₁ n₂ a e₂ k₂ in
    let c = one_more _ b₃ _ n₂ n₃ b e₃ k₃ in
    rw (texts-are (started_name s p.tags m) ids (maybe_part m p.name) (maybe_part m p.house_number) (maybe_part m p.reference)) c

-- room for the texts
module _ (texts : List ℕ) (room : ℕ) where
  pub room-ample : (n : ℕ) → AtMost texts n → n < room / 3 → room < 2 ^ 64 → true ≡ room_for texts room
  room-ample n h k l =
      let x = h.most (omega arith) in
      let y : length texts < 2 ^ 64 - 1 = omega arith in
      let z : length texts ≤ room = omega arith in
      rw (lt-ltb (length texts) (2 ^ 64 - 1) y, le-leb (length texts) room z)

-- what is then in the buffer
module _ (texts b : List ℕ) (v : Bool) (e : v ≡ room_for texts (length b)) where
  fits : v ≡ true → leb (length texts) (length b) ≡ true
  fits h = go (ltb (length texts) (2 ^ 64 - 1)) (sym e ∙ h)
    where
      go : (t : Bool) → cond t (leb (length texts) (length b)) false ≡ true → leb (length texts) (length b) ≡ true
      go true q = q
      go false q = let z : ◌≡◌ {A = ℕ} 0 1 = cc in absurd (omega arith)

  pub write-room : v ≡ true → length texts ≤ length b
  write-room h = leb-true (length texts) (length b) (fits h)

  pub write_done : (b' : List ℕ) → v ≡ true → b' ≡ sets b 0 texts → b' ≡ write_texts texts b
  write_done b' h w = w ∙ sets-front texts b (write-room h) ∙ go (ltb (length texts) (2 ^ 64 - 1)) (sym e ∙ h)
    where
      go : (t : Bool) → cond t (leb (length texts) (length b)) false ≡ true → front texts b ≡ cond t (cond (leb (length texts) (length b)) (front texts b) b) b
      go true q = rw q
      go false q = let z : ◌≡◌ {A = ℕ} 0 1 = cc in absurd (omega arith)
