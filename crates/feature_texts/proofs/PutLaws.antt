-- The texts of a feature, written one behind the other to a buffer that has room for all.
use Prim.Native.Nat.{ℕ, ◌+◌, ◌≤◌, ◌<◌}
use native.Mathlib.Numerals.{add-one}
use native.Mathlib.Omega.{arith}
use mathlib.Core.Path.{◌≡◌, refl, sym, ap, ◌∙◌}
use mathlib.Core.List.{List, ◌++◌}
use lib.ListN.{length, get_or, drop, length-append}
use lib.Seq.{sets, length-sets, drop-cons}
use Rattle.parsing.proofs.Loops.{sets-append}
use Rattle.std.specs.Prelude.{Result, Ok, Err}
use Rattle.std.specs.Result.{result_unwrap_or}
use Rattle.error.specs.declared.LentRefusal.{LentRefusal}
use Rattle.text.specs.Utf8.{replaced}
use Rattle.text.specs.Writing.{outcome, writing}
use Rattle.text.proofs.WrittenLaws.{written-fits, written-short}
use Rattle.types.specs.Types.{maybe_part}
use Rattle.fetched.specs.Fetched.{part_bytes, started_name, id_texts}
use Rattle.feature_texts.specs.FeatureTexts.{texts_in}
use Rattle.feature_texts.specs.declared.TextParts.{TextParts}
use Rattle.feature_texts.proofs.TextLaws.{texts-are}

-- one text
pub put-there : (s b b' : List ℕ) (at : ℕ) (g : Result ℕ LentRefusal) (n : ℕ) → outcome g b' ≡ writing s b at → at + length (replaced s) ≤ length b → n ≡ result_unwrap_or g at → (n ≡ at + length (replaced s)) × (b' ≡ sets b at (replaced s))
put-there s b b' at (Ok k) n e f h = let x = written-fits s b b' at (Ok k) e k refl in (h ∙ x.place, x.bytes)
put-there s b b' at (Err r) n e f h = let x = (written-short s b b' at (Err r) e r refl).room in absurd (omega arith)

-- the tags' strings: what is left, written behind the last one, gives what is to be written
pub record IdsLeft (f : ℕ → List ℕ) (ids b₀ b : List ℕ) (at i : ℕ) : Type 0 where
  pub within : i ≤ length ids
  pub bytes : sets b at (id_texts f (drop i ids)) ≡ sets b₀ 0 (id_texts f ids)
  pub place : at + length (id_texts f (drop i ids)) ≡ length (id_texts f ids)
  pub room : length (id_texts f ids) ≤ length b
  pub kept : length b ≡ length b₀

module _ (f : ℕ → List ℕ) (ids b₀ : List ℕ) where
  module _ (b : List ℕ) (at i : ℕ) (l : IdsLeft f ids b₀ b at i) where
    next-texts : (d : ℕ) → i < length ids → id_texts f (drop i ids) ≡ replaced (f (get_or ids i d)) ++ id_texts f (drop (i + 1) ids)
    next-texts d h = rw (drop-cons ids i d h, add-one i) refl

    pub ids_more : (d n : ℕ) (s b' : List ℕ) → i < length ids → s ≡ f (get_or ids i d) → n ≡ at + length (replaced s) → b' ≡ sets b at (replaced s) → IdsLeft f ids b₀ b' n (i + 1)
    ids_more d n s b' h e k w =
        let x : id_texts f (drop i ids) ≡ replaced s ++ id_texts f (drop (i + 1) ids) = next-texts d h ∙ ap (λ y. replaced y ++ id_texts f (drop (i + 1) ids)) (sym e) in
        let y : length (id_texts f (drop i ids)) ≡ length (replaced s) + length (id_texts f (drop (i + 1) ids)) = ap length x ∙ length-append (replaced s) (id_texts f (drop (i + 1) ids)) in
        let p = l.place in
        let z : length b' ≡ length b = ap length w ∙ length-sets b at (replaced s) in
        record {
          within = omega arith;
          bytes = ap (λ c. sets c n (id_texts f (drop (i + 1) ids))) w ∙ ap (λ c. sets (sets b at (replaced s)) c (id_texts f (drop (i + 1) ids))) k
              ∙ sym (sets-append (replaced s) (id_texts f (drop (i + 1) ids)) b at) ∙ ap (λ c. sets b at c) (sym x) ∙ l.bytes;
          place = omega arith;
          room = let q = l.room in omega arith;
          kept = z ∙ l.kept;
        }

-- the other texts behind the tags' strings
module _ (s : List ℕ) (p : TextParts) (m ids b : List ℕ) (room : length (texts_in s p m ids) ≤ length b) where
  abbrev strings : List ℕ
  strings = id_texts (started_name s p.tags m) ids

  abbrev name : List ℕ
  name = part_bytes (maybe_part m p.name)

  abbrev house : List ℕ
  house = part_bytes (maybe_part m p.house_number)

  abbrev reference : List ℕ
  reference = part_bytes (maybe_part m p.reference)

  all : texts_in s p m ids ≡ strings ++ replaced name ++ replaced house ++ replaced reference
  all = texts-are (started_name s p.tags m) ids (maybe_part m p.name) (maybe_part m p.house_number) (maybe_part m p.reference)

  whole : length strings + length (replaced name) + length (replaced house) + length (replaced reference) ≤ length b
  whole =
      let e = ap length all ∙ length-append (strings ++ replaced name ++ replaced house) (replaced reference) in
      let f = length-append (strings ++ replaced name) (replaced house) in
      let g = length-append strings (replaced name) in
      omega arith

  module _ (n₁ : ℕ) (b₁ s₁ : List ℕ) (h₁ : n₁ ≡ length strings) (w₁ : b₁ ≡ sets b 0 strings) (e₁ : s₁ ≡ name) where
    kept₁ : length b₁ ≡ length b
    kept₁ = ap length w₁ ∙ length-sets b 0 strings

    pub name-room : n₁ + length (replaced s₁) ≤ length b₁
    name-room =
        let w = whole in
        let k = kept₁ in
        let e = ap (λ x. length (replaced x)) e₁ in
        omega arith

    module _ (n₂ : ℕ) (b₂ s₂ : List ℕ) (h₂ : n₂ ≡ n₁ + length (replaced s₁)) (w₂ : b₂ ≡ sets b₁ n₁ (replaced s₁)) (e₂ : s₂ ≡ house) where
      kept₂ : length b₂ ≡ length b₁
      kept₂ = ap length w₂ ∙ length-sets b₁ n₁ (replaced s₁)

      pub house-room : n₂ + length (replaced s₂) ≤ length b₂
      house-room =
          let w = whole in
          let k = kept₁ in
          let l = kept₂ in
          let e = ap (λ x. length (replaced x)) e₁ in
          let f = ap (λ x. length (replaced x)) e₂ in
          omega arith

      module _ (n₃ : ℕ) (b₃ s₃ : List ℕ) (h₃ : n₃ ≡ n₂ + length (replaced s₂)) (w₃ : b₃ ≡ sets b₂ n₂ (replaced s₂)) (e₃ : s₃ ≡ reference) where
        kept₃ : length b₃ ≡ length b₂
        kept₃ = ap length w₃ ∙ length-sets b₂ n₂ (replaced s₂)

        pub reference-room : n₃ + length (replaced s₃) ≤ length b₃
        reference-room =
            let w = whole in
            let k = kept₁ in
            let l = kept₂ in
            let o = kept₃ in
            let e = ap (λ x. length (replaced x)) e₁ in
            let f = ap (λ x. length (replaced x)) e₂ in
            let g = ap (λ x. length (replaced x)) e₃ in
            omega arith

        pub texts-put : (b₄ : List ℕ) → b₄ ≡ sets b₃ n₃ (replaced s₃) → b₄ ≡ sets b 0 (texts_in s p m ids)
        texts-put b₄ w₄ =
            let a = strings ++ replaced s₁ in
            let c = a ++ replaced s₂ in
            let q₁ : n₂ ≡ 0 + length a = omega (arith, length-append strings (replaced s₁)) in
            let q₂ : n₃ ≡ 0 + length c = omega (arith, length-append a (replaced s₂)) in
            let q₀ : n₁ ≡ 0 + length strings = omega arith in
            let x₂ : b₂ ≡ sets b 0 a = w₂ ∙ ap (λ x. sets x n₁ (replaced s₁)) w₁ ∙ ap (λ x. sets (sets b 0 strings) x (replaced s₁)) q₀ ∙ sym (sets-append strings (replaced s₁) b 0) in
            let x₃ : b₃ ≡ sets b 0 c = w₃ ∙ ap (λ x. sets x n₂ (replaced s₂)) x₂ ∙ ap (λ x. sets (sets b 0 a) x (replaced s₂)) q₁ ∙ sym (sets-append a (replaced s₂) b 0) in
            w₄ ∙ ap (λ x. sets x n₃ (replaced s₃)) x₃ ∙ ap (λ x. sets (sets b 0 c) x (replaced s₃)) q₂ ∙ sym (sets-append c (replaced s₃) b 0)
            ∙ ap (λ x. sets b 0 (strings ++ replaced x ++ replaced s₂ ++ replaced s₃)) e₁
            ∙ ap (λ x. sets b 0 (strings ++ replaced name ++ replaced x ++ replaced s₃)) e₂
            ∙ ap (λ x. sets b 0 (strings ++ replaced name ++ replaced house ++ replaced x)) e₃
            ∙ ap (sets b 0) (sym all)
