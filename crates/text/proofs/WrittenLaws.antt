-- What an answer of `write_replaced` says of the place and of the buffer: laws for the proofs of its callers.
use Rattle.std.proofs.Common.{◌≡◌, ℕ, ◌<◌, ◌≤◌, Bool, true, false, leb, List, length, sym, refl, ap, ◌∙◌, arith, leb-false, leb-true}
use lib.Seq.{sets}
use Rattle.error.specs.declared.LentRefusal.{LentRefusal}
use Rattle.error.specs.Refusals.{lent_refused, short_buffer}
use Rattle.arithmetic.specs.Cut.{cut}
use Rattle.std.specs.Prelude.{Result, Ok, Err}
use Rattle.text.specs.Utf8.{replaced}
use Rattle.text.specs.Writing.{Writing, written_res, place_behind, outcome, writing}
use Rattle.text.proofs.WriteLaws.{writing-fits, writing-short}

-- the text is in the buffer
pub record Fits (s b b' : List ℕ) (start n : ℕ) : Type 0 where
  pub place : n ≡ place_behind s start
  pub room : n ≤ length b
  pub bytes : b' ≡ sets b start (replaced s)

-- the buffer is as it was
pub record Short (s b b' : List ℕ) (start : ℕ) (r : LentRefusal) : Type 0 where
  pub room : length b < place_behind s start
  pub bytes : b' ≡ b
  pub refusal : lent_refused {A = Unit} r ≡ lent_refused (short_buffer (cut (place_behind s start)))

module _ (s b b' : List ℕ) (start : ℕ) (g : Result ℕ LentRefusal) (e : outcome g b' ≡ writing s b start) where
  pub written-fits : (n : ℕ) → g ≡ Ok n → Fits s b b' start n
  written-fits n h = go (leb (place_behind s start) (length b)) refl
    where
      go : (x : Bool) → leb (place_behind s start) (length b) ≡ x → Fits s b b' start n
      go true q =
          let room : place_behind s start ≤ length b = leb-true (place_behind s start) (length b) q in
          let w = e ∙ writing-fits s b start room in
          let a = sym (ap written_res h) ∙ ap (λ (o : Writing). o.answer) w in
          let place : n ≡ place_behind s start = cc in
          record { place = place; room = omega arith; bytes = ap (λ (o : Writing). o.buffer) w }
      go false q =
          let w = e ∙ writing-short s b start (leb-false (place_behind s start) (length b) q) in
          let a = sym (ap written_res h) ∙ ap (λ (o : Writing). o.answer) w in
          let z : ◌≡◌ {A = ℕ} 0 1 = cc in
          absurd (omega arith)

  pub written-short : (r : LentRefusal) → g ≡ Err r → Short s b b' start r
  written-short r h = go (leb (place_behind s start) (length b)) refl
    where
      go : (x : Bool) → leb (place_behind s start) (length b) ≡ x → Short s b b' start r
      go true q =
          let w = e ∙ writing-fits s b start (leb-true (place_behind s start) (length b) q) in
          let a = sym (ap written_res h) ∙ ap (λ (o : Writing). o.answer) w in
          let z : ◌≡◌ {A = ℕ} 0 1 = cc in
          absurd (omega arith)
      go false q =
          let room : length b < place_behind s start = leb-false (place_behind s start) (length b) q in
          let w = e ∙ writing-short s b start room in
          record { room = room; bytes = ap (λ (o : Writing). o.buffer) w; refusal = sym (ap written_res h) ∙ ap (λ (o : Writing). o.answer) w }
