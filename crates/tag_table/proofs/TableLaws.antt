-- A walk over texts, and a table that was read, in definitions that go on from them.
use Rattle.parsing.proofs.Steps.{then-then}
use Prim.Native.Nat.{ℕ, ◌+◌, ◌<◌}
use mathlib.Core.Path.{◌≡◌, refl, sym, ap, ◌∙◌}
use mathlib.Core.List.{List}
use lib.ListN.{length}
use Rattle.std.specs.Prelude.{Result}
use Rattle.std.specs.Result.{IsErr, IsErrAnd}
use Rattle.parsing.specs.Parse.{Res, ok, no, Part, and_then, map_res, many, passed}
use Rattle.parsing.specs.Good.{ok_at, no_ok}
use Rattle.parsing.proofs.Loops.{fold_more, counted, many-count}
use Rattle.error.specs.Refusals.{refused}
use Rattle.error.specs.declared.Refusal.{Refusal}
use Rattle.byte_source.specs.Answers.{part_in}
use Rattle.byte_source.specs.declared.Span.{Span}
use Rattle.byte_source.proofs.ReadLaws.{reads, went-on, met, loop-refused, view-refused}
use Rattle.utils.specs.Vbe.{text}
use Rattle.byte_source.specs.BigEndian.{big_endian}
use Rattle.format.specs.Header.{tags}
use Rattle.tag_table.specs.Tables.{tag_table, place_res}

-- one text more
module _ (m : List ℕ) (i at n : ℕ) (h : passed (many text i m at) ≡ ok tt n) where
  pub walk_more : (s : Span) (e : ℕ) → ok (part_in m s) e ≡ text m n → passed (many text (i + 1) m at) ≡ ok tt e
  walk_more s e q = fold_more text m (λ _. tt) (λ _. tt) (λ _ _. tt) (λ _ _. refl) i at h (ap passed (sym q))

  pub walk_no : (k : ℕ) (g : Result ℕ Refusal) (e : Refusal) → refused e ≡ text m n → IsErr g × IsErrAnd g (λ x. x ≡ e) → i < k → place_res g ≡ passed (many text k m at)
  walk_no k g e q p l =
      ap place_res (met p) ∙ ap passed (loop-refused text (λ _. tt) (λ _. tt) m i k at n tt e (sym h) (ap passed q) l)

-- a walk over k texts, in a definition that goes on from it
module _ {B : Type 0} (m : List ℕ) (k at : ℕ) where
  pub walk-ok : (n : ℕ) (f : List Part → ℕ → Res B) (x : Res B) → ok tt n ≡ passed (many text k m at) → ((l : List Part) → k ≡ length l → x ≡ f l n) → x ≡ and_then (many text k m at) f
  walk-ok n f x q p = found (many text k m at) refl (sym q)
    where
      found : (r : Res (List Part)) → many text k m at ≡ r → passed r ≡ ok tt n → x ≡ and_then r f
      found (ok l e) d z = p l (sym (many-count text m k at l e d)) ∙ ap (f l) (sym (ok_at z))
      found (no i l) d z = no_ok z

  pub walk-stop : (e : Refusal) (f : List Part → ℕ → Res B) → refused e ≡ passed (many text k m at) → refused e ≡ and_then (many text k m at) f
  walk-stop e f q = view-refused (λ _. tt) e (many text k m at) f q

pub ruleset walks = (reads, walk_more, walk_no, counted, walk-ok, walk-stop)

-- the whole table
pub table-whole : (m : List ℕ) (at k s e : ℕ) → ok k s ≡ big_endian 2 m at → ok tt e ≡ passed (many text k m s) → ok (record { start = s; count = k }) e ≡ map_res tag_table (tags m at)
unfolding tags
table-whole m at k s e p q =
    then-then (big_endian 2 m at) _ _ _
    (went-on _ _ (big_endian 2 m at) _ _ p (then-then (many text k m s) _ _ _ (walk-ok m k s e _ _ q (λ l h. rw h))))
