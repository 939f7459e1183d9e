-- Decline and then next as one call, by what decline and next answer.
use mathlib.Core.Path.{◌≡◌, sym, ap, ◌∙◌}
use mathlib.Core.List.{List}
use Prim.Native.Nat.{ℕ}
use native.Mathlib.Omega.{arith}
use Rattle.agreement.specs.Calls.{next, decline, declined, refused, Step, plain}
use Rattle.agreement.specs.Format.{Format}
use Rattle.agreement.specs.Stream.{StreamAnswer, StreamState, idle, waits, stream}
use Rattle.selection.specs.Selected.{unless_refused, after_decline, skipped_next, SkipIsBoth}
use Rattle.selection.proofs.SelectedLaws.{other}

module _ (F : Format) (m : List ℕ) where
  abbrev T : Type 0
  T = Step (StreamAnswer F) (StreamState F)

  abbrev behind : StreamState F → T
  behind s = stream F m (stream F m s decline).left next

  pub past-it : (s : StreamState F) → (stream F m s decline).reply.answer ≡ declined → skipped_next F m s ≡ unless_refused s (behind s).reply.answer (behind s)
  past-it s e = ap (λ (a : StreamAnswer F). after_decline (unless_refused s (behind s).reply.answer (behind s)) a (stream F m s decline)) e

  pub out-of-turn : (s : StreamState F) (n : ℕ) (v : List ℕ) → (stream F m s decline).reply.answer ≡ refused n v → skipped_next F m s ≡ stream F m s decline
  out-of-turn s n v e = ap (λ (a : StreamAnswer F). after_decline (unless_refused s (behind s).reply.answer (behind s)) a (stream F m s decline)) e

  stays : (s : StreamState F) (n : ℕ) (v : List ℕ) (s' : StreamState F) → stream F m s decline ≡ plain (refused n v) s' → s' ≡ s
  stays (idle k w i j z) n v s' e = sym (ap (λ (t : T). t.left) e)
  stays (waits w x b k z) n v s' e = other (ap (λ (t : T). t.reply.answer) e) (λ k. omega arith)

  pub skip-is-both : (s : StreamState F) → SkipIsBoth F m s
  skip-is-both s = record {
    refuses = λ n v s' e. out-of-turn s n v (ap (λ (t : T). t.reply.answer) e) ∙ e ∙ ap (plain (refused n v)) (stays s n v s' e);
    goes_on = λ s' s'' a e f.
        let q : behind s ≡ plain a s'' = ap (λ (t : T). stream F m t.left next) e ∙ f in
        past-it s (ap (λ (t : T). t.reply.answer) e) ∙ ap (λ (t : T). unless_refused s t.reply.answer t) q;
  }
