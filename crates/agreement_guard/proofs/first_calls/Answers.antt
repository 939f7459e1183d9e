use mathlib.Core.Path.{refl}
use mathlib.Core.List.{[]}
use Rattle.way_data.specs.Reply.{lent}
use Rattle.std.proofs.lemmas.Bool.{not-true, not-false}
use Rattle.agreement_guard.proofs.GuardLaws.{not_opened, not-collected, not-exact, never, replied}
use Rattle.agreement_guard.proofs.first_calls.Goals as goal

pub returns-in_err-opened : goal.returns-in_err-opened
returns-in_err-opened c = not_opened _ _ _ _ _ _ _ _ c.args.places.now _ _ _ _ c.in_err-opened.ensures c.from_residual.ensures refl

pub returns-in_err-whole : goal.returns-in_err-whole
returns-in_err-whole c = not-collected _ _ _ _ _ _ _ _ _ _ _ _ c.in_ok-opened.ensures _ _ c.in_err-whole.ensures c.from_residual-in_err-whole.ensures refl

pub returns-then-not-whole : goal.returns-then-not-whole
returns-then-not-whole c = not-exact _ _ _ _ _ _ _ _ _ _ _ _ c.in_ok-opened.ensures _ c.in_ok-whole.ensures (not-true _ c.if-not-whole.true) refl

pub returns-in_err-stream : goal.returns-in_err-stream
returns-in_err-stream c = absurd (never _ _ _ _ _ _ _ _ _ (lent [] [] []) (lent [] [] []) _ c.in_ok-opened.ensures _ c.in_ok-whole.ensures c.well_formed.0.0 (not-false _ c.if-not-whole.false) _ c.in_err-stream.ensures)

pub returns : goal.returns
returns c = replied _ _ _ _ _ _ _ _ _ _ _ _ c.in_ok-opened.ensures _ c.in_ok-whole.ensures c.well_formed.0.0 (not-false _ c.if-not-whole.false) _ _ c.in_ok-stream.ensures c.call_three-replies.ensures
