use Rattle.std.proofs.Common.{refl}
use Rattle.index.proofs.AnswerLaws.{answer-up}
use Rattle.tile_place.proofs.PlaceLaws.{no_own, no-next, reversed, found}
use Rattle.tile_place.proofs.place_of.Goals as goal

pub returns-in_err-entry : goal.returns-in_err-entry
returns-in_err-entry c = answer-up (λ a. a) _ _ _ c.from_residual.ensures (no_own _ _ _ _ _ _ c.in_err-entry.ensures)

pub returns-in_err-offset : goal.returns-in_err-offset
returns-in_err-offset c =
    answer-up (λ a. a) _ _ _ c.from_residual-in_err-offset.ensures (no-next _ _ _ _ _ _ c.in_ok-entry.ensures _ c.in_err-offset.ensures)

pub returns-then-max_zoom-min_zoom : goal.returns-then-max_zoom-min_zoom
returns-then-max_zoom-min_zoom c =
    reversed _ _ _ _ _ _ c.in_ok-entry.ensures _ c.in_ok-offset.ensures c.if-max_zoom-min_zoom.true

pub returns : goal.returns
returns c =
    found _ _ _ _ _ _ c.in_ok-entry.ensures _ c.in_ok-offset.ensures _ _ c.if-max_zoom-min_zoom.false refl c.first_byte.ensures
