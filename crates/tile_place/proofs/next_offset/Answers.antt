use Rattle.index.proofs.AnswerLaws.{answer-up}
use Rattle.tile_place.proofs.PlaceLaws.{next_last, next-no, next-at}
use Rattle.tile_place.proofs.next_offset.Goals as goal

pub returns-then-next-tiles : goal.returns-then-next-tiles
returns-then-next-tiles c = next_last _ _ _ _ _ c.if-next-tiles.true

pub returns-in_err-entry : goal.returns-in_err-entry
returns-in_err-entry c =
    answer-up (λ a. a) _ _ _ c.from_residual.ensures (next-no _ _ _ _ _ c.if-next-tiles.false _ c.in_err-entry.ensures)

pub returns : goal.returns
returns c = next-at _ _ _ _ _ c.if-next-tiles.false _ c.in_ok-entry.ensures
