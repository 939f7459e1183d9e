use Rattle.tile.proofs.RowLaws.{row_put, put-stops}
use Rattle.tile.proofs.put_rows.Goals as goal

pub returns-in_default : goal.returns-in_default
returns-in_default c = put-stops _ _ _ _ _ _ c.loop-i.ways _ _ c.loop-i.invariant.0 _ _ _ c.in_default.ensures c.loop-i-test.true

pub loop-i-preserved : goal.loop-i-preserved
loop-i-preserved c = (
  row_put _ _ _ _ _ _ (λ r. r.points) c.loop-i.invariant.0 _ _ c.in-Ok.ensures,
  row_put _ _ _ _ _ _ (λ r. r.ways) c.loop-i.invariant.1 _ _ c.in-Ok.ensures,
)
