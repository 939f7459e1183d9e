use Rattle.std.proofs.Common.{rules}
use Rattle.byte_source.proofs.ReadLaws.{reads}
use Rattle.zoom_table.proofs.SumLaws.{sum-reversed, front-no, back-no, both_ok}
use Rattle.zoom_table.proofs.sum_table_numbers.Goals as goal

pub returns-then-max-min : goal.returns-then-max-min
returns-then-max-min c = sum-reversed _ _ _ _ 0 _ c.if-max-min.true

pub returns-in_err-first : goal.returns-in_err-first
returns-in_err-first c = search (reads, front-no)

pub returns-in_err-rest : goal.returns-in_err-rest
returns-in_err-rest c = search (reads, back-no)

pub returns : goal.returns
returns c =
    both_ok _ _ _ _ _ _ _ _ _ _ _ _ _
    c.in_ok-first.ensures c.in_ok-rest.ensures c.if-max-min.false c.rows_upto-upto.ensures.0 c.rows_upto-upto.ensures.1
    c.saturating_add_usize-points.ensures c.saturating_add_usize-ways.ensures (search rules)
