use Rattle.opening.proofs.ReplyLaws.{wholes, whole_open, whole_refused}
use Rattle.opening.proofs.open_map.Goals as goal

pub returns-in_err-opened : goal.returns-in_err-opened
returns-in_err-opened c = search wholes

pub returns-in_err-with_intervals : goal.returns-in_err-with_intervals
returns-in_err-with_intervals c =
    whole_refused _ _ _ _ _ c.in_ok-opened.ensures _ _ c.from_residual-in_err-with_intervals.ensures c.in_err-with_intervals.ensures

pub returns : goal.returns
returns c =
    whole_open _ _ _ _ _ c.in_ok-opened.ensures _ _ c.in_ok-with_intervals.ensures
