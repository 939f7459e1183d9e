use Rattle.measured_way.proofs.MeasureLaws.{told-short, told-done}
use Rattle.measured_way.proofs.tell_way.Goals as goal

pub returns-then-is_short : goal.returns-then-is_short
returns-then-is_short c =
    told-short _ _ _ _ _ _ _ _ _ _ c.way_parts-parts.ensures _ c.texts_len-len.ensures _ c.is_short.ensures _ c.if-is_short.true c.too_short.ensures

pub returns : goal.returns
returns c =
    told-done _ _ _ _ _ _ _ _ _ _ c.way_parts-parts.ensures _ c.texts_len-len.ensures _ c.is_short.ensures _ _ c.if-is_short.false c.texts_of-texts.ensures c.way_with.ensures
