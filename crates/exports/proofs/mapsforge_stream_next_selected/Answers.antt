use Rattle.exports.proofs.SelectLaws.{selected-crosses, less, again}
use Rattle.exports.proofs.mapsforge_stream_next_selected.Goals as goal

pub returns-then-not-goes_past : goal.returns-then-not-goes_past
returns-then-not-goes_past c =
    selected-crosses _ _ _ _ _ _ _ _ _ _ _ _ c.loop-which.invariant _ _ _ _ _ _ c.mapsforge_stream_next-number.ensures _ c.goes_past.ensures _ c.selection_in-which.ensures c.if-not-goes_past.true-raw _ _ c.put_back.ensures

pub loop-which-smaller : goal.loop-which-smaller
loop-which-smaller c =
    less _ _ _ _ _ _ _ _ _ _ _ _ c.loop-which.invariant _ _ _ _ _ _ c.mapsforge_stream_next-number.ensures _ c.goes_past.ensures c.if-not-goes_past.false-raw _ _ _ _ c.mapsforge_stream_decline.ensures

pub loop-which-preserved : goal.loop-which-preserved
loop-which-preserved c =
    again _ _ _ _ _ _ _ _ _ _ _ _ c.loop-which.invariant _ _ _ _ _ _ c.mapsforge_stream_next-number.ensures _ c.goes_past.ensures c.if-not-goes_past.false-raw _ _ _ _ c.mapsforge_stream_decline.ensures
