use native.Mathlib.Omega.{arith}
use Rattle.exports.proofs.SkipLaws.{skip-refused, skip-crosses}
use Rattle.exports.proofs.mapsforge_stream_skip.Goals as goal

pub returns-then-refused-ne0 : goal.returns-then-refused-ne0
returns-then-refused-ne0 c =
    skip-refused _ _ _ _ _ _ _ _ _ _ _ _ c.mapsforge_stream_decline-refused.ensures (λ e. omega (arith, c.if-refused-ne0.true))

pub returns : goal.returns
returns c =
    skip-crosses _ _ _ _ _ _ _ _ _ _ _ _ c.mapsforge_stream_decline-refused.ensures (omega arith) (omega (arith, c.if-refused-ne0.false)) _ _ _ _ _ _ c.mapsforge_stream_next-number.ensures _ _ c.put_back.ensures
