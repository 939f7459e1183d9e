-- Document 01, utils.rs: microdegrees as stored, degrees as delivered, by one division by 1000000.
use Rattle.std.specs.Prelude.{ℤ, pos, Float}
use Rattle.std.specs.Float.Ieee as Ieee
use Rattle.std.specs.Float.{binary64}

unfoldable pub degrees : ℤ → Float
degrees m = Ieee.div binary64 (Ieee.of_int binary64 m) (Ieee.of_int binary64 (pos 1000000))
