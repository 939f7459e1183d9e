use Rattle.std.proofs.Common.{to_z-of_z, w64, rules}
use Rattle.utils.specs.Degree.{degrees}
use Rattle.utils.proofs.DegreeLaws.{million}
use Rattle.utils.proofs.microdegrees_to_degrees.Goals as goal

pub returns : goal.returns
unfolding degrees
returns c = rw (c.nearest.ensures, million, to_z-of_z {w = w64} {z = c.args.m.0} (search rules))
