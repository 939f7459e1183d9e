use mir.Syntax.{w64}
use mir.Facts.{to_z-of_z}
use Rattle.utils.specs.Degree.{degrees}
use Rattle.utils.proofs.DegreeLaws.{million, abs-sfits}
use Rattle.way_data.proofs.exact_degrees.Goals as goal

pub returns : goal.returns
unfolding degrees
returns c = rw (million, to_z-of_z {w = w64} {z = c.args.m.0} (abs-sfits c.args.m.0 c.requires))
