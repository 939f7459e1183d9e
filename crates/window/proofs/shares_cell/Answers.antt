use Rattle.window.proofs.ShareLaws.{and-meets}
use Rattle.window.proofs.shares_cell.Goals as goal

pub returns : goal.returns
returns c = and-meets 16 c.args.bitmap c.args.mask c.ranges.bitmap.fits
