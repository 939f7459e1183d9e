use Rattle.std.proofs.Common.{◌<◌, arith}
use lib.ListN.{length-take}
use lib.Seq.{get_or-take}
use Rattle.report.proofs.WordLaws.{mix-none, mix-more}
use Rattle.report.proofs.mix_list.Goals as goal

pub loop-word-init : goal.loop-word-init
loop-word-init c = mix-none _ _ _ c.mix-out.ensures

pub loop-word-preserved : goal.loop-word-preserved
loop-word-preserved c =
    let b : c.loop-word.word-index < c.min-first.result = omega (arith, length-take c.min-first.result c.args.list.now) in
    mix-more _ _ _ _ c.loop-word.invariant _ (rw get_or-take at c.mix-out-in-loop-word.ensures)
