use Prim.Native.Nat.{max}
use Rattle.std.proofs.Common.{◌≡◌, arith}
use Rattle.std.proofs.lemmas.Grind.{common_steps}
use Rattle.wanted.proofs.FigureLaws.{text-loops}
use Rattle.wanted.proofs.points_text.Goals as goal

pub returns-in_err-text : goal.returns-in_err-text
returns-in_err-text c = search text-loops

pub loop-preserved : goal.loop-preserved
loop-preserved c =
    let w : c.max-longest.result ≡ max c.loop.longest c.in_ok-text.text = grind (arith, common_steps, c.max-longest.ensures) in
    search text-loops
