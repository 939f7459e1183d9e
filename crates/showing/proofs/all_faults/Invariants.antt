use Rattle.std.proofs.Common.{◌≡◌, ◌*◌, min}
use Rattle.showing.specs.Showing.{first_from, overlaps, gaps}
use Rattle.showing.proofs.all_faults.Given as goal

abbrev pub invariant-loop-stretch : goal.invariant-loop-stretch
invariant-loop-stretch l =
    (l.overlap ≡ first_from (overlaps l.rules) (min (8192 * l.stretch) l.cells) 0) × (l.gap ≡ first_from (gaps l.rules) (min (8192 * l.stretch) l.cells) 0)
