use mathlib.Core.Path.{◌≡◌}
use Rattle.parsing.specs.Parse.{ok, many, map_res}
use Rattle.format.specs.Header.{interval}
use Rattle.zoom_intervals.specs.Intervals.{filled}
use Rattle.zoom_intervals.proofs.fill_intervals.Given as goal

abbrev pub invariant-loop-i : goal.invariant-loop-i
invariant-loop-i l = map_res filled (many interval l.i l.map l.at) ≡ ok l.intervals l.next
