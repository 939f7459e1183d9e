use Prim.Native.Nat.{◌-◌}
use mathlib.Core.Path.{◌≡◌}
use Rattle.format.specs.IntervalTable.{row_holding}
use Rattle.zoom_intervals.proofs.sub_file_for_zoom.Given as goal

abbrev pub invariant-loop-i : goal.invariant-loop-i
invariant-loop-i l =
    row_holding l.zoom l.i (l.fn.table.count - l.i) l.map l.at ≡ row_holding l.zoom 0 l.fn.table.count l.map l.fn.table.start
