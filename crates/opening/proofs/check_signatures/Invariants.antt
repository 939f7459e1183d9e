use Prim.Native.Nat.{◌-◌}
use mathlib.Core.Path.{◌≡◌}
use Rattle.format.specs.IntervalTable.{rows_signed}
use Rattle.opening.proofs.check_signatures.Given as goal

abbrev pub invariant-loop : goal.invariant-loop
invariant-loop l =
    rows_signed (l.fn.table.count - l.counter) l.map l.at ≡ rows_signed l.fn.table.count l.map l.fn.table.start
