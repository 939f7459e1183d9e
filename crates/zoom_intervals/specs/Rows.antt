-- A table of intervals that stands in front of a place.
use Rattle.std.specs.Prelude.{ℕ}
use Rattle.format.specs.IntervalTable.{start_before}
use Rattle.types.specs.declared.IntervalTable.{IntervalTable}

abbrev pub table_before : (end count : ℕ) → IntervalTable
table_before end count = record { start = start_before end count; count = count }
