use Rattle.std.proofs.Common.{◌≡◌, ℕ, ◌≤◌, max, length, get_or}
use Rattle.showing.specs.Steps.{one_more, changed_in}
use Rattle.showing.proofs.count_cells.Given as goal

abbrev pub invariant-loop-i : goal.invariant-loop-i
invariant-loop-i l =
    (length l.counts ≡ length l.initial.counts) × (l.i ≤ max l.start l.end) × ((j : ℕ) → get_or l.counts j 0 ≡ changed_in one_more l.start l.i l.initial.counts j)
