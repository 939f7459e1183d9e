use Rattle.std.proofs.Common.{◌≡◌, ℕ, ◌≤◌, max, length, get_or}
use Rattle.showing.specs.Steps.{always, changed_in}
use Rattle.showing.proofs.fill_cells.Given as goal

abbrev pub invariant-loop-i : goal.invariant-loop-i
invariant-loop-i l =
    (length l.classes ≡ length l.initial.classes) × (l.i ≤ max l.start l.end) × ((j : ℕ) → get_or l.classes j 0 ≡ changed_in (always l.class) l.start l.i l.initial.classes j)
