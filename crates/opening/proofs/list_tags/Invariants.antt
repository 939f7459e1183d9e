use Prim.Native.Nat.{◌+◌, ◌-◌}
use lib.Seq.{sets}
use Rattle.opening.specs.Listing.{starts_in, letters_in}
use Rattle.opening.proofs.ListingLaws.{TagsLeft}
use Rattle.opening.proofs.list_tags.Given as goal

abbrev pub invariant-loop-i : goal.invariant-loop-i
invariant-loop-i l =
    TagsLeft l.map l.at (l.fn.table.count - l.i) (l.first + l.i) l.starts l.letters
    (sets l.initial.starts l.first (starts_in l.map l.fn.table)) (sets l.initial.letters l.first (letters_in l.map l.fn.table))
