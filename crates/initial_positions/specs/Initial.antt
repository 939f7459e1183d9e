-- Document 01, way.rs: a block's initial position is its node 0, or 0 and 0 if it is empty. This is one coordinate of it, found in the
-- lists of node counts and of all nodes' coordinates; with those of a way it is that of the format (law `initials-are`).
use Rattle.std.specs.Prelude.{ℕ, cond, List, [], ◌∷◌, leb, length, get_or, take, drop, Float}
use Rattle.format.specs.Lent.{front}
use Rattle.format.specs.Nodes.{zero64}

-- the first of the next n values; 0 if there is none
abbrev pub first_of : ℕ → List Float → Float
first_of n values = get_or (take n values) 0 zero64

abbrev pub initials : List ℕ → List Float → List Float
initials [] values = []
initials (n ∷ counts) values = first_of n values ∷ initials counts (drop n values)

-- at the front of a list that is long enough; a shorter one stays as it is
abbrev pub write_initials : List ℕ → List Float → List Float → List Float
write_initials counts values l = cond (leb (length counts) (length l)) (front (initials counts values) l) l
