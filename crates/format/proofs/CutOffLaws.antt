-- Where a map is cut off: the places that refusals 19 and 20 report are those of document 02.
use Prim.Native.Nat.{ℕ, ◌+◌, ◌^◌, ◌≤◌, ◌<◌, max}
use native.Mathlib.Omega.{arith}
use mathlib.Core.Path.{◌≡◌, sym, subst}
use mathlib.Core.Bool.{true}
use mathlib.Core.List.{List, [], ◌∷◌}
use lib.ListN.{length}
use borrow.Author.Tests.{lt-ltb, le-ltb, lt-leb}
use Rattle.parsing.specs.Parse.{no, part, optional}
use Rattle.arithmetic.specs.Cut.{cut}
use Rattle.arithmetic.proofs.CutLaws.{cut_fits}
use Rattle.byte_source.specs.BigEndian.{big_endian}
use Rattle.format.specs.CutOff.{where_byte, FirstMissing}
use Rattle.format.specs.Index.{entry}
use Rattle.format.specs.Tile.{tile_head, debug_signature}

-- a number's missing byte, of which the map and the read's start tell the place
missing_at : (m : List ℕ) (i : ℕ) → FirstMissing m i (max i (length m))
missing_at m i = record {
  from = omega arith;
  fails = let h : length m ≤ max i (length m) = omega arith in rw (le-ltb (max i (length m)) (length m) h);
  before = λ j a b. let h : j < length m = omega arith in rw (lt-ltb j (length m) h);
}

pub first-missing : (m : List ℕ) (i : ℕ) → i < 2 ^ 64 → length m < 2 ^ 64 → FirstMissing m i (where_byte m i)
first-missing m i h k = subst (FirstMissing m i) (sym (cut_fits (max i (length m)) (omega arith))) (missing_at m i)

-- an entry whose five bytes run past the map is refused by its own place
pub entry-cut-off : (start : ℕ) (m : List ℕ) (i : ℕ) → length m < i + 5 → entry start m i ≡ no 19 (cut i ∷ [])
unfolding entry big_endian
entry-cut-off start m i h = rw (lt-leb (i + 5) (length m) h)

-- a tile whose signature does is refused by its first byte
pub signature-cut-off : (rows : ℕ) (m : List ℕ) (i : ℕ) → length m < i + 32 → tile_head true rows m i ≡ no 20 (cut i ∷ [])
unfolding tile_head debug_signature optional part
signature-cut-off rows m i h = rw (lt-leb (i + 32) (length m) h)
