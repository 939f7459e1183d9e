-- Where an entry of the tile index stands, and what it says.
use Prim.Native.Nat.{ℕ, ◌+◌, ◌%◌, ◌^◌, ◌<◌}
use mathlib.Core.Path.{◌≡◌, ap, ◌∙◌}
use mathlib.Core.List.{List}
use lib.Dec.{leb, lit≤}
use lib.ListN.{length}
use Rattle.parsing.specs.Parse.{Res, ok, no, and_then}
use Rattle.parsing.specs.Good.{no_ok}
use Rattle.error.specs.Refusals.{refused}
use Rattle.error.specs.declared.Refusal.{Refusal}
use Rattle.arithmetic.specs.Cut.{cut}
use Rattle.arithmetic.proofs.CutLaws.{Cuts, cuts-bind, cuts-instead}
use Rattle.byte_source.proofs.ByteLaws.{big_endian-end}
use Rattle.format.specs.Index.{Entry, entry}
use Rattle.index.specs.Answers.{held_entry, held_res}
use Rattle.index.specs.declared.TileIndexEntry.{TileIndexEntry}

-- the entry as it is handed out
pub entry-held : (n start absolute : ℕ) → absolute ≡ cut (start + n % 549755813888) → ok (record { is_water = leb 549755813888 n; offset = n % 549755813888; offset_abs = absolute }) 0 ≡ ok (held_entry (record { water = leb (2 ^ 39) n; offset = n % 2 ^ 39; absolute = start + n % 2 ^ 39 })) 0
entry-held n start absolute h = rw h

-- a read at a place that the code holds cut is the read at the true place
entry-cuts : (start : ℕ) → Cuts (entry start)
unfolding entry
entry-cuts start = cuts-bind _ (cuts-instead 19 (big_endian-end 5 (lit≤ tt)))

pub entry-cut : (m : List ℕ) (start place at : ℕ) (x : Res TileIndexEntry) → length m < 2 ^ 64 → at ≡ cut place → x ≡ held_res (entry start m at) → x ≡ held_res (entry start m place)
entry-cut m start place at x l h e = e ∙ ap held_res (ap (entry start m) h ∙ (entry-cuts start).at m place l)

-- for callers: the refusal of an entry
pub entry-refused : {B : Type 0} (e : Refusal) (r : Res Entry) (f : Entry → ℕ → Res B) → refused e ≡ held_res r → refused e ≡ and_then r f
entry-refused e (ok a n) f d = no_ok d
entry-refused e (no n w) f d = cc
