use Prim.Native.Nat.{◌≤◌, ◌<◌, ◌+◌, ◌^◌}
use mathlib.Core.Path.{◌≡◌}
use lib.ListN.{length, drop}
use Rattle.arithmetic.specs.Cut.{cut}
use Rattle.fetched.specs.Fetched.{started_name, id_texts}
use Rattle.feature_texts.proofs.ids_len.Given as goal

abbrev pub invariant-loop-id : goal.invariant-loop-id
invariant-loop-id l =
    (l.id-index ≤ length l.ids) × (l.len < 2 ^ 64) × (cut (l.len + length (id_texts (started_name l.starts l.tags l.map) (drop l.id-index l.ids))) ≡ cut (length (id_texts (started_name l.starts l.tags l.map) l.ids)))
