-- A tile that its index marks empty (request 5 of document 02), by the machines: it stands at place 0, whatever the map is.
use mathlib.Core.Path.{◌≡◌, refl}
use mathlib.Core.Bool.{Bool, true}
use mathlib.Core.List.{List, []}
use Prim.Native.Nat.{ℕ}
use Rattle.parsing.specs.Parse.{Res, ok}
use Rattle.format.specs.Tile.{TileHead}
use Rattle.format.specs.Rows.{empty_head, marked_head}
use Rattle.format.proofs.EmptyLaws.{no-points, no-ways, no-points-of, no-ways-of}
use Rattle.agreement.specs.Calls.{next, ended, plain}
use Rattle.agreement.specs.Format.{Format}
use Rattle.agreement.specs.Stream.{StreamState, idle, stream, open_stream}
use Rattle.agreement.specs.Collected.{collect}

module _ (debug : Bool) (levels : ℕ) (F : Format) (z : TileHead → F.End) (m : List ℕ) where
  -- its stream opens, however many rows count,
  pub empty-opens : (rows : ℕ) → ◌≡◌ {A = Res (StreamState F)} (open_stream (marked_head true debug levels) rows z m 0) (ok (idle 0 0 0 0 (z (empty_head levels))) 0)
  unfolding marked_head
  empty-opens rows = rw (no-points-of levels rows, no-ways-of levels rows)

  -- and is at its end
  pub empty-ends : (y : F.End) → stream F m (idle 0 0 0 0 y) next ≡ plain (ended y) (idle 0 0 0 0 y)
  empty-ends y = refl

  -- it collects, with a zero row for each level, no signature, first-way offset 0, and no feature
  pub empty-collects : collect (marked_head true debug levels) F m 0 ≡ ok (record { head = empty_head levels; start = 0; points = []; ways = [] }) 0
  unfolding marked_head
  empty-collects = rw (no-points levels, no-ways levels)
