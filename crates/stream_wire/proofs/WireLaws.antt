-- Words made of the parts that other calls gave, and a stream from its words.
use Prim.Native.Nat.{ℕ, ◌<◌, ◌≤◌, ◌%◌}
use mathlib.Core.Bool.{Bool}
use mathlib.Core.Path.{◌≡◌, refl}
use mathlib.Core.List.{List}
use lib.ListN.{get_or}
use borrow.Author.Rules.{rules}
use borrow.Author.Tests.{lt-ltb, le-ltb}
use Rattle.selection.specs.declared.Selection.{Selection}
use Rattle.visit.specs.declared.Turn.{Turn}
use Rattle.visit.specs.declared.Turn.TheVariants as turn
use Rattle.visit.specs.declared.Stream.{Stream}
use Rattle.wire.specs.Wire.{truth}
use Rattle.stream_wire.specs.Streams.{turn_in, stream_in, selection_in}

module _ (l : List ℕ) where
  pub turn-waits : (b : Bool) → 0 < get_or l 0 0 → b ≡ truth (get_or l 4 0) → turn.Waits (record { past = get_or l 1 0; ways = get_or l 2 0; body = get_or l 3 0; head_plain = b }) ≡ turn_in l
  turn-waits b h q = rw (lt-ltb 0 (get_or l 0 0) h, q) refl

  pub turn-idle : get_or l 0 0 ≤ 0 → turn.Idle (record { points = get_or l 1 0; ways = get_or l 2 0; at = get_or l 3 0; way = get_or l 4 0 }) ≡ turn_in l
  turn-idle h = rw (le-ltb 0 (get_or l 0 0) h) refl

  pub stream-made : (t : Turn) (b a : Bool) → t ≡ turn_in l → b ≡ truth (get_or l 5 0) → a ≡ truth (get_or l 7 0) → ◌≡◌ {A = Stream} (record { turn = t; end = record { sub_file = get_or l 6 0; is_water = b; plain = a } }) (stream_in l)
  stream-made t b a p q o = rw (p, q, o) refl

  pub selection-made : (b a : Bool) → b ≡ truth (get_or l 0 0) → a ≡ truth (get_or l 2 0) → ◌≡◌ {A = Selection} (record { by_window = b; mask = get_or l 1 0 % 65536; by_rules = a; zoom = get_or l 3 0 % 256 }) (selection_in l)
  selection-made b a p q = rw (p, q) refl

pub ruleset turns = (rules, turn-waits, turn-idle)
