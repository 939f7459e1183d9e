-- The tiles of a window as words: which ones each answer writes. The others keep their values.
use Rattle.std.specs.Prelude.{ℕ, [], ◌∷◌, Option, Some, None, Result, Ok, Err}
use Rattle.error.specs.declared.Refusal.{Refusal}
use Rattle.window.specs.declared.WindowTile.{WindowTile}
use Rattle.wire.specs.Wire.{Wire, put, put_signed, numbered, put_refusal}

abbrev pub window_count_wire : (before : Wire) → Result ℕ Refusal → Wire
window_count_wire w (Ok n) = numbered 0 (put 0 6 (n ∷ []) w)
window_count_wire w (Err r) = put_refusal r w

-- 1, the tile's number and its mask, and its column and row; or 0
abbrev pub window_tile_wire : (before : Wire) → Result (Option WindowTile) Refusal → Wire
window_tile_wire w (Ok None) = numbered 0 (put 0 6 (0 ∷ []) w)
window_tile_wire w (Ok (Some t)) = numbered 0 (put 0 6 (1 ∷ t.number ∷ t.mask ∷ []) (put_signed 0 (t.x ∷ t.y ∷ []) w))
window_tile_wire w (Err r) = put_refusal r w
