-- Encode, then decode, is the identity, whatever words were lent: how the other program reads the words, and that nothing is lost on the way.
use Rattle.std.specs.Prelude.{ℕ, ◌≡◌, refl, [], ◌∷◌, Option, Some, None, Result, Ok, Err}
use Rattle.error.specs.declared.Refusal.{Refusal}
use Rattle.window.specs.declared.WindowTile.{WindowTile}
use Rattle.wire.specs.Wire.{Wire, Lent, Codec, word, signed_at, there}
use Rattle.wire.specs.Spread.{spread_wire, spread-out}
use Rattle.wire.specs.Codecs.{settle, settled}
use Rattle.window_wire.specs.Windows.{window_count_wire, window_tile_wire}

abbrev Count : Type 0
Count = Result ℕ Refusal

abbrev pub window_count_in : Wire → Count
window_count_in w = settle Err (Ok (word w 0 6)) w

pub window_count-back : (w : Wire) → Lent (7 ∷ []) 0 0 w → (a : Count) → window_count_in (window_count_wire w a) ≡ a
window_count-back w h a = spread-out (7 ∷ []) 0 0 w h (λ v. window_count_in (window_count_wire v a) ≡ a) (go a)
  where
    go : (a : Count) → window_count_in (window_count_wire (spread_wire (7 ∷ []) 0 0 w) a) ≡ a
    go (Ok n) = refl
    go (Err r) = settled {A = Count} Err _ _ _ r

abbrev pub window_count_codec : (w : Wire) → Lent (7 ∷ []) 0 0 w → Codec (window_count_wire w)
window_count_codec w h = record { decode = window_count_in; back = window_count-back w h }

abbrev Tile : Type 0
Tile = Result (Option WindowTile) Refusal

abbrev pub window_tile_in : Wire → Tile
window_tile_in w = settle Err (there (word w 0 6) (Ok None) (Ok (Some (record { x = signed_at w 0; y = signed_at w 1; number = word w 0 7; mask = word w 0 8 })))) w

pub window_tile-back : (w : Wire) → Lent (9 ∷ []) 2 0 w → (a : Tile) → window_tile_in (window_tile_wire w a) ≡ a
window_tile-back w h a = spread-out (9 ∷ []) 2 0 w h (λ v. window_tile_in (window_tile_wire v a) ≡ a) (go a)
  where
    go : (a : Tile) → window_tile_in (window_tile_wire (spread_wire (9 ∷ []) 2 0 w) a) ≡ a
    go (Ok None) = refl
    go (Ok (Some t)) = refl
    go (Err r) = settled {A = Tile} Err _ _ _ r

abbrev pub window_tile_codec : (w : Wire) → Lent (9 ∷ []) 2 0 w → Codec (window_tile_wire w)
window_tile_codec w h = record { decode = window_tile_in; back = window_tile-back w h }
