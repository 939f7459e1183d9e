-- Encode, then decode, is the identity, whatever words were lent: how the other program reads the words, and that nothing is lost on the way.
use Rattle.error.specs.declared.Refusal.{Refusal}
use Rattle.wanted.specs.declared.WantedFigures.{WantedFigures}
use Rattle.std.specs.Prelude.{Result, Ok, Err, ◌≡◌, refl, [], ◌∷◌}
use Rattle.wire.specs.Wire.{Wire, Lent, Codec, word}
use Rattle.wire.specs.Spread.{spread_wire, spread-out}
use Rattle.wire.specs.Codecs.{settle, settled}
use Rattle.wanted_wire.specs.Figures.{wanted_wire}

abbrev pub wanted_in : Wire → Result WantedFigures Refusal
wanted_in w = settle Err (Ok (record { points = word w 0 6; ways = word w 0 7; blocks = word w 0 8; nodes = word w 0 9; text = word w 0 10 })) w

pub wanted-back : (w : Wire) → Lent (11 ∷ []) 0 0 w → (a : Result WantedFigures Refusal) → wanted_in (wanted_wire w a) ≡ a
wanted-back w h a = spread-out (11 ∷ []) 0 0 w h (λ v. wanted_in (wanted_wire v a) ≡ a) (go a)
  where
    go : (a : Result WantedFigures Refusal) → wanted_in (wanted_wire (spread_wire (11 ∷ []) 0 0 w) a) ≡ a
    go (Ok f) = refl
    go (Err r) = settled Err _ _ _ r

abbrev pub wanted_codec : (w : Wire) → Lent (11 ∷ []) 0 0 w → Codec (wanted_wire w)
wanted_codec w h = record { decode = wanted_in; back = wanted-back w h }
