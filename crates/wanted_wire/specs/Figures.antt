-- What a tile's stream will want, as words: which ones each answer writes. The others keep their values.
use Rattle.error.specs.declared.Refusal.{Refusal}
use Rattle.wanted.specs.declared.WantedFigures.{WantedFigures}
use Rattle.std.specs.Prelude.{Result, Ok, Err, [], ◌∷◌}
use Rattle.wire.specs.Wire.{Wire, put, numbered, put_refusal}

-- the counts of points and accepted ways, the most blocks and nodes of one way, the longest text
abbrev pub wanted_wire : (before : Wire) → Result WantedFigures Refusal → Wire
wanted_wire w (Ok f) = numbered 0 (put 0 6 (f.points ∷ f.ways ∷ f.blocks ∷ f.nodes ∷ f.text ∷ []) w)
wanted_wire w (Err r) = put_refusal r w
