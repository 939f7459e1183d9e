-- Laws of specs/Codecs.antt that an edit of its definitions must break.
use Rattle.std.specs.Prelude.{◌≡◌, [], ◌∷◌, Result, Ok, Err}
use Rattle.error.specs.declared.Refusal.{Refusal}
use Rattle.std.proofs.Common.{ap}
use Rattle.visit.specs.declared.Stream.{Stream}
use Rattle.visit.specs.declared.Answered.{Answered}
use Rattle.wire.specs.Wire.{Wire, Decoder, list_of}
use Rattle.wire.specs.Codecs.{settled}
use Rattle.wire.specs.Spread.{spread_wire, spread-out}
use Rattle.stream_wire.specs.Streams.{stream_in, decline_with, decline_wire}
use Rattle.stream_wire.specs.Codecs.{stream-back, decline_in, decline_seen, DeclineLent}

pub decline-back : (w : Wire) → DeclineLent w → (s : Answered (Result (Unit {0}) Refusal)) → decline_in (decline_wire w s) ≡ decline_seen w s
decline-back w h s = spread-out (6 ∷ 8 ∷ []) 0 0 w h (λ v. decline_in (decline_wire v s) ≡ decline_seen v s) (go s.answer s.stream)
  where
    go : (a : Result (Unit {0}) Refusal) (t : Stream) → decline_in (decline_with a t (spread_wire (6 ∷ 8 ∷ []) 0 0 w)) ≡ decline_seen (spread_wire (6 ∷ 8 ∷ []) 0 0 w) (record { answer = a; stream = t })
    go (Ok tt) t = ap (λ (x : Stream). record { answer = Ok tt; stream = x }) (stream-back t _ _ _ _ _ _ _ _)
    go (Err r) t = ap (λ (x : Result (Unit {0}) Refusal). record { answer = x; stream = stream_in (list_of (spread_wire (6 ∷ 8 ∷ []) 0 0 w) 1) }) (settled Err (Ok tt) _ _ r)

abbrev pub decline_decoder : (w : Wire) → DeclineLent w → Decoder (decline_wire w) (decline_seen w)
decline_decoder w h = record { decode = decline_in; back = decline-back w h }
