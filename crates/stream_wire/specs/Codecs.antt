-- How the other program reads the words of a stream, and that nothing is lost on the way, whatever words it lent.
use Rattle.std.specs.Prelude.{ℕ, Bool, cond, ◌≡◌, refl, [], ◌∷◌, get_or, ℤ, Result, Ok, Err, Option}
use Rattle.error.specs.declared.LentRefusal.{LentRefusal}
use Rattle.byte_source.specs.declared.Span.{Span}
use Rattle.types.specs.declared.Position.{Position}
use Rattle.std.proofs.Common.{ap}
use Rattle.std.proofs.lemmas.List.Edits.{sets}
use Rattle.error.specs.declared.Refusal.{Refusal}
use Rattle.poi.specs.declared.Poi.{Poi}
use Rattle.visit.specs.declared.TileEnd.{TileEnd}
use Rattle.visit.specs.declared.Remaining.{Remaining}
use Rattle.visit.specs.declared.WaitingWay.{WaitingWay}
use Rattle.visit.specs.declared.Turn.{Turn}
use Rattle.visit.specs.declared.Turn.TheVariants as turn
use Rattle.visit.specs.declared.Stream.{Stream}
use Rattle.visit.specs.declared.StreamedHead.{StreamedHead}
use Rattle.visit.specs.declared.StreamedBody.{StreamedBody}
use Rattle.visit.specs.declared.Given.{Given}
use Rattle.visit.specs.declared.Given.TheVariants as given
use Rattle.visit.specs.declared.Answered.{Answered}
use Rattle.wire.specs.Wire.{Wire, Lent, Decoder, Codec, list_of, word, signed_at, truth}
use Rattle.wire.specs.Codecs.{settle, settled, settle_lent, settled-lent, truth-back, span_in, span-back, place_in, place-back, degree}
use Rattle.wire.specs.Elevation.{metres_in, metres-back}
use Rattle.wire.specs.Spread.{spread_wire, spread-out}
use Rattle.stream_wire.specs.Streams.{turn_words, stream_words, stream_in, opened_wire, next_with, next_wire, accept_with, accept_wire}

-- the state
idle-back : (r : Remaining) (e : TileEnd) (w w' p p' : Bool) → w ≡ w' → p ≡ p' → ◌≡◌ {A = Stream} (record { turn = turn.Idle r; end = record { sub_file = e.sub_file; is_water = w; plain = p } }) (record { turn = turn.Idle r; end = record { sub_file = e.sub_file; is_water = w'; plain = p' } })
idle-back r e w w' p p' q1 q2 = rw (q1, q2) refl

waits_back : (x : WaitingWay) (e : TileEnd) (h h' w w' p p' : Bool) → h ≡ h' → w ≡ w' → p ≡ p' → ◌≡◌ {A = Stream} (record { turn = turn.Waits (record { ways = x.ways; past = x.past; body = x.body; head_plain = h }); end = record { sub_file = e.sub_file; is_water = w; plain = p } }) (record { turn = turn.Waits (record { ways = x.ways; past = x.past; body = x.body; head_plain = h' }); end = record { sub_file = e.sub_file; is_water = w'; plain = p' } })
waits_back x e h h' w w' p p' q1 q2 q3 = rw (q1, q2, q3) refl

turn-back : (t : Turn) (e : TileEnd) (x₀ x₁ x₂ x₃ x₄ x₅ x₆ x₇ : ℕ) → stream_in (sets (x₀ ∷ x₁ ∷ x₂ ∷ x₃ ∷ x₄ ∷ x₅ ∷ x₆ ∷ x₇ ∷ []) 0 (turn_words t e.sub_file (cond e.is_water 1 0) (cond e.plain 1 0))) ≡ record { turn = t; end = e }
turn-back (turn.Idle r) e x₀ x₁ x₂ x₃ x₄ x₅ x₆ x₇ = idle-back r e _ _ _ _ (truth-back e.is_water) (truth-back e.plain)
turn-back (turn.Waits w) e x₀ x₁ x₂ x₃ x₄ x₅ x₆ x₇ = waits_back w e _ _ _ _ _ _ (truth-back w.head_plain) (truth-back e.is_water) (truth-back e.plain)

pub stream-back : (s : Stream) (x₀ x₁ x₂ x₃ x₄ x₅ x₆ x₇ : ℕ) → stream_in (sets (x₀ ∷ x₁ ∷ x₂ ∷ x₃ ∷ x₄ ∷ x₅ ∷ x₆ ∷ x₇ ∷ []) 0 (stream_words s)) ≡ s
stream-back s = turn-back s.turn s.end

-- opening
abbrev pub opened_in : Wire → Result Stream Refusal
opened_in w = settle Err (Ok (stream_in (list_of w 1))) w

abbrev pub OpenedLent : Wire → Type 0
OpenedLent = Lent (6 ∷ 8 ∷ []) 0 0

pub opened-back : (w : Wire) → OpenedLent w → (a : Result Stream Refusal) → opened_in (opened_wire w a) ≡ a
opened-back w h a = spread-out (6 ∷ 8 ∷ []) 0 0 w h (λ v. opened_in (opened_wire v a) ≡ a) (go a)
  where
    go : (a : Result Stream Refusal) → opened_in (opened_wire (spread_wire (6 ∷ 8 ∷ []) 0 0 w) a) ≡ a
    go (Ok s) = ap Ok (stream-back s _ _ _ _ _ _ _ _)
    go (Err r) = settled Err _ _ _ r

abbrev pub opened_codec : (w : Wire) → OpenedLent w → Codec (opened_wire w)
opened_codec w h = record { decode = opened_in; back = opened-back w h }

-- What a call shows. The stream is the one that the state's words then say, here as with accept and decline: after a refusal the one
-- that they said before, which is the one that the call left (`next-kept`, `accept-kept`, `decline-kept` of word_agreement).
abbrev pub left_by : {T E : Type 0} → Result T E → (left before : Stream) → Stream
left_by (Ok v) left before = left
left_by (Err e) left before = before

abbrev pub seen_by : {T E : Type 0} → (before : Stream) → Answered (Result T E) → Answered (Result T E)
seen_by b s = record { answer = s.answer; stream = left_by s.answer s.stream b }

-- next
abbrev NextAnswer : Type 0
NextAnswer = Answered (Result Given Refusal)

abbrev pub seen : (lent : Wire) → NextAnswer → NextAnswer
seen w s = seen_by (stream_in (list_of w 2)) s

abbrev pub point_in : Wire → Poi
point_in w = record {
  signature = span_in (word w 0 8) (word w 0 9) (word w 0 10);
  position = record { latitude = degree w 0; longitude = degree w 1 };
  layer = signed_at w 0;
  tag_ids = record { ids = list_of w 1; count = word w 0 7 };
  name = span_in (word w 0 11) (word w 0 12) (word w 0 13);
  house_number = span_in (word w 0 14) (word w 0 15) (word w 0 16);
  elevation = metres_in (word w 0 17) (signed_at w 1);
  plain = truth (word w 0 21);
}

abbrev pub head_in : Wire → StreamedHead
head_in w = record { bitmap = word w 0 18; layer = signed_at w 0; tag_ids = record { ids = list_of w 1; count = word w 0 7 }; plain = truth (word w 0 21) }

abbrev pub end_in : Wire → TileEnd
end_in w = record { sub_file = word w 0 19; is_water = truth (word w 0 20); plain = truth (word w 0 21) }

abbrev pub given_in : Wire → Given
given_in w = get_or (given.Point (point_in w) ∷ given.Way (head_in w) ∷ []) (word w 0 6) (given.End (end_in w))

abbrev pub next_in : Wire → NextAnswer
next_in w = record {
  answer = settle Err (Ok (given_in w)) w;
  stream = stream_in (list_of w 2);
}

abbrev point_with : (signature name house_number : Option Span) → Option ℤ → Bool → Poi → Poi
point_with s n h e b p = record { signature = s; position = p.position; layer = p.layer; tag_ids = p.tag_ids; name = n; house_number = h; elevation = e; plain = b }

point-with : (p : Poi) (s s' n n' h h' : Option Span) (e e' : Option ℤ) (b b' : Bool) (t t' : Stream) → s ≡ s' → n ≡ n' → h ≡ h' → e ≡ e' → b ≡ b' → t ≡ t' → ◌≡◌ {A = NextAnswer} (record { answer = Ok (given.Point (point_with s n h e b p)); stream = t }) (record { answer = Ok (given.Point (point_with s' n' h' e' b' p)); stream = t' })
point-with p s s' n n' h h' e e' b b' t t' q1 q2 q3 q4 q5 q6 = rw (q1, q2, q3, q4, q5, q6) refl

head-with : (h : StreamedHead) (b b' : Bool) (t t' : Stream) → b ≡ b' → t ≡ t' → ◌≡◌ {A = NextAnswer} (record { answer = Ok (given.Way (record { bitmap = h.bitmap; layer = h.layer; tag_ids = h.tag_ids; plain = b })); stream = t }) (record { answer = Ok (given.Way (record { bitmap = h.bitmap; layer = h.layer; tag_ids = h.tag_ids; plain = b' })); stream = t' })
head-with h b b' t t' q1 q2 = rw (q1, q2) refl

end_with : (z : TileEnd) (w w' b b' : Bool) (t t' : Stream) → w ≡ w' → b ≡ b' → t ≡ t' → ◌≡◌ {A = NextAnswer} (record { answer = Ok (given.End (record { sub_file = z.sub_file; is_water = w; plain = b })); stream = t }) (record { answer = Ok (given.End (record { sub_file = z.sub_file; is_water = w'; plain = b' })); stream = t' })
end_with z w w' b b' t t' q1 q2 q3 = rw (q1, q2, q3) refl

abbrev pub NextLent : Wire → Type 0
NextLent = Lent (22 ∷ 15 ∷ 8 ∷ []) 2 2

pub next-back : (w : Wire) → NextLent w → (s : NextAnswer) → next_in (next_wire w s) ≡ seen w s
next-back w h s = spread-out (22 ∷ 15 ∷ 8 ∷ []) 2 2 w h (λ v. next_in (next_wire v s) ≡ seen v s) (go s.answer s.stream)
  where
    go : (a : Result Given Refusal) (t : Stream) → next_in (next_with a t (spread_wire (22 ∷ 15 ∷ 8 ∷ []) 2 2 w)) ≡ seen (spread_wire (22 ∷ 15 ∷ 8 ∷ []) 2 2 w) (record { answer = a; stream = t })
    go (Ok (given.Point p)) t = point-with p _ _ _ _ _ _ _ _ _ _ _ _ (span-back p.signature) (span-back p.name) (span-back p.house_number) (metres-back p.elevation) (truth-back p.plain) (stream-back t _ _ _ _ _ _ _ _)
    go (Ok (given.Way h)) t = head-with h _ _ _ _ (truth-back h.plain) (stream-back t _ _ _ _ _ _ _ _)
    go (Ok (given.End z)) t = end_with z _ _ _ _ _ _ (truth-back z.is_water) (truth-back z.plain) (stream-back t _ _ _ _ _ _ _ _)
    go (Err r) t = ap (λ (x : Result Given Refusal). record { answer = x; stream = stream_in (list_of (spread_wire (22 ∷ 15 ∷ 8 ∷ []) 2 2 w) 2) }) (settled Err _ _ _ r)

abbrev pub next_decoder : (w : Wire) → NextLent w → Decoder (next_wire w) (seen w)
next_decoder w h = record { decode = next_in; back = next-back w h }

-- accept and decline
abbrev pub body_in : Wire → StreamedBody
body_in w = record {
  name = span_in (word w 0 8) (word w 0 9) (word w 0 10);
  house_number = span_in (word w 0 11) (word w 0 12) (word w 0 13);
  reference = span_in (word w 0 14) (word w 0 15) (word w 0 16);
  label_position = place_in (word w 0 17) (degree w 0) (degree w 1);
  blocks = word w 0 6;
  nodes = word w 0 7;
  plain = truth (word w 0 18);
}

abbrev pub accept_in : Wire → Answered (Result StreamedBody LentRefusal)
accept_in w = record { answer = settle_lent Err (Ok (body_in w)) w; stream = stream_in (list_of w 1) }

abbrev body_with : (name house_number reference : Option Span) → Option Position → Bool → StreamedBody → StreamedBody
body_with n h r p a b = record { name = n; house_number = h; reference = r; label_position = p; blocks = b.blocks; nodes = b.nodes; plain = a }

body-with : (b : StreamedBody) (n n' h h' r r' : Option Span) (p p' : Option Position) (a a' : Bool) (t t' : Stream) → n ≡ n' → h ≡ h' → r ≡ r' → p ≡ p' → a ≡ a' → t ≡ t' → ◌≡◌ {A = Answered (Result StreamedBody LentRefusal)} (record { answer = Ok (body_with n h r p a b); stream = t }) (record { answer = Ok (body_with n' h' r' p' a' b); stream = t' })
body-with b n n' h h' r r' p p' a a' t t' q1 q2 q3 q4 q5 q6 = rw (q1, q2, q3, q4, q5, q6) refl

abbrev pub accept_seen : (lent : Wire) → Answered (Result StreamedBody LentRefusal) → Answered (Result StreamedBody LentRefusal)
accept_seen w s = seen_by (stream_in (list_of w 1)) s

abbrev pub AcceptLent : Wire → Type 0
AcceptLent = Lent (19 ∷ 8 ∷ []) 0 2

pub accept-back : (w : Wire) → AcceptLent w → (s : Answered (Result StreamedBody LentRefusal)) → accept_in (accept_wire w s) ≡ accept_seen w s
accept-back w h s = spread-out (19 ∷ 8 ∷ []) 0 2 w h (λ v. accept_in (accept_wire v s) ≡ accept_seen v s) (go s.answer s.stream)
  where
    go : (a : Result StreamedBody LentRefusal) (t : Stream) → accept_in (accept_with a t (spread_wire (19 ∷ 8 ∷ []) 0 2 w)) ≡ accept_seen (spread_wire (19 ∷ 8 ∷ []) 0 2 w) (record { answer = a; stream = t })
    go (Ok b) t = body-with b _ _ _ _ _ _ _ _ _ _ _ _ (span-back b.name) (span-back b.house_number) (span-back b.reference) (place-back b.label_position) (truth-back b.plain) (stream-back t _ _ _ _ _ _ _ _)
    go (Err r) t = ap (λ (x : Result StreamedBody LentRefusal). record { answer = x; stream = stream_in (list_of (spread_wire (19 ∷ 8 ∷ []) 0 2 w) 1) }) (settled-lent Err _ _ _ _ _ _ _ _ r)

abbrev pub accept_decoder : (w : Wire) → AcceptLent w → Decoder (accept_wire w) (accept_seen w)
accept_decoder w h = record { decode = accept_in; back = accept-back w h }

abbrev pub decline_in : Wire → Answered (Result (Unit {0}) Refusal)
decline_in w = record { answer = settle Err (Ok tt) w; stream = stream_in (list_of w 1) }

abbrev pub decline_seen : (lent : Wire) → Answered (Result (Unit {0}) Refusal) → Answered (Result (Unit {0}) Refusal)
decline_seen w s = seen_by (stream_in (list_of w 1)) s

abbrev pub DeclineLent : Wire → Type 0
DeclineLent = Lent (6 ∷ 8 ∷ []) 0 0
