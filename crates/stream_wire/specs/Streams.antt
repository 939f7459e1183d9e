-- A stream, and what its calls answer, as words: which ones each answer writes. The others keep their values.
use Rattle.std.specs.Prelude.{ℕ, ◌%◌, Bool, cond, not, ◌&&◌, List, [], ◌∷◌, eqb, get_or, Result, Ok, Err, Option}
use Rattle.error.specs.declared.Refusal.{Refusal}
use Rattle.error.specs.declared.LentRefusal.{LentRefusal}
use Rattle.byte_source.specs.declared.Span.{Span}
use Rattle.poi.specs.declared.Poi.{Poi}
use Rattle.selection.specs.Selects.{selects}
use Rattle.selection.specs.declared.Selection.{Selection}
use Rattle.visit.specs.declared.TileEnd.{TileEnd}
use Rattle.visit.specs.declared.Turn.{Turn}
use Rattle.visit.specs.declared.Turn.TheVariants as turn
use Rattle.visit.specs.declared.Stream.{Stream}
use Rattle.visit.specs.declared.StreamedHead.{StreamedHead}
use Rattle.visit.specs.declared.StreamedBody.{StreamedBody}
use Rattle.visit.specs.declared.Given.{Given}
use Rattle.visit.specs.declared.Given.TheVariants as given
use Rattle.visit.specs.declared.Answered.{Answered}
use Rattle.wire.specs.Wire.{Wire, put, put_all, put_signed, put_degrees, numbered, put_refusal, put_lent_refusal, truth, there}
use Rattle.wire.specs.Verdicts.{span_words, place_words}
use Rattle.wire.specs.Elevation.{metre_words}

-- The state, in eight words. The ways that remain stand in the same word in both turns, and the two marks of the end are not neighbours: so a call
-- that goes from one turn to the other does not read, as one, words that the call before wrote one by one, for which a processor waits.
abbrev pub turn_words : Turn → (sub_file water plain : ℕ) → List ℕ
turn_words (turn.Idle r) s w p = 0 ∷ r.points ∷ r.ways ∷ r.at ∷ r.way ∷ w ∷ s ∷ p ∷ []
turn_words (turn.Waits x) s w p = 1 ∷ x.past ∷ x.ways ∷ x.body ∷ cond x.head_plain 1 0 ∷ w ∷ s ∷ p ∷ []

abbrev pub stream_words : Stream → List ℕ
stream_words s = turn_words s.turn s.end.sub_file (cond s.end.is_water 1 0) (cond s.end.plain 1 0)

abbrev pub turn_in : List ℕ → Turn
turn_in l =
    there (get_or l 0 0) (turn.Idle (record { points = get_or l 1 0; ways = get_or l 2 0; at = get_or l 3 0; way = get_or l 4 0 }))
    (turn.Waits (record { past = get_or l 1 0; ways = get_or l 2 0; body = get_or l 3 0; head_plain = truth (get_or l 4 0) }))

abbrev pub stream_in : List ℕ → Stream
stream_in l = record { turn = turn_in l; end = record { sub_file = get_or l 6 0; is_water = truth (get_or l 5 0); plain = truth (get_or l 7 0) } }

-- which ways are selected, in four words
abbrev pub selection_in : List ℕ → Selection
selection_in l = record { by_window = truth (get_or l 0 0); mask = get_or l 1 0 % 65536; by_rules = truth (get_or l 2 0); zoom = get_or l 3 0 % 256 }

-- whether what a next wrote is a way that is not selected: its number, its words and its tag ids
abbrev pub goes_past : Selection → (classes : List ℕ) → (number : ℕ) → (words ids : List ℕ) → Bool
goes_past c classes n w i = eqb n 0 && (eqb (get_or w 6 0) 1 && not (selects c classes (get_or w 18 0) (record { ids = i; count = get_or w 7 0 })))

-- opening
abbrev pub opened_wire : (before : Wire) → Result Stream Refusal → Wire
opened_wire w (Ok s) = numbered 0 (put 1 0 (stream_words s) w)
opened_wire w (Err r) = put_refusal r w

-- next: words from 6 on, the tag ids, the state
abbrev pub span_list : Option Span → List ℕ → List ℕ
span_list s l = (span_words s).present ∷ (span_words s).start ∷ (span_words s).size ∷ l

abbrev pub put_point : Poi → Wire → Wire
put_point p w =
    put 0 21 (cond p.plain 1 0 ∷ []) (put 0 6 (0 ∷ p.tag_ids.count ∷ span_list p.signature (span_list p.name (span_list p.house_number ((metre_words p.elevation).present ∷ []))))
    (put_all 1 p.tag_ids.ids (put_signed 0 (p.layer ∷ (metre_words p.elevation).metres ∷ []) (put_degrees 0 (p.position.latitude ∷ p.position.longitude ∷ []) w))))

abbrev pub put_head : StreamedHead → Wire → Wire
put_head h w = put 0 21 (cond h.plain 1 0 ∷ []) (put 0 18 (h.bitmap ∷ []) (put 0 6 (1 ∷ h.tag_ids.count ∷ []) (put_all 1 h.tag_ids.ids (put_signed 0 (h.layer ∷ []) w))))

abbrev pub put_end : TileEnd → Wire → Wire
put_end z w = put 0 19 (z.sub_file ∷ cond z.is_water 1 0 ∷ cond z.plain 1 0 ∷ []) (put 0 6 (2 ∷ []) w)

abbrev pub next_with : Result Given Refusal → Stream → Wire → Wire
next_with (Ok (given.Point p)) s w = numbered 0 (put 2 0 (stream_words s) (put_point p w))
next_with (Ok (given.Way h)) s w = numbered 0 (put 2 0 (stream_words s) (put_head h w))
next_with (Ok (given.End z)) s w = numbered 0 (put 2 0 (stream_words s) (put_end z w))
next_with (Err r) s w = put_refusal r w

abbrev pub next_wire : (before : Wire) → Answered (Result Given Refusal) → Wire
next_wire w s = next_with s.answer s.stream w

-- accept: words from 6 on, the label's position, the state
abbrev pub put_body : StreamedBody → Wire → Wire
put_body b w =
    put 0 6 (b.blocks ∷ b.nodes ∷ span_list b.name (span_list b.house_number (span_list b.reference ((place_words b.label_position).present ∷ cond b.plain 1 0 ∷ []))))
    (put_degrees 0 ((place_words b.label_position).latitude ∷ (place_words b.label_position).longitude ∷ []) w)

abbrev pub accept_with : Result StreamedBody LentRefusal → Stream → Wire → Wire
accept_with (Ok b) s w = numbered 0 (put 1 0 (stream_words s) (put_body b w))
accept_with (Err r) s w = put_lent_refusal r w

abbrev pub accept_wire : (before : Wire) → Answered (Result StreamedBody LentRefusal) → Wire
accept_wire w s = accept_with s.answer s.stream w

-- decline: the state
abbrev pub decline_with : Result (Unit {0}) Refusal → Stream → Wire → Wire
decline_with (Ok u) s w = numbered 0 (put 1 0 (stream_words s) w)
decline_with (Err r) s w = put_refusal r w

abbrev pub decline_wire : (before : Wire) → Answered (Result (Unit {0}) Refusal) → Wire
decline_wire w s = decline_with s.answer s.stream w
