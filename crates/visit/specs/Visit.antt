-- The stream as the code holds it, and its answers (document 01, visit.rs and "The stream and the collected tile"). The machine is
-- `stream` of crate agreement; what it answers is stored features, and here is what is shown of them.
use Rattle.std.specs.Prelude.{ℕ, Bool, ◌&&◌, ◌≡◌, List, Float, length, Result, Ok, Err}
use Rattle.parsing.specs.Parse.{Res, and_then, Maybe}
use Rattle.error.specs.declared.Refusal.{Refusal}
use Rattle.error.specs.declared.LentRefusal.{LentRefusal}
use Rattle.error.specs.Refusals.{number_of, values_of, lent_number, lent_values}
use Rattle.format.specs.Header.{Interval}
use Rattle.format.specs.Index.{answered, Grid, locate, tile_at}
use Rattle.format.specs.Rows.{rows_upto, located_head, interval_head}
use Rattle.format.specs.Streamed.{streamed_maybe, streamed_point}
use Rattle.format.specs.Tile.{Point, Head, Body}
use Rattle.format.specs.WayData.{concat, node_count}
use Rattle.index.specs.Answers.{answer_by}
use Rattle.types.specs.Types.{optional_span, optional_position}
use Rattle.tagged.specs.TagIds.{tag_ids}
use Rattle.fields.specs.Fields.{streamed_span}
use Rattle.poi.specs.Poi.{poi_of}
use Rattle.poi.specs.declared.Poi.{Poi}
use Rattle.tile_place.specs.declared.FoundTile.{FoundTile}
use Rattle.way.specs.declared.WayBody.{WayBody}
use Rattle.way_data.specs.Reply.{lent}
use Rattle.way_head.specs.declared.WayHead.{WayHead}
use Rattle.agreement.specs.Calls.{Answer, got_point, got_head, got_body, declined, ended, refused, Step, plain, lending, map_answer}
use Rattle.agreement.specs.Stream.{State, idle, waits, open_stream}
use Rattle.agreement.specs.TileFormat as tile
use Rattle.tile_layout.specs.declared.TileLayout.{TileLayout}
use Rattle.visit.specs.declared.TileEnd.{TileEnd}
use Rattle.visit.specs.declared.Turn.{Turn}
use Rattle.visit.specs.declared.Turn.TheVariants as turn
use Rattle.visit.specs.declared.Stream.{Stream}
use Rattle.visit.specs.declared.StreamedHead.{StreamedHead}
use Rattle.visit.specs.declared.StreamedBody.{StreamedBody}
use Rattle.visit.specs.declared.Given.{Given}
use Rattle.visit.specs.declared.Given.TheVariants as given
use Rattle.visit.specs.declared.Answered.{Answered}

-- the state
abbrev pub end_of : TileEnd → tile.TileEnd
end_of z = record { sub_file = z.sub_file; water = z.is_water; plain = z.plain }

-- of a tile's stream
abbrev pub TileState : Type 0
TileState = State tile.TileEnd Bool

abbrev pub turn_state : Turn → tile.TileEnd → TileState
turn_state (turn.Idle r) z = idle r.points r.ways r.at r.way z
turn_state (turn.Waits w) z = waits w.ways w.past w.body w.head_plain z

abbrev pub state_of : Stream → TileState
state_of s = turn_state s.turn (end_of s.end)

-- opening: sub file (8), grid (14), tile (8), its entry and the next one (19), interval (13), then the tile's head
unfoldable pub open_tile : TileLayout → Maybe Interval → (sub_file : ℕ) → Grid → (number zoom : ℕ) → List ℕ → Res (TileState)
open_tile l i s g t zoom m =
    and_then (locate l.debug i g t m) (λ a _.
    answered (open_stream (located_head l.debug a) (rows_upto a.interval.min a.interval.max zoom)
    (tile.tile_end s a.entry.water) m (tile_at a)))

abbrev pub open_res : Result Stream Refusal → Res (TileState)
open_res g = answer_by state_of g

-- what is shown of a feature: no signature, no delta form, and each text that is not valid UTF-8 is empty
abbrev pub shown_point : Point → Poi
shown_point p = poi_of (streamed_point p)

abbrev pub shown_head : Head → StreamedHead
shown_head h = record { bitmap = h.bitmap; layer = h.tagged.layer; tag_ids = tag_ids h.tagged.ids; plain = h.plain }

abbrev pub shown_body : Body → StreamedBody
shown_body b = record {
  name = optional_span (streamed_maybe b.fields.name);
  house_number = optional_span (streamed_maybe b.fields.house_number);
  reference = optional_span (streamed_maybe b.fields.reference);
  label_position = optional_position b.fields.label;
  blocks = length (concat b.data_blocks);
  nodes = node_count (concat b.data_blocks);
  plain = b.plain;
}

abbrev pub ShownAnswer : Type 0
ShownAnswer = Answer Poi StreamedHead StreamedBody tile.TileEnd

abbrev pub shown : Answer Point Head Body tile.TileEnd → ShownAnswer
shown a = map_answer shown_point shown_head shown_body (λ z. z) a

abbrev pub shown_step : {S : Type 0} → Step (Answer Point Head Body tile.TileEnd) S → Step ShownAnswer S
shown_step s = record { reply = record { answer = shown s.reply.answer; lists = s.reply.lists }; left = s.left }

-- next
abbrev pub next_answer : Result Given Refusal → ShownAnswer
next_answer (Ok (given.Point p)) = got_point p
next_answer (Ok (given.Way h)) = got_head h
next_answer (Ok (given.End z)) = ended (end_of z)
next_answer (Err r) = refused (number_of r) (values_of r)

abbrev pub NextStep : Type 0
NextStep = Answered (Result Given Refusal)

abbrev pub next_step : NextStep → Step ShownAnswer (TileState)
next_step r = plain (next_answer r.answer) (state_of r.stream)

abbrev pub NextIs : (step : Step ShownAnswer (TileState)) → NextStep → Type 0
NextIs step r = next_step r ≡ step

-- accept, with the lists after the call
abbrev pub accept_answer : Result StreamedBody LentRefusal → ShownAnswer
accept_answer (Ok b) = got_body b
accept_answer (Err r) = refused (lent_number r) (lent_values r)

abbrev pub Accepted : Type 0
Accepted = Answered (Result StreamedBody LentRefusal)

abbrev pub accept_step : Accepted → List ℕ → List Float → List Float → Step ShownAnswer (TileState)
accept_step r counts lats lons = lending (accept_answer r.answer) (lent counts lats lons) (state_of r.stream)

-- decline
abbrev pub decline_answer : Result (Unit {0}) Refusal → ShownAnswer
decline_answer (Ok u) = declined
decline_answer (Err r) = refused (number_of r) (values_of r)

abbrev pub Declined : Type 0
Declined = Answered (Result (Unit {0}) Refusal)

abbrev pub decline_step : Declined → Step ShownAnswer (TileState)
decline_step r = plain (decline_answer r.answer) (state_of r.stream)

-- What private functions make, which need not be believed: a value with the stream behind it, where a refusal leaves the stream as it was
abbrev pub answered_of : {T E : Type 0} → Result (T × Stream) E → Stream → Answered (Result T E)
answered_of (Ok (v, t)) s = record { answer = Ok v; stream = t }
answered_of (Err e) s = record { answer = Err e; stream = s }

abbrev pub next_of : Result (Given × Stream) Refusal → TileState → Step ShownAnswer (TileState)
next_of (Ok (n, t)) s = plain (next_answer (Ok n)) (state_of t)
next_of (Err r) s = plain (next_answer (Err r)) s

abbrev pub accept_of : Result (StreamedBody × Stream) LentRefusal → TileState → List ℕ → List Float → List Float → Step ShownAnswer (TileState)
accept_of (Ok (b, t)) s counts lats lons = lending (accept_answer (Ok b)) (lent counts lats lons) (state_of t)
accept_of (Err r) s counts lats lons = lending (accept_answer (Err r)) (lent counts lats lons) s

-- what is streamed of a body that is handed out with raw texts, and of whose head
-- this was said
abbrev pub streamed_body : List ℕ → Bool → WayBody → StreamedBody
streamed_body m head b = record {
  name = streamed_span m b.name;
  house_number = streamed_span m b.house_number;
  reference = streamed_span m b.reference;
  label_position = b.label_position;
  blocks = b.blocks;
  nodes = b.nodes;
  plain = head && b.plain;
}

abbrev pub streamed_head : WayHead → StreamedHead
streamed_head h = record { bitmap = h.bitmap; layer = h.layer; tag_ids = h.tag_ids; plain = h.plain }

-- opening, from a tile's place on
abbrev pub opened_at : Bool → (sub_file zoom : ℕ) → FoundTile → List ℕ → Res (TileState)
opened_at debug s zoom p m =
    answered (open_stream (interval_head p.empty debug p.min_zoom p.max_zoom) (rows_upto p.min_zoom p.max_zoom zoom)
    (tile.tile_end s p.is_water) m p.at)
