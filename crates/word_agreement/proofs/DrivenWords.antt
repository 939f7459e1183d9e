-- A stream by window and rules, by words (specs/WordDriven.antt): what was seen by words was seen of the inner functions. And the lists of request 1.
use Rattle.std.specs.Prelude.{Result, Ok, Err}
use Rattle.visit.specs.declared.Given.{Given}
use Rattle.error.specs.declared.Refusal.{Refusal}
use Rattle.wanted.specs.declared.WantedFigures.{WantedFigures}
use Prim.Native.Nat.{ℕ}
use lib.IntN.{ℤ}
use mathlib.Core.Path.{◌≡◌, refl, sym, ap, ◌∙◌, subst}
use mathlib.Core.Bool.{Bool, true, false, false≢true}
use mathlib.Core.List.{List, [], ◌∷◌}
use lib.Ieee.{Float}
use Rattle.parsing.specs.Parse.{Res, ok, no, and_then}
use Rattle.parsing.specs.Good.{no_ok}
use Rattle.format.specs.Index.{answered, Located, locate, tile_at}
use Rattle.format.specs.Lent.{LentLists}
use Rattle.format.specs.Rows.{rows_upto, located_head}
use Rattle.types.specs.Types.{grid_of}
use Rattle.types.specs.declared.Grid.{Grid}
use Rattle.poi.specs.declared.Poi.{Poi}
use Rattle.index.specs.Answers.{interval_found}
use Rattle.agreement.specs.Calls.{got_point, got_head, got_body, declined, ended, refused}
use Rattle.agreement.specs.Stream.{open_stream}
use Rattle.agreement.specs.TileFormat.{TileEnd, tile_end}
use Rattle.agreement.proofs.TileFormatLaws.{tile-laws, head-counts}
use Rattle.tile_layout.specs.TileLayout.{TileKinds, kinds_of, format_of}
use Rattle.zooming.proofs.TileZooming.{tile-advances, tile-grows, lower-zoom}
use Rattle.visit.specs.Visit.{TileState, state_of, ShownAnswer, next_answer, accept_answer, open_tile, open_res, NextStep, Accepted}
use Rattle.visit.specs.declared.Stream.{Stream}
use Rattle.selection.specs.Selects.{selected}
use Rattle.selection.specs.TileDriven.{SeenWay, Drove, DroveWell}
use Rattle.selection.specs.TileDriven as driven
use Rattle.selection.specs.declared.Selection.{Selection}
use Rattle.selection.proofs.DrivenZooming.{driven-adds}
use Rattle.selection.proofs.TileLaws.{drove-well}
use Rattle.wanted.proofs.SaysLaws.{wanted-says}
use Rattle.wanted.proofs.DrivenLaws.{wanted-driven}
use Rattle.wanted.proofs.RuleLaws.{rule-decides}
use Rattle.wanted.specs.WantedSays.{WantedSays}
use Rattle.wanted.specs.DrivenLists.{WantedDriven}
use Rattle.wire.specs.Wire.{Wire, Crosses, lending, list_of, received}
use Rattle.header_wire.specs.Header.{layout_in}
use Rattle.index_wire.specs.Index.{interval_in}
use Rattle.stream_wire.specs.Streams.{stream_in, selection_in, opened_wire, next_wire, accept_wire}
use Rattle.stream_wire.specs.Codecs.{NextLent, opened-back, opened_codec, opened_in, left_by, seen, next_in, next_decoder, accept_in, accept_seen, accept_decoder}
use Rattle.wanted_wire.specs.Figures.{wanted_wire}
use Rattle.wanted_wire.specs.Codecs.{wanted_in, wanted_codec}
use Rattle.exports.specs.Calls.{StreamOf, SelectedOf, AcceptOf, WantedOf}
use Rattle.word_agreement.specs.WordDriven.{WordDrove, call-end, call-point, call-way, WordDriven, WordDrivenAdds, WordWanted, WordWantedSays}
use Rattle.map_agreement.proofs.ZoomingLaws.{answered-read}
use Rattle.word_agreement.proofs.Kept.{accept-kept}
use Rattle.word_agreement.proofs.Words.{refusal-number, opened-stream}

-- an answer that is no refusal leaves the stream that the words then say
abbrev is_good : ShownAnswer → Bool
is_good (got_point p) = true
is_good (got_head h) = true
is_good (got_body b) = true
is_good declined = true
is_good (ended z) = true
is_good (refused n v) = false

left_is : (x : Result Given Refusal) (t b : Stream) → is_good (next_answer x) ≡ true → left_by x t b ≡ t
left_is (Ok v) t b g = refl
left_is (Err r) t b g = absurd (false≢true g)

module _ (m layout letters select classes : List ℕ) where
  abbrev k : TileKinds
  k = kinds_of (layout_in layout) letters

  abbrev sel : Selection
  sel = selection_in select

  abbrev From : Stream → List LentLists → List Poi → List SeenWay → TileEnd → Type 0
  From s ls ps ws z = Drove m k sel classes s ls ps ws z

  -- a selected next by its words
  module _ (words ids : List ℕ) (signed : List ℤ) (degrees : List Float) (after : Wire) (s : List ℕ)
      (h : NextLent (lending (words ∷ ids ∷ s ∷ []) signed degrees)) (x : Crosses (next_wire (lending (words ∷ ids ∷ s ∷ []) signed degrees)) (SelectedOf m letters classes (layout_in layout) sel (stream_in s)) after) (c : ShownAnswer) (e : next_answer (next_in after).answer ≡ c) where
    abbrev w : Wire
    w = lending (words ∷ ids ∷ s ∷ []) signed degrees

    decoded : next_in after ≡ seen w x.answer
    decoded = received (next_wire w) (seen w) (next_decoder w h) (SelectedOf m letters classes (layout_in layout) sel (stream_in s)) after x

    says : next_answer x.answer.answer ≡ c
    says = sym (ap (λ (y : NextStep). next_answer y.answer) decoded) ∙ e

    leaves : is_good c ≡ true → stream_in (list_of after 2) ≡ x.answer.stream
    leaves g = ap (λ (y : NextStep). y.stream) decoded ∙ left_is x.answer.answer x.answer.stream (stream_in s) (ap is_good says ∙ g)

  pub word-drove : {s : List ℕ} {ls : List LentLists} {ps : List Poi} {ws : List SeenWay} {z : TileEnd} → WordDrove m layout letters select classes s ls ps ws z → From (stream_in s) ls ps ws z
  word-drove (call-end words ids signed degrees after {s = s} {z = z} h x e) = driven.call-end x.answer x.is (says words ids signed degrees after s h x (ended z) e)
  word-drove (call-point words ids signed degrees after {s = s} {p = p} {ls = ls} {ps = ps} {ws = ws} {z = z} h x e d) =
      driven.call-point x.answer x.is (says words ids signed degrees after s h x (got_point p) e)
      (subst (λ (t : Stream). From t ls ps ws z) (leaves words ids signed degrees after s h x (got_point p) e refl) (word-drove d))
  word-drove (call-way words ids words' signed degrees degrees' after after' lists left {s = s} {h = g} {b = b} {ls = ls} {ws = ws} {z = z} h x e h' x' e' d) =
      let v = lending (words' ∷ list_of after 2 ∷ []) [] degrees' in
      let a = x'.answer in
      let t = leaves words ids signed degrees after s h x (got_head g) e refl in
      let q : accept_in after' ≡ accept_seen v a = received (accept_wire v) (accept_seen v) (accept_decoder v h') (AcceptOf m (stream_in (list_of after 2)) lists left) after' x' in
      let r : stream_in (list_of after' 1) ≡ a.stream = ap (λ (y : Accepted). y.stream) q ∙ accept-kept m (stream_in (list_of after 2)) lists left a x'.is in
      driven.call-way x.answer a lists.counts left.counts lists.latitudes lists.longitudes left.latitudes left.longitudes x.is (says words ids signed degrees after s h x (got_head g) e)
      (subst (λ (y : Stream). AcceptOf m y lists left a) t x'.is) (sym (ap (λ (y : Accepted). accept_answer y.answer) q) ∙ e')
      (subst (λ (y : Stream). From y ls [] ws z) r (word-drove d))

module _ (m : List ℕ) (sub_file : ℕ) (grid : Grid) (number zoom : ℕ) (layout letters interval select classes : List ℕ) (lists : List LentLists) (points : List Poi) (ways : List SeenWay) (z : TileEnd)
    (w : WordDriven m sub_file grid number zoom layout letters interval select classes lists points ways z) where
  abbrev debug : Bool
  debug = (layout_in layout).debug

  abbrev state : List ℕ
  state = list_of w.after 1

  -- the stream that was opened is the one that the state's words say
  opened-as : open_res (Ok (stream_in state)) ≡ open_tile (layout_in layout) (interval_found (interval_in interval)) sub_file (grid_of grid) number zoom m
  opened-as = go w.opens.answer w.opens.is w.opens.crossed
    where
      go : (o : Result Stream Refusal) → StreamOf m sub_file number zoom (layout_in layout) (interval_in interval) grid o → w.after ≡ opened_wire w.before o
          → open_res (Ok (stream_in state)) ≡ open_tile (layout_in layout) (interval_found (interval_in interval)) sub_file (grid_of grid) number zoom m
      go (Ok st) i q =
          let e : stream_in state ≡ st = ap (λ (v : Wire). stream_in (list_of v 1)) q ∙ opened-stream (opened-back w.before w.lent (Ok st)) in
          ap (λ (t : Stream). open_res (Ok t)) e ∙ i
      go (Err r) i q = refusal-number r (sym w.opened ∙ ap (λ (v : Wire). v.number) q)

  was : DroveWell m (kinds_of (layout_in layout) letters) (selection_in select) classes (state_of (stream_in state)) lists points ways z
  was = drove-well m (kinds_of (layout_in layout) letters) (selection_in select) classes (word-drove m layout letters select classes w.calls)

  abbrev opens : Located → ℕ → Res TileState
  opens a rows = open_stream (located_head debug a) rows (tile_end sub_file a.entry.water) m (tile_at a)

  from_place : (a : Located) (e : ℕ) → locate debug (interval_found (interval_in interval)) (grid_of grid) number m ≡ ok a e
      → open_res (Ok (stream_in state)) ≡ answered (opens a (rows_upto a.interval.min a.interval.max zoom))
      → WordDrivenAdds m sub_file grid number zoom layout letters interval select classes state lists points ways z
  from_place a e f q =
      let F = format_of (kinds_of (layout_in layout) letters) in
      let d = driven-adds (located_head debug a) (head-counts a.empty debug _) F (tile-laws _ _ _) (tile-advances _ _ _) m w.small (selected (selection_in select) classes) (tile_at a) (tile_end sub_file a.entry.water) (tile-grows _ _ _)
      (rows_upto a.interval.min a.interval.max zoom) (answered-read _ _ (sym q)).read was.driven in
      record {
        was = was;
        decided = rule-decides F m (selected (selection_in select) classes) (state_of (stream_in state)) was.driven;
        place = a;
        located = ap answered f;
        head = d.head;
        behind = d.behind;
        read = d.read;
        lower = λ zoom' le. d.fewer (rows_upto a.interval.min a.interval.max zoom') (lower-zoom a.interval.min a.interval.max zoom zoom' le);
      }

  pub word-driven : WordDrivenAdds m sub_file grid number zoom layout letters interval select classes state lists points ways z
  unfolding open_tile
  word-driven = go (locate debug (interval_found (interval_in interval)) (grid_of grid) number m) refl opened-as
    where
      go : (r : Res Located) → locate debug (interval_found (interval_in interval)) (grid_of grid) number m ≡ r
          → open_res (Ok (stream_in state)) ≡ and_then {B = TileState} r (λ a _. answered (opens a (rows_upto a.interval.min a.interval.max zoom)))
          → WordDrivenAdds m sub_file grid number zoom layout letters interval select classes state lists points ways z
      go (ok a e) f q = from_place a e f q
      go (no k v) f q = no_ok (sym q)

-- request 1 by words
pub word-wanted : (m : List ℕ) (sub_file : ℕ) (grid : Grid) (number zoom : ℕ) (layout letters interval decisions : List ℕ) (wanted opened : Wire)
    → WordWanted m sub_file grid number zoom layout letters interval decisions wanted opened → WordWantedSays m layout letters decisions wanted opened
word-wanted m sub_file grid number zoom layout letters interval decisions wanted opened w =
    let a = w.asks.answer in
    let o = w.opens.answer in
    let p : wanted_in wanted ≡ a = received (wanted_wire w.wanted_before) (λ (x : Result WantedFigures Refusal). x) (wanted_codec w.wanted_before w.wanted_lent) (WantedOf m letters decisions number zoom (layout_in layout) (interval_in interval) grid) wanted w.asks in
    let q : opened_in opened ≡ o = received (opened_wire w.opened_before) (λ (x : Result Stream Refusal). x) (opened_codec w.opened_before w.opened_lent) (StreamOf m sub_file number zoom (layout_in layout) (interval_in interval) grid) opened w.opens in
    let k = kinds_of (layout_in layout) letters in
    let s = wanted-says (layout_in layout) letters (interval_found (interval_in interval)) sub_file (grid_of grid) number zoom decisions m a o w.asks.is w.opens.is in
    let d = wanted-driven (layout_in layout) letters (interval_found (interval_in interval)) sub_file (grid_of grid) number zoom decisions m a o w.asks.is w.opens.is in
    record {
      says = subst (λ (x : Result WantedFigures Refusal). WantedSays k m decisions x (opened_in opened)) (sym p) (subst (λ (x : Result Stream Refusal). WantedSays k m decisions a x) (sym q) s);
      driven = subst (λ (x : Result WantedFigures Refusal). WantedDriven k m decisions x (opened_in opened)) (sym p) (subst (λ (x : Result Stream Refusal). WantedDriven k m decisions a x) (sym q) d);
    }
