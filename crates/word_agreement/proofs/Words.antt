-- Demand 3 by words (specs/WordBook.antt): each exported call is a call of the inner function on what the words say, and its state's
-- words say the stream that the inner call left; so a chain of exported calls is a chain of inner calls.
use Rattle.std.specs.Prelude.{Option, Some, None}
use Rattle.std.specs.Prelude.{Result, Ok, Err, IfOk}
use Rattle.types.specs.declared.ZoomInterval.{ZoomInterval}
use Prim.Native.Nat.{ℕ, ◌+◌, ◌%◌, ◌^◌, ◌≤◌, ◌<◌}
use mathlib.Core.Path.{◌≡◌, refl, sym, ap, ◌∙◌, subst}
use mathlib.Core.Bool.{Bool, true, false}
use mathlib.Core.List.{List, [], ◌∷◌}
use native.Mathlib.Omega.{arith}
use lib.ListN.{length, get_or}
use Rattle.parsing.specs.Parse.{Res, ok, no, map_res, Part, Maybe, none, some, nth}
use Rattle.parsing.specs.Good.{ok-val, ok_at, no_ok}
use Rattle.error.specs.Refusals.{number_of, lent_number, lent_refused}
use Rattle.error.specs.declared.LentRefusal.{LentRefusal}
use Rattle.error.specs.declared.LentRefusal.TheVariants as lent-refusal
use Rattle.error.specs.declared.Refusal.{Refusal}
use Rattle.format.specs.Header.{Interval, Header, bit, opened}
use Rattle.format.specs.Index.{answer}
use Rattle.format.specs.IntervalTable.{start_before, row_at}
use Rattle.format.specs.Lent.{front, LentLists, Replied, Reply}
use Rattle.format.specs.TagLists.{TagLists, listing}
use Rattle.format.proofs.TagLaws.{opened-header}
use Rattle.format.proofs.IntervalLaws.{opened-row}
use Rattle.types.specs.Types.{intervals_of, grid_of}
use Rattle.types.specs.declared.Grid.{Grid}
use Rattle.types.specs.declared.MapHeader.{MapHeader}
use Rattle.types.specs.declared.HeaderFields.{HeaderFields}
use Rattle.types.specs.declared.IntervalTable.{IntervalTable}
use Rattle.header.specs.HeaderView.{header_fields, map_header}
use Rattle.byte_source.specs.Answers.{lent_res}
use Rattle.opening.specs.Opening.{OpenIs}
use Rattle.opening.proofs.OpenedLaws.{OpenedWith, opened_with}
use Rattle.header.proofs.HeaderLaws.{intervals-back}
use Rattle.index.specs.Answers.{interval_found, answer_by}
use Rattle.tile_layout.specs.TileLayout.{layout_of, kinds_of}
use Rattle.tile_layout.specs.declared.TileLayout.{TileLayout}
use Rattle.agreement.specs.Calls.{Call}
use Rattle.visit.specs.Visit.{ShownAnswer, next_answer, accept_answer, decline_answer, NextStep, Accepted, Declined}
use Rattle.visit.specs.declared.Stream.{Stream}
use Rattle.tile.specs.Tile.{shown_tile, feature_places, collect_tile, tile_places, listed, TileIs, CollectIs, summary_of, TileLists}
use Rattle.tile.proofs.CollectLaws.{GivenAs, given-as}
use Rattle.tile.specs.declared.Tile.{Tile}
use Rattle.tile.specs.declared.TileSummary.{TileSummary}
use Rattle.zoom_intervals.specs.Rows.{table_before}
use Rattle.wire.specs.Wire.{Wire, Crosses, lending, list_of, received, there}
use Rattle.wire.specs.Codecs.{lent_refusal_in, settled, truth-back}
use Rattle.wire.specs.Spread.{spread_wire, spread-out}
use Rattle.header_wire.specs.Header.{header_wire, layout_words, layout_in, intervals_in}
use Rattle.header_wire.specs.Codecs.{HeaderLent, header_in, header_codec}
use Rattle.index_wire.specs.Index.{interval_wire, interval_in, entry_wire}
use Rattle.index_wire.specs.Codecs.{entry_codec}
use Rattle.stream_wire.specs.Streams.{stream_in, opened_wire, next_wire, accept_wire, decline_wire}
use Rattle.stream_wire.specs.Codecs.{OpenedLent, opened-back, seen, next_in, next_decoder, accept_in, accept_seen, accept_decoder, decline_in, decline_seen}
use Rattle.stream_wire.proofs.DeclineLaws.{decline_decoder}
use Rattle.feature_wire.specs.Features.{tile_wire}
use Rattle.feature_wire.specs.Codecs.{summary_in, tile_in, tile_codec}
use Rattle.exports.specs.Calls.{OpenOf, StreamOf, NextOf, AcceptOf, DeclineOf, EntryOf, TileOf}
use Rattle.map_agreement.specs.Called.{Called}
use Rattle.map_agreement.specs.Called as called
use Rattle.map_agreement.specs.MapsforgeMap.{mapsforge}
use Rattle.map_agreement.specs.BookSays.{MapRead, Answers, BookSays, Opens, opens, Sees, FetchesAlone}
use Rattle.map_agreement.proofs.Theorem.{book-says, fetches-alone}
use Rattle.word_agreement.specs.WordCalls.{WordCalled, no_call, call_next, call-accept, call-decline, WordStreams}
use Rattle.word_agreement.specs.WordBook.{FieldsRead, IntervalLent, TileLent, ShowsTile, WordAnswers, WordCollected, WordSees, WordBook}
use Rattle.word_agreement.proofs.ZoomBytes.{Zooms, zooms-at, header-zooms, header-few}
use Rattle.word_agreement.proofs.Kept.{next-kept, accept-kept, decline-kept}

-- a reply under another name, and a stream under its words
pub renamed : {m : List ℕ} {l : _} {s s' : Stream} {cs : List Call} {rs : List (Reply ShownAnswer)} → s ≡ s' → Called m l s cs rs → Called m l s' cs rs
renamed {m = m} {l = l} {cs = cs} {rs = rs} e c = subst (λ (s : Stream). Called m l s cs rs) e c

answered-as : {m : List ℕ} {l : _} {s : Stream} {cs : List Call} {a b : ShownAnswer} {v : LentLists} {rs : List (Reply ShownAnswer)} → a ≡ b → Called m l s cs (record { answer = a; lists = v } ∷ rs) → Called m l s cs (record { answer = b; lists = v } ∷ rs)
answered-as {m = m} {l = l} {s = s} {cs = cs} {v = v} {rs = rs} e c = subst (λ (a : ShownAnswer). Called m l s cs (record { answer = a; lists = v } ∷ rs)) e c

pub word-called : (m layout letters s : List ℕ) (cs : List Call) (rs : List (Reply ShownAnswer)) → WordCalled m layout letters s cs rs → Called m (kinds_of (layout_in layout) letters) (stream_in s) cs rs
word-called m layout letters s cs rs no_call = called.no_call
word-called m layout letters s cs rs (call_next words ids signed degrees after {cs = ds} {rs = qs} h x c) =
    let a = x.answer in
    let w = lending (words ∷ ids ∷ s ∷ []) signed degrees in
    let q : next_in after ≡ seen w a = received (next_wire w) (seen w) (next_decoder w h) (NextOf m letters (layout_in layout) (stream_in s)) after x in
    let e : stream_in (list_of after 2) ≡ a.stream = ap (λ (y : NextStep). y.stream) q ∙ next-kept m letters (layout_in layout) (stream_in s) a x.is in
    answered-as (sym (ap (λ (y : NextStep). next_answer y.answer) q))
    (called.call_next a x.is (renamed e (word-called m layout letters (list_of after 2) ds qs c)))
word-called m layout letters s cs rs (call-accept words degrees after before left {cs = ds} {rs = qs} h x c) =
    let a = x.answer in
    let w = lending (words ∷ s ∷ []) [] degrees in
    let q : accept_in after ≡ accept_seen w a = received (accept_wire w) (accept_seen w) (accept_decoder w h) (AcceptOf m (stream_in s) before left) after x in
    let e : stream_in (list_of after 1) ≡ a.stream = ap (λ (y : Accepted). y.stream) q ∙ accept-kept m (stream_in s) before left a x.is in
    answered-as (sym (ap (λ (y : Accepted). accept_answer y.answer) q))
    (called.call-accept a before.counts left.counts before.latitudes before.longitudes left.latitudes left.longitudes x.is (renamed e (word-called m layout letters (list_of after 1) ds qs c)))
word-called m layout letters s cs rs (call-decline words after {cs = ds} {rs = qs} h x c) =
    let a = x.answer in
    let w = lending (words ∷ s ∷ []) [] [] in
    let q : decline_in after ≡ decline_seen w a = received (decline_wire w) (decline_seen w) (decline_decoder w h) (DeclineOf (stream_in s)) after x in
    let e : stream_in (list_of after 1) ≡ a.stream = ap (λ (y : Declined). y.stream) q ∙ decline-kept (stream_in s) a x.is in
    answered-as (sym (ap (λ (y : Declined). decline_answer y.answer) q))
    (called.call-decline a x.is (renamed e (word-called m layout letters (list_of after 1) ds qs c)))

-- a refusal's number is not 0
pub refusal-number : {C : Type 0} (r : Refusal) → 0 ≡ number_of r → C
refusal-number r q = absurd (told (ap (λ n. there n false true) q ∙ settled (λ _. true) false 0 [] r))
  where
    IsFalse : Bool → Type 0
    IsFalse true = ⊥
    IsFalse false = Unit {0}

    told : false ≡ true → ⊥
    told e = subst IsFalse e tt

-- an interval as words say it, by what is answered
abbrev read_of : Maybe Interval → Option ZoomInterval
read_of none = None
read_of (some z) = Some (record {
  base_zoom_level = z.base % 256;
  min_zoom_level = z.min % 256;
  max_zoom_level = z.max % 256;
  sub_file_start = z.start;
  sub_file_size = z.size;
})

read_taken : (i : Maybe Interval) → ((z : Interval) → i ≡ some z → Zooms z) → interval_found (read_of i) ≡ i
read_taken none k = refl
read_taken (some z) k =
    let t = k z refl in
    let a : z.base % 256 ≡ z.base = omega (arith, t.base) in
    let b : z.min % 256 ≡ z.min = omega (arith, t.min) in
    let c : z.max % 256 ≡ z.max = omega (arith, t.max) in
    rw (a, b, c) refl

-- an answer about a row that is there, or of which there is none
module _ (w : Wire) (h : IntervalLent w) (i : Maybe Interval) where
  row_number : (a : Result (Option ZoomInterval) Refusal) → answer_by interval_found a ≡ answer i → (interval_wire w a).number ≡ 0
  row_number (Ok None) q = refl
  row_number (Ok (Some z)) q = refl
  row_number (Err r) q = no_ok q

  row_read : (a : Result (Option ZoomInterval) Refusal) → answer_by interval_found a ≡ answer i → interval_in (list_of (interval_wire w a) 1) ≡ read_of i
  row_read a q = spread-out (6 ∷ 6 ∷ []) 0 0 w h (λ v. interval_in (list_of (interval_wire v a) 1) ≡ read_of i) (go a q)
    where
      go : (a : Result (Option ZoomInterval) Refusal) → answer_by interval_found a ≡ answer i → interval_in (list_of (interval_wire (spread_wire (6 ∷ 6 ∷ []) 0 0 w) a) 1) ≡ read_of i
      go (Ok None) q = ap read_of (ok-val q)
      go (Ok (Some z)) q = ap read_of (ok-val q)
      go (Err r) q = no_ok q

-- the header that is read with its intervals, by the one that crosses
abbrev pub fields_of : MapHeader → HeaderFields
fields_of h = record {
  magic = h.magic;
  header_size = h.header_size;
  file_version = h.file_version;
  file_size = h.file_size;
  creation_date = h.creation_date;
  bounding_box = h.bounding_box;
  tile_size = h.tile_size;
  projection = h.projection;
  flags = h.flags;
  map_start_position = h.map_start_position;
  start_zoom_level = h.start_zoom_level;
  language_preference = h.language_preference;
  comment = h.comment;
  created_by = h.created_by;
  poi_tags = h.poi_tags;
  way_tags = h.way_tags;
  num_zoom_intervals = h.num_zoom_intervals;
}

abbrev pub fields_read : MapRead → FieldsRead
fields_read (Ok (h, e)) = Ok (fields_of h, e)
fields_read (Err r) = Err r

pub record Whole (x : List ℕ) (lists : TagLists) (f : FieldsRead) (tags : TagLists) : Type 0 where
  pub read : MapRead
  pub is : OpenIs (opened x) lists read tags
  pub same : f ≡ fields_read read

-- a refusal is the same, whatever there would have been
abbrev unread : {A B : Type 0} → Res A → Res B
unread (ok a e) = no 0 []
unread (no n v) = no n v

retyped : {A B : Type 0} {n k : ℕ} {v w : List ℕ} → ◌≡◌ {A = Res A} (no n v) (no k w) → ◌≡◌ {A = Res B} (no n v) (no k w)
retyped e = ap unread e

both-as : {A L : Type 0} {a b : Res A} {s t : L} → a ≡ b → s ≡ t → ◌≡◌ {A = Replied L (Res A)} (record { answer = a; lists = s }) (record { answer = b; lists = t })
both-as p q = rw (p, q) refl

whole : (x : List ℕ) (lists : TagLists) (f : FieldsRead) (tags : TagLists) → OpenOf x lists tags f → Whole x lists f tags
whole x lists f tags k = go (listing (opened x) lists).answer refl f (ap (λ (y : Replied TagLists (Res HeaderFields)). y.answer) k)
  where
    left : tags ≡ (listing (opened x) lists).lists
    left = ap (λ (y : Replied TagLists (Res HeaderFields)). y.lists) k

    go : (r : Res Header) → (listing (opened x) lists).answer ≡ r → (f : FieldsRead) → lent_res f ≡ map_res header_fields r → Whole x lists f tags
    go (ok h e) o (Ok (g, n)) k = record {
      read = Ok (map_header h, e);
      is = both-as (ap (map_res map_header) (sym o)) left;
      same = value_as (ok-val k) (ok_at k);
    }
      where
        value_as : {a b : HeaderFields} {m n : ℕ} → a ≡ b → m ≡ n → ◌≡◌ {A = FieldsRead} (Ok (a, m)) (Ok (b, n))
        value_as p q = rw (p, q) refl
    go (ok h e) o (Err r) k = no_ok k
    go (no n v) o (Ok (g, m)) k = no_ok (sym k)
    go (no n v) o (Err r) k = record {
      read = Err r;
      is = both-as (retyped k ∙ ap (map_res map_header) (sym o)) left;
      same = refl;
    }

-- what a map that opened has, by its stored header
opened-as : (x : List ℕ) (lists : TagLists) (g : MapRead) (tags : TagLists) (v : MapHeader) (e : ℕ) → OpenIs (opened x) lists g tags → g ≡ Ok (v, e) → OpenedWith map_header (opened x) lists v e tags
opened-as x lists g tags v e k q = opened_with map_header (opened x) lists v e tags (subst (λ y. OpenIs (opened x) lists y tags) q k)

-- a header that crossed without a refusal
lent-number : {C : Type 0} (r : LentRefusal) → 0 ≡ lent_number r → C
lent-number (lent-refusal.Refused r) q = refusal-number r q
lent-number (lent-refusal.Short l) q = absurd (omega (arith, q))

-- the header of a map that opened
pub record ReadAs (r : MapRead) : Type 0 where
  pub header : MapHeader
  pub end : ℕ
  pub is : r ≡ Ok (header, end)

ends_at : (w : Wire) (r : MapRead) → (header_wire w (fields_read r)).number ≡ 0 → ReadAs r
ends_at w (Ok (h, e)) q = record { header = h; end = e; is = refl }
ends_at w (Err r) q = lent-number r (sym q)

number_at : (w : Wire) (r : MapRead) (h : MapHeader) (e : ℕ) → r ≡ Ok (h, e) → (header_wire w (fields_read r)).number ≡ 0
number_at w r h e q = rw q refl

layout-words : (w : Wire) → HeaderLent w → (r : MapRead) (h : MapHeader) (e : ℕ) → r ≡ Ok (h, e) → list_of (header_wire w (fields_read r)) 1 ≡ layout_words (fields_of h) e
layout-words w k r h e q = rw q (spread-out (34 ∷ 7 ∷ []) 0 6 w k (λ v. list_of (header_wire v (Ok (fields_of h, e))) 1 ≡ layout_words (fields_of h) e) refl)

layout-taken : (h : MapHeader) (e : ℕ) → layout_in (layout_words (fields_of h) e) ≡ layout_of h
layout-taken h e = ap (λ (b : Bool). record { debug = b; poi_tags = (layout_of h).poi_tags; way_tags = (layout_of h).way_tags }) (truth-back (bit 7 h.flags))

table_taken : (h : MapHeader) (e : ℕ) → h.num_zoom_intervals < 256 → intervals_in (layout_words (fields_of h) e) ≡ table_before e h.num_zoom_intervals
table_taken h e few = ap (λ n. record { start = start_before e h.num_zoom_intervals; count = n }) (few-kept h.num_zoom_intervals few)
  where
    few-kept : (n : ℕ) → n < 256 → n % 256 ≡ n
    few-kept n l = omega arith

-- the rows of a map that opened are the header's intervals
rows_are : (x : List ℕ) (lists : TagLists) (g : MapRead) (tags : TagLists) (v : MapHeader) (e s : ℕ) → OpenIs (opened x) lists g tags → g ≡ Ok (v, e)
    → row_at (start_before e v.num_zoom_intervals) v.num_zoom_intervals s x ≡ answer (nth (intervals_of v) s)
rows_are x lists g tags v e s k q = let o = opened-as x lists g tags v e k q in go v o.header o.shown o.read
  where
    go : (v : MapHeader) (h : Header) → v ≡ map_header h → opened x ≡ ok h e → row_at (start_before e v.num_zoom_intervals) v.num_zoom_intervals s x ≡ answer (nth (intervals_of v) s)
    go v h c o = rw c (opened-row x h e o s ∙ ap (λ l. answer (nth l s)) (sym (intervals-back h)))

-- what the words of a map's header and of a sub file's interval say
module _ (x : List ℕ) (s : ℕ) (lists : TagLists) (header : Wire) (tags : TagLists) (interval : Wire) (c : WordAnswers x s lists header tags interval) where
  pub whole_of : Whole x lists c.opens.answer tags
  whole_of = whole x lists c.opens.answer tags c.opens.is

  crossed-as : header ≡ header_wire c.header_before (fields_read whole_of.read)
  crossed-as = c.opens.crossed ∙ ap (header_wire c.header_before) whole_of.same

  ended : header.number ≡ 0 → ReadAs whole_of.read
  ended q = ends_at c.header_before whole_of.read (sym (ap (λ (v : Wire). v.number) crossed-as) ∙ q)

  module _ (h : MapHeader) (e : ℕ) (q : whole_of.read ≡ Ok (h, e)) where
    header-number : header.number ≡ 0
    header-number = ap (λ (v : Wire). v.number) crossed-as ∙ number_at c.header_before whole_of.read h e q

    layout-of : list_of header 1 ≡ layout_words (fields_of h) e
    layout-of = ap (λ (v : Wire). list_of v 1) crossed-as ∙ layout-words c.header_before c.header_lent whole_of.read h e q

    module _ (few : h.num_zoom_intervals < 256) where
      found-is : answer_by interval_found c.finds.answer ≡ answer (nth (intervals_of h) s)
      found-is =
          c.finds.is
          ∙ ap (λ (t : IntervalTable). row_at t.start t.count s x) (ap intervals_in layout-of ∙ table_taken h e few)
          ∙ rows_are x lists whole_of.read tags h e s whole_of.is q

      interval-number : interval.number ≡ 0
      interval-number = ap (λ (v : Wire). v.number) c.finds.crossed ∙ row_number c.interval_before c.interval_lent _ c.finds.answer found-is

      interval-read-as : interval_in (list_of interval 1) ≡ read_of (nth (intervals_of h) s)
      interval-read-as = ap (λ (v : Wire). interval_in (list_of v 1)) c.finds.crossed ∙ row_read c.interval_before c.interval_lent _ c.finds.answer found-is

abbrev stream-in : Result Stream Refusal → Stream → Stream
stream-in (Ok s) t = s
stream-in (Err r) t = t

pub opened-stream : {s t : Stream} → ◌≡◌ {A = Result Stream Refusal} (Ok s) (Ok t) → s ≡ t
opened-stream {s} e = ap (λ o. stream-in o s) e

-- a stream that opens, by words
module _ (x : List ℕ) (s : ℕ) (grid : Grid) (number zoom : ℕ) (layout letters interval : List ℕ) (cs : List Call) (replied : List (Reply ShownAnswer))
    (streams : (o : Result Stream Refusal) → StreamOf x s number zoom (layout_in layout) (interval_in interval) grid o → Opens o)
    (replies : (st : Stream) → StreamOf x s number zoom (layout_in layout) (interval_in interval) grid (Ok st)
    → (rs : List (Reply ShownAnswer)) → Called x (kinds_of (layout_in layout) letters) st cs rs → rs ≡ replied) where
  opens_at : (before : Wire) (o : Result Stream Refusal) → Opens o → (opened_wire before o).number ≡ 0
  opens_at before o (opens st) = refl

  runs_on : (before : Wire) → OpenedLent before → (o : Result Stream Refusal) → Opens o → StreamOf x s number zoom (layout_in layout) (interval_in interval) grid o
      → (rs : List (Reply ShownAnswer)) → WordCalled x layout letters (list_of (opened_wire before o) 1) cs rs → rs ≡ replied
  runs_on before h o (opens st) r rs c =
      replies st r rs (renamed (opened-stream (opened-back before h (Ok st))) (word-called x layout letters (list_of (opened_wire before (Ok st)) 1) cs rs c))

  pub word-streams : WordStreams x s grid number zoom layout letters interval cs replied
  word-streams = record {
    opens = λ before after h c. ap (λ (v : Wire). v.number) c.crossed ∙ opens_at before c.answer (streams c.answer c.is);
    replies = λ before after h c rs k. runs_on before h c.answer (streams c.answer c.is) c.is rs (subst (λ (v : Wire). WordCalled x layout letters (list_of v 1) cs rs) c.crossed k);
  }

-- what a program sees of a map, by words
module _ (s : ℕ) (grid : Grid) (number : ℕ) (layout interval : List ℕ) (lists : TagLists) (h : MapRead) (tags : TagLists) (v : MapHeader) (e : ℕ) (ends : h ≡ Ok (v, e)) (few : v.num_zoom_intervals < 256)
    (a : layout ≡ layout_words (fields_of v) e) (b : interval_in interval ≡ read_of (nth (intervals_of v) s)) where
  module _ (x : List ℕ) (zoom : ℕ) (cs : List Call) (replied : List (Reply ShownAnswer)) (spelled : List (List (Maybe Part)))
      (S : Sees x s (grid_of grid) number zoom lists h tags (layout_in layout) (interval_found (interval_in interval)) cs replied spelled) where
    same-header : (g : MapRead) (t : TagLists) → OpenIs (opened x) lists g t → (g ≡ h) × (t ≡ tags)
    same-header (Ok (w, n)) t k =
        let a = S.answers (Ok (w, n)) t (layout_of w) (nth (intervals_of w) s) (record { header = k; layout = refl; interval = refl }) in
        (a.0, a.1)
    same-header (Err r) t k =
        let a = S.answers (Err r) t (layout_of v) (nth (intervals_of v) s) (record { header = k; layout = tt; interval = tt }) in
        (a.0, a.1)

    module _ (header : Wire) (t : TagLists) (found : Wire) (c : WordAnswers x s lists header t found) where
      abbrev g : MapRead
      g = (whole_of x s lists header t found c).read

      same : g ≡ h
      same = (same-header g t (whole_of x s lists header t found c).is).0

      g-ends : g ≡ Ok (v, e)
      g-ends = same ∙ ends

      reads : (header_in header ≡ fields_read h) × (t ≡ tags)
      reads = (read-header, (same-header g t (whole_of x s lists header t found c).is).1)
        where
          read-header : header_in header ≡ fields_read h
          read-header =
              received (header_wire c.header_before) (λ y. y) (header_codec c.header_before c.header_lent) (OpenOf x lists t) header c.opens
              ∙ (whole_of x s lists header t found c).same
              ∙ ap fields_read same

      agrees : (header.number ≡ 0) × (found.number ≡ 0) × (list_of header 1 ≡ layout) × (interval_in (list_of found 1) ≡ interval_in interval)
      agrees = (
        header-number x s lists header t found c v e g-ends,
        interval-number x s lists header t found c v e g-ends few,
        layout-of x s lists header t found c v e g-ends ∙ sym a,
        interval-read-as x s lists header t found c v e g-ends few ∙ sym b,
      )

    pub word-sees : WordSees x s grid number zoom lists (fields_read h) tags layout interval cs replied spelled
    word-sees = record {
      opened = reads;
      answers = agrees;
      streams = word-streams x s grid number zoom layout tags.letters interval cs replied S.streams S.replies;
      texts = S.texts;
    }

-- the zooms of each interval of a map of bytes are bytes, and so is their number
zooms-of : (m : List ℕ) (lists : TagLists) (g : MapRead) (tags : TagLists) (v : MapHeader) (e s : ℕ) → ((j : ℕ) → get_or m j 0 < 256) → OpenIs (opened m) lists g tags → g ≡ Ok (v, e) → (z : Interval) → nth (intervals_of v) s ≡ some z → Zooms z
zooms-of m lists g tags v e s bytes k q z p =
    let o = opened-as m lists g tags v e k q in
    zooms-at (header-zooms m bytes 0 o.header e (opened-header m o.header e o.read)) s z (ap (λ l. nth l s) (sym (ap intervals_of o.shown ∙ intervals-back o.header)) ∙ p)

few-of : (m : List ℕ) (lists : TagLists) (g : MapRead) (tags : TagLists) (v : MapHeader) (e : ℕ) → ((j : ℕ) → get_or m j 0 < 256) → OpenIs (opened m) lists g tags → g ≡ Ok (v, e) → v.num_zoom_intervals < 256
few-of m lists g tags v e bytes k q =
    let o = opened-as m lists g tags v e k q in
    subst (λ (x : MapHeader). x.num_zoom_intervals < 256) (sym o.shown) (header-few m bytes 0 o.header e (opened-header m o.header e o.read))

-- what is answered of a map that opened
answers-of : (m : List ℕ) (s : ℕ) (lists : TagLists) (h : MapRead) (tags : TagLists) (l : TileLayout) (i : Maybe Interval) (v : MapHeader) (e : ℕ) → h ≡ Ok (v, e) → OpenIs (opened m) lists h tags
    → l ≡ layout_of v → i ≡ nth (intervals_of v) s → Answers m s lists h tags l i
answers-of m s lists h tags l i v e q k a b = record { header = k; layout = subst (λ x. IfOk x (λ y. l ≡ layout_of y.0)) (sym q) a; interval = subst (λ x. IfOk x (λ y. i ≡ nth (intervals_of y.0) s)) (sym q) b }

-- a tile that collects, by its words
tile-value : (w : Wire) (r : Result TileSummary LentRefusal) → (tile_wire w r).number ≡ 0 → (t : TileSummary) × (r ≡ Ok t)
tile-value w (Ok t) q = (t, refl)
tile-value w (Err r) q = lent-number r (sym q)

abbrev value_of : Result TileSummary LentRefusal → TileSummary → TileSummary
value_of (Ok t) d = t
value_of (Err r) d = d

read_as : (after : Wire) (t : TileSummary) → after.number ≡ 0 → tile_in after ≡ Ok t → summary_in after ≡ t
read_as after t n q =
    let p : there 0 (Ok (summary_in after)) (Err (lent_refusal_in 0 (list_of after 0))) ≡ Ok t = subst (λ (k : ℕ). there k (Ok (summary_in after)) (Err (lent_refusal_in k (list_of after 0))) ≡ Ok t) n q in
    ap (λ r. value_of r t) p

-- a refusal of `collect`, as `read_tile` refuses
given-refused : (stored : Res Tile) (places : List ℕ) (lent : TileLists) (r : LentRefusal) (left : TileLists) → CollectIs stored places lent (Err r) left → TileIs stored places lent.places (Err r) left.places
given-refused stored places lent r left i = go (listed stored places lent.places).answer refl i.answer
  where
    go : (a : Res Tile) → (listed stored places lent.places).answer ≡ a → lent_refused r ≡ map_res summary_of a → TileIs stored places lent.places (Err r) left.places
    go (ok t e) o k = no_ok k
    go (no n v) o k = both-as (retyped k ∙ sym o) i.list

-- the tile that was collected, by its words
module _ (m letters : List ℕ) (number : ℕ) (layout : TileLayout) (i : Option ZoomInterval) (grid : Grid) (room left : TileLists) (before after : Wire) (h : TileLent before)
    (x : Crosses (tile_wire before) (TileOf m letters number room left layout i grid) after) where
  abbrev stored : Res Tile
  stored = collect_tile (kinds_of layout letters) (interval_found i) (grid_of grid) number m

  abbrev starts : List ℕ
  starts = tile_places (kinds_of layout letters) (interval_found i) (grid_of grid) number m

  tile-read : tile_in after ≡ x.answer
  tile-read = received (tile_wire before) (λ y. y) (tile_codec before h) (TileOf m letters number room left layout i grid) after x

  module _ (t : TileSummary) (v : x.answer ≡ Ok t) where
    pub given : GivenAs stored starts room t left
    given = given-as stored starts room t left (subst (λ y. CollectIs stored starts room y left) v x.is)

    pub shows-tile : (y : Tile) (places : List ℕ) → given.tile ≡ y → left.places ≡ front places room.places → ShowsTile y places room left after
    shows-tile y places e l = subst (λ (z : Tile). ShowsTile z places room left after) e (record {
      words = tile-read ∙ v ∙ ap Ok given.said;
      points = given.points;
      ways = given.ways;
      list = l;
    })

-- Demand 3, from the contracts of the exported functions
pub word-book : (m : List ℕ) (sub_file : ℕ) (grid : Grid) (number : ℕ) (lists : TagLists) (header : Wire) (tags : TagLists) (interval : Wire) → WordCollected m sub_file grid number lists header tags interval
    → WordBook m sub_file grid number lists tags (list_of header 1) (list_of interval 1)
word-book m s grid number lists header tags interval c =
    let n = c.answers in
    let k = whole_of m s lists header tags interval n in
    let h = k.read in
    let layout = list_of header 1 in
    let i = interval_in (list_of interval 1) in
    let r = ended m s lists header tags interval n c.opened in
    let few = few-of m lists h tags r.header r.end c.bytes k.is r.is in
    let a = layout-of m s lists header tags interval n r.header r.end r.is in
    let b = interval-read-as m s lists header tags interval n r.header r.end r.is few in
    let v = tile-value c.before c.tile.answer (sym (ap (λ (w : Wire). w.number) c.tile.crossed) ∙ c.collects) in
    let letters = tags.letters in
    let g = given m letters number (layout_in layout) i grid c.room c.left c.before c.after c.lent c.tile v.0 v.1 in
    let read = tile-read m letters number (layout_in layout) i grid c.room c.left c.before c.after c.lent c.tile in
    let says = book-says m s (grid_of grid) number lists h tags (layout_in layout) i (Ok g.tile) (record {
      small = c.small;
      answers = answers-of m s lists h tags (layout_in layout) (interval_found i) r.header r.end r.is k.is (ap layout_in a ∙ layout-taken r.header r.end)
          (ap interval_found b ∙ read_taken (nth (intervals_of r.header) s) (zooms-of m lists h tags r.header r.end s c.bytes k.is r.is));
      header = r.header;
      header_end = r.end;
      opens = r.is;
      room = c.room.places;
      places = c.left.places;
      tile = g.is;
      whole = g.tile;
      collects = refl;
      exact = ap (λ (z : TileSummary). z.exact) (sym (read_as c.after v.0 c.collects (read ∙ v.1) ∙ g.said)) ∙ c.exact;
    }) in
    let crosses = word-sees s grid number layout (list_of interval 1) lists h tags r.header r.end r.is few a b in
    record {
      header = h;
      fields = fields_read h;
      says = says;
      shows = λ room left before after l f x. shown-as m s grid number layout (list_of interval 1) lists h tags says room left before after l f x;
      entry = λ before after l x.
          received (entry_wire before) (λ y. y) (entry_codec before l) (EntryOf m number (layout_in layout) i grid) after x
          ∙ says.entry x.answer x.is;
      fetches = λ room k m' d lent left before after x. record { answer = x.answer; is = says.fetches room k m' d lent left x.answer x.is; crossed = x.crossed };
      sees = λ zoom cs. crosses m zoom cs _ _ (says.sees zoom cs);
      altered = λ zoom cs m' d. crosses m' zoom cs _ _ (says.altered zoom cs m' d);
      literal = λ zoom cs m' w d. crosses m' zoom cs _ _ (says.literal zoom cs m' w d);
    }
  where
    -- whatever was lent, if the list is long enough, the tile that was collected is the one that the book is fed
    shown-as : (m : List ℕ) (s : ℕ) (grid : Grid) (number : ℕ) (layout interval : List ℕ) (lists : TagLists) (h : MapRead) (tags : TagLists) (says : BookSays m s (grid_of grid) number lists h tags (layout_in layout) (interval_found (interval_in interval)))
        → (room left : TileLists) (before after : Wire) → TileLent before → length says.tile.points + length says.tile.ways ≤ length room.places
        → (x : Crosses (tile_wire before) (TileOf m tags.letters number room left (layout_in layout) (interval_in interval) grid) after)
        → ShowsTile (shown_tile says.tile) (feature_places ((mapsforge s (grid_of grid) number).format says.stored) m says.tile) room left after
    shown-as m s grid number layout interval lists h tags says room left before after l f x = go x.answer refl x.is
      where
        value_or : Tile → Result Tile LentRefusal → Tile
        value_or d (Ok t) = t
        value_or d (Err r) = d

        was : Result Tile LentRefusal → ℕ
        was (Ok t) = 0
        was (Err r) = 1

        go : (r : Result TileSummary LentRefusal) → x.answer ≡ r → CollectIs (collect_tile (kinds_of (layout_in layout) tags.letters) (interval_found (interval_in interval)) (grid_of grid) number m) (tile_places (kinds_of (layout_in layout) tags.letters) (interval_found (interval_in interval)) (grid_of grid) number m) room r left
            → ShowsTile (shown_tile says.tile) (feature_places ((mapsforge s (grid_of grid) number).format says.stored) m says.tile) room left after
        go (Ok y) v c =
            let g = given m tags.letters number (layout_in layout) (interval_in interval) grid room left before after l x y v in
            let k = says.shows (Ok g.tile) room.places left.places f g.is in
            shows-tile m tags.letters number (layout_in layout) (interval_in interval) grid room left before after l x y v (shown_tile says.tile) _ (ap (value_or g.tile) k.0) k.1
        go (Err r) v c =
            let k = says.shows (Err r) room.places left.places f (given-refused (collect_tile (kinds_of (layout_in layout) tags.letters) (interval_found (interval_in interval)) (grid_of grid) number m) (tile_places (kinds_of (layout_in layout) tags.letters) (interval_found (interval_in interval)) (grid_of grid) number m) room r left c) in
            absurd (let z : ◌≡◌ {A = ℕ} 1 0 = ap was k.0 in omega arith)

-- Request 8, from the contracts of the exported functions, of every tile that collects: a fetch through the list that `mapsforge_collect` left, with
-- the counts in its words, reads the header and the one feature alone
pub word-alone : (m : List ℕ) → length m < 2 ^ 64 → ((j : ℕ) → get_or m j 0 < 256) → (sub_file : ℕ) (grid : Grid) (number : ℕ) (lists : TagLists) (header : Wire) (tags : TagLists) (interval : Wire)
    → WordAnswers m sub_file lists header tags interval → header.number ≡ 0 → (room left : TileLists) (before after : Wire) → TileLent before
    → Crosses (tile_wire before) (TileOf m tags.letters number room left (layout_in (list_of header 1)) (interval_in (list_of interval 1)) grid) after → after.number ≡ 0
    → FetchesAlone m sub_file (grid_of grid) number tags (layout_in (list_of header 1)) (summary_in after).points (summary_in after).ways left.places
word-alone m small bytes s grid number lists header tags interval n opened room left before after l x collects =
    let k = whole_of m s lists header tags interval n in
    let h = k.read in
    let layout = list_of header 1 in
    let i = interval_in (list_of interval 1) in
    let r = ended m s lists header tags interval n opened in
    let few = few-of m lists h tags r.header r.end bytes k.is r.is in
    let a = layout-of m s lists header tags interval n r.header r.end r.is in
    let b = interval-read-as m s lists header tags interval n r.header r.end r.is few in
    let v = tile-value before x.answer (sym (ap (λ (w : Wire). w.number) x.crossed) ∙ collects) in
    let g = given m tags.letters number (layout_in layout) i grid room left before after l x v.0 v.1 in
    let read = tile-read m tags.letters number (layout_in layout) i grid room left before after l x in
    let f = fetches-alone m small s (grid_of grid) number lists h tags (layout_in layout) i r.header r.end g.tile room.places left.places
    (answers-of m s lists h tags (layout_in layout) (interval_found i) r.header r.end r.is k.is (ap layout_in a ∙ layout-taken r.header r.end)
    (ap interval_found b ∙ read_taken (nth (intervals_of r.header) s) (zooms-of m lists h tags r.header r.end s bytes k.is r.is)))
    r.is g.is in
    subst (λ (z : TileSummary). FetchesAlone m s (grid_of grid) number tags (layout_in layout) z.points z.ways left.places)
    (sym (read_as after v.0 collects (read ∙ v.1) ∙ g.said)) f
