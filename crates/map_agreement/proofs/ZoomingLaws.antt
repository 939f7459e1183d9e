-- Zooming in only adds, from the contracts (specs/ZoomingIn.antt): what was seen is a stream of the machine that ends well, and back.
use Rattle.std.specs.Prelude.{Ok}
use Prim.Native.Nat.{ℕ, zero, suc, ◌≤◌}
use native.Mathlib.Omega.{arith}
use mathlib.Core.Path.{◌≡◌, refl, sym, ap, ◌∙◌, subst}
use mathlib.Core.Bool.{Bool}
use mathlib.Core.List.{List, [], ◌∷◌, map}
use lib.ListN.{length, take, length-map}
use Rattle.parsing.specs.Parse.{Res, ok, no, and_then, Maybe}
use Rattle.parsing.specs.Good.{ok-val, no_ok}
use Rattle.format.specs.Header.{Interval}
use Rattle.format.specs.Index.{answer, answered, Grid, Located, locate, tile_at}
use Rattle.format.specs.Lent.{LentLists, Reply}
use Rattle.format.specs.Rows.{rows_upto, located_head}
use Rattle.format.specs.Tile.{TileHead, Point, Head, Body}
use Rattle.tagged.specs.declared.TagIds.{TagIds}
use Rattle.poi.specs.declared.Poi.{Poi}
use Rattle.tile_layout.specs.TileLayout.{TileKinds, kinds_of, format_of}
use Rattle.tile_layout.specs.declared.TileLayout.{TileLayout}
use Rattle.agreement.specs.Calls.{next, accept, decline, Answer, got_point, got_head, got_body, declined, ended, refused, Step, run, no_lists, lending}
use Rattle.agreement.specs.Format.{Format}
use Rattle.agreement.specs.Heads.{points_up_to, ways_up_to}
use Rattle.agreement.specs.Stream.{stream, open_stream}
use Rattle.agreement.specs.TileFormat.{TileEnd, tile_end}
use Rattle.agreement.proofs.TileFormatLaws.{tile-laws, head-counts}
use Rattle.zooming.specs.Zooming.{Delivered, by_head, whole, EndsWell, at-end, on-point, on-declined, on-accepted, OnlyAdds}
use Rattle.zooming.proofs.Zooming.{zooming-in}
use Rattle.zooming.specs.TileEnds.{PlainToo}
use Rattle.zooming.proofs.TileZooming.{tile-advances, tile-grows, lower-zoom}
use Rattle.visit.specs.Visit.{TileState, state_of, open_tile, open_res, shown_point, shown_head, shown_body, ShownAnswer, shown}
use Rattle.visit.specs.declared.StreamedHead.{StreamedHead}
use Rattle.visit.specs.declared.StreamedBody.{StreamedBody}
use Rattle.map_agreement.specs.ZoomingIn.{SeenWay, calls_of, calls_of_ways, replies_of, replies_of_ways, Decides, no_way, declines, accepts, Saw, WillSee, ZoomingIn}
use Rattle.map_agreement.proofs.Chain.{shown_replies, called-run}
use Rattle.map_agreement.proofs.Opened.{never-refused}

-- a stored way that was delivered, as it is shown
abbrev seen : Delivered Head Body → SeenWay
seen (by_head h) = by_head (shown_head h)
seen (whole h l b l') = whole (shown_head h) l (shown_body b) l'

never : {C : Type 0} → ◌≡◌ {A = ℕ} 0 1 → C
never z = absurd (omega arith)

-- an answer that is shown as one kind is of that kind
record Shown {A C : Type 0} (make : A → Answer Point Head Body TileEnd) (view : A → C) (a : Answer Point Head Body TileEnd) (c : C) : Type 0 where
  value : A
  is : a ≡ make value
  shows : view value ≡ c

point-of : (a : Answer Point Head Body TileEnd) (p : Poi) → got_point p ≡ shown a → Shown got_point shown_point a p
point-of (got_point q) p e = record { value = q; is = refl; shows = cc }
point-of (got_head q) p e = never cc
point-of (got_body q) p e = never cc
point-of declined p e = never cc
point-of (ended q) p e = never cc
point-of (refused n v) p e = never cc

head_of : (a : Answer Point Head Body TileEnd) (h : StreamedHead) → got_head h ≡ shown a → Shown got_head shown_head a h
head_of (got_point q) h e = never cc
head_of (got_head q) h e = record { value = q; is = refl; shows = cc }
head_of (got_body q) h e = never cc
head_of declined h e = never cc
head_of (ended q) h e = never cc
head_of (refused n v) h e = never cc

body_of : (a : Answer Point Head Body TileEnd) (b : StreamedBody) → got_body b ≡ shown a → Shown got_body shown_body a b
body_of (got_point q) b e = never cc
body_of (got_head q) b e = never cc
body_of (got_body q) b e = record { value = q; is = refl; shows = cc }
body_of declined b e = never cc
body_of (ended q) b e = never cc
body_of (refused n v) b e = never cc

declined-of : (a : Answer Point Head Body TileEnd) → declined ≡ shown a → a ≡ declined
declined-of (got_point q) e = never cc
declined-of (got_head q) e = never cc
declined-of (got_body q) e = never cc
declined-of declined e = refl
declined-of (ended q) e = never cc
declined-of (refused n v) e = never cc

ended_of : (a : Answer Point Head Body TileEnd) (y : TileEnd) → ended y ≡ shown a → a ≡ ended y
ended_of (got_point q) y e = never cc
ended_of (got_head q) y e = never cc
ended_of (got_body q) y e = never cc
ended_of declined y e = never cc
ended_of (ended q) y e = ap ended (let f : y ≡ q = cc in sym f)
ended_of (refused n v) y e = never cc

-- the first of the replies, and the rest
abbrev StoredStep : Type 0
StoredStep = Step (Answer Point Head Body TileEnd) (TileState)

record First (a : ShownAnswer) (k : LentLists) (rs : List (Reply ShownAnswer)) (x : StoredStep) (qs : List (Reply ShownAnswer)) : Type 0 where
  answer : a ≡ shown x.reply.answer
  lists : x.reply.lists ≡ k
  rest : rs ≡ qs

first_of : (a : ShownAnswer) (k : LentLists) {rs : List (Reply ShownAnswer)} (x : StoredStep) {qs : List (Reply ShownAnswer)}
    → record { answer = a; lists = k } ∷ rs ≡ record { answer = shown x.reply.answer; lists = x.reply.lists } ∷ qs → First a k rs x qs
first_of a k x e =
    let f : ◌≡◌ {A = Reply ShownAnswer} (record { answer = a; lists = k }) (record { answer = shown x.reply.answer; lists = x.reply.lists }) = cc in
    record { answer = ap (λ (r : Reply ShownAnswer). r.answer) f; lists = sym (ap (λ (r : Reply ShownAnswer). r.lists) f); rest = cc }

-- a step, by its answer and its lists
step_is : (x : StoredStep) {a : Answer Point Head Body TileEnd} {k : LentLists} → x.reply.answer ≡ a → x.reply.lists ≡ k → x ≡ lending a k x.left
step_is x {a} {k} e f = ap (λ b. lending b x.reply.lists x.left) e ∙ ap (λ b. lending a b x.left) f

take-map : {A B : Type 0} (f : A → B) (n : ℕ) (l : List A) → take n (map f l) ≡ map f (take n l)
take-map f zero l = refl
take-map f (suc n) [] = refl
take-map f (suc n) (a ∷ l) = ap (λ r. f a ∷ r) (take-map f n l)

decides-first : (rule : (bitmap : ℕ) → TagIds → Bool) (n : ℕ) {ls : List LentLists} {ws : List SeenWay} → Decides rule ls ws → Decides rule ls (take n ws)
decides-first rule zero d = no_way
decides-first rule (suc n) no_way = no_way
decides-first rule (suc n) (declines c d) = declines c (decides-first rule n d)
decides-first rule (suc n) (accepts c d) = accepts c (decides-first rule n d)

module _ (m : List ℕ) (l : TileKinds) (rule : (bitmap : ℕ) → TagIds → Bool) where
  abbrev F : Format
  F = format_of l

  -- the rule on a stored head
  abbrev stored : ℕ → Head → Bool
  stored _ h = rule (shown_head h).bitmap (shown_head h).tag_ids

  -- the machine's stream that a program saw
  record Streamed (k : ℕ) (s : TileState) (ps : List Poi) (ws : List SeenWay) (z : TileEnd) : Type 0 where
    lent : List LentLists
    points : List Point
    ways : List (Delivered Head Body)
    ends : EndsWell F m stored k s lent points ways z
    points-shown : map shown_point points ≡ ps
    ways-shown : map seen ways ≡ ws

  no-points : (ps : List Point) → map shown_point ps ≡ [] → ps ≡ []
  no-points [] e = refl
  no-points (p ∷ ps) e = never cc

  only-ways : {k : ℕ} {s : TileState} {ws : List SeenWay} {z : TileEnd} → (r : Streamed k s [] ws z) → EndsWell F m stored k s r.lent [] r.ways z
  only-ways {k} {s} {ws} {z} r = subst (λ ps. EndsWell F m stored k s r.lent ps r.ways z) (no-points r.points r.points-shown) r.ends

  streamed-ways : (k : ℕ) (s : TileState) (z : TileEnd) {ls : List LentLists} {ws : List SeenWay} → Decides rule ls ws
      → replies_of_ways ws z ≡ shown_replies (run (stream F m) s (calls_of_ways ws)) → Streamed k s [] ws z
  streamed-ways k s z no_way e =
      let x = stream F m s next in
      let f = first_of (ended z) no_lists x e in
      record { lent = []; points = []; ways = []; ends = at-end (step_is x (ended_of x.reply.answer z f.answer) f.lists); points-shown = refl; ways-shown = refl }
  streamed-ways k s z (declines {h = h} {ws = ws} c d) e =
      let x = stream F m s next in
      let y = stream F m x.left decline in
      let f = first_of (got_head h) no_lists x e in
      let g = first_of declined no_lists y f.rest in
      let a = head_of x.reply.answer h f.answer in
      let r = streamed-ways (suc k) y.left z d g.rest in
      record {
        lent = r.lent;
        points = [];
        ways = by_head a.value ∷ r.ways;
        ends =
            on-declined (step_is x a.is f.lists) (ap (λ (b : StreamedHead). rule b.bitmap b.tag_ids) a.shows ∙ c)
            (step_is y (declined-of y.reply.answer g.answer) g.lists) (only-ways r);
        points-shown = refl;
        ways-shown = ap (λ b. by_head b ∷ map seen r.ways) a.shows ∙ ap (λ b. by_head h ∷ b) r.ways-shown;
      }
  streamed-ways k s z (accepts {h = h} {l = k₀} {l' = k₁} {b = b} {ws = ws} c d) e =
      let x = stream F m s next in
      let y = stream F m x.left (accept k₀) in
      let f = first_of (got_head h) no_lists x e in
      let g = first_of (got_body b) k₁ y f.rest in
      let a = head_of x.reply.answer h f.answer in
      let v = body_of y.reply.answer b g.answer in
      let r = streamed-ways (suc k) y.left z d g.rest in
      record {
        lent = k₀ ∷ r.lent;
        points = [];
        ways = whole a.value k₀ v.value k₁ ∷ r.ways;
        ends =
            on-accepted (step_is x a.is f.lists) (ap (λ (b : StreamedHead). rule b.bitmap b.tag_ids) a.shows ∙ c)
            (step_is y v.is g.lists) (only-ways r);
        points-shown = refl;
        ways-shown =
            ap (λ u. whole u k₀ (shown_body v.value) k₁ ∷ map seen r.ways) a.shows ∙ ap (λ u. whole h k₀ u k₁ ∷ map seen r.ways) v.shows
            ∙ ap (λ u. whole h k₀ b k₁ ∷ u) r.ways-shown;
      }

  streamed-points : (s : TileState) (z : TileEnd) (ps : List Poi) {ls : List LentLists} {ws : List SeenWay} → Decides rule ls ws
      → replies_of ps ws z ≡ shown_replies (run (stream F m) s (calls_of ps ws)) → Streamed 0 s ps ws z
  streamed-points s z [] d e = streamed-ways 0 s z d e
  streamed-points s z (p ∷ ps) d e =
      let x = stream F m s next in
      let f = first_of (got_point p) no_lists x e in
      let a = point-of x.reply.answer p f.answer in
      let r = streamed-points x.left z ps d f.rest in
      record {
        lent = r.lent;
        points = a.value ∷ r.points;
        ways = r.ways;
        ends = on-point (step_is x a.is f.lists) r.ends;
        points-shown = ap (λ b. b ∷ map shown_point r.points) a.shows ∙ ap (λ b. p ∷ b) r.points-shown;
        ways-shown = r.ways-shown;
      }

  -- and back: what is shown of a stream that ends well
  shown-all : {k : ℕ} {s : TileState} {ls : List LentLists} {ps : List Point} {ws : List (Delivered Head Body)} {z : TileEnd} → EndsWell F m stored k s ls ps ws z
      → shown_replies (run (stream F m) s (calls_of (map shown_point ps) (map seen ws))) ≡ replies_of (map shown_point ps) (map seen ws) z
  shown-all (at-end h) = rw h
  shown-all (on-point h r) = rw (h, shown-all r)
  shown-all (on-declined h c d r) = rw (h, d, shown-all r)
  shown-all (on-accepted h c d r) = rw (h, d, shown-all r)

-- a read that is answered was read
pub record Read {A : Type 0} (r : Res A) (a : A) : Type 0 where
  pub past : ℕ
  pub read : r ≡ ok a past

pub answered-read : {A : Type 0} (r : Res A) (a : A) → answered r ≡ answer a → Read r a
answered-read (ok b x) a q = record { past = x; read = ap (λ y. ok y x) (ok-val q) }
answered-read (no k v) a q = no_ok q

module _ (m : List ℕ) (l : TileLayout) (letters : List ℕ) (i : Maybe Interval) (sub_file : ℕ) (grid : Grid) (number zoom : ℕ) (rule : (bitmap : ℕ) → TagIds → Bool)
    (lists : List LentLists) (points : List Poi) (ways : List SeenWay) (z : TileEnd) (saw : Saw m l letters i sub_file grid number zoom rule lists points ways z) where
  module _ (place : Located) (at : ℕ) (found : locate l.debug i grid number m ≡ ok place at) where
    abbrev upto : ℕ → ℕ
    upto zoom = rows_upto place.interval.min place.interval.max zoom

    abbrev end : TileHead → TileEnd
    end = tile_end sub_file place.entry.water

    opened-at : (zoom : ℕ) → open_tile l i sub_file grid number zoom m ≡ answered (open_stream (located_head l.debug place) (upto zoom) end m (tile_at place))
    unfolding open_tile
    opened-at zoom = rw found

    -- what was seen, as the machine streams it
    was : Streamed m (kinds_of l letters) rule 0 (state_of saw.stream) points ways z
    was =
        streamed-points m (kinds_of l letters) rule (state_of saw.stream) z points saw.decides
        (called-run m (kinds_of l letters) saw.stream (calls_of points ways) (replies_of points ways z) saw.calls)

    adds : OnlyAdds (located_head l.debug place) (format_of (kinds_of l letters)) PlainToo m (stored m (kinds_of l letters) rule) (tile_at place) end (upto zoom) was.lent was.points was.ways z
    adds =
        zooming-in (located_head l.debug place) (head-counts place.empty l.debug _) (format_of (kinds_of l letters)) (tile-laws _ _ _) (tile-advances _ _ _) m saw.small (stored m (kinds_of l letters) rule) (tile_at place) end (tile-grows _ _ _) (upto zoom)
        (answered-read _ _ (sym (opened-at zoom) ∙ sym saw.opens)).read was.ends

    module _ (zoom' : ℕ) (le : zoom' ≤ zoom) where
      abbrev point_count : ℕ
      point_count = points_up_to adds.head.table (upto zoom')

      abbrev way_count : ℕ
      way_count = ways_up_to adds.head.table (upto zoom')

      first-points : map shown_point (take point_count was.points) ≡ take point_count points
      first-points = sym (take-map shown_point point_count was.points) ∙ ap (take point_count) was.points-shown

      first-ways : map seen (take way_count was.ways) ≡ take way_count ways
      first-ways = sym (take-map seen way_count was.ways) ∙ ap (take way_count) was.ways-shown

      will-see : WillSee m l letters i sub_file grid number zoom' point_count way_count rule lists points ways z
      will-see =
          let f = adds.fewer (upto zoom') (lower-zoom place.interval.min place.interval.max zoom zoom' le) in
          let o : open_tile l i sub_file grid number zoom' m ≡ answer f.start = opened-at zoom' ∙ ap answered f.opens in
          record {
            opens = λ r e. never-refused r (e ∙ o);
            decides = decides-first rule way_count saw.decides;
            said = f.said;
            plain-too = f.grows;
            replies = λ s e rs c.
                called-run m (kinds_of l letters) s (calls_of (take point_count points) (take way_count ways)) rs c
                ∙ ap (λ x. shown_replies (run (stream (format_of (kinds_of l letters)) m) x (calls_of (take point_count points) (take way_count ways)))) (ok-val (e ∙ o))
                ∙ subst (λ ws. shown_replies (run (stream (format_of (kinds_of l letters)) m) f.start (calls_of (take point_count points) ws)) ≡ replies_of (take point_count points) ws f.said) first-ways
                (subst (λ ps. shown_replies (run (stream (format_of (kinds_of l letters)) m) f.start (calls_of ps (map seen (take way_count was.ways)))) ≡ replies_of ps (map seen (take way_count was.ways)) f.said) first-points
                (shown-all m (kinds_of l letters) rule f.ends));
            point-count = ap length (sym first-points) ∙ length-map (take point_count was.points) shown_point ∙ f.point-count;
            way-count = ap length (sym first-ways) ∙ length-map (take way_count was.ways) seen ∙ f.way-count;
          }

    from_place : ZoomingIn m l letters i sub_file grid number zoom rule lists points ways z
    from_place = record {
      place = place;
      located = ap answered found;
      head = adds.head;
      behind = adds.behind;
      read = adds.read;
      lower = will-see;
    }

  -- Zooming in only adds, from the contracts
  pub zooming-says : ZoomingIn m l letters i sub_file grid number zoom rule lists points ways z
  unfolding open_tile
  zooming-says = go (locate l.debug i grid number m) refl saw.opens
    where
      go : (r : Res Located) → locate l.debug i grid number m ≡ r
          → open_res (Ok saw.stream) ≡ and_then {B = TileState} r (λ a _. answered (open_stream (located_head l.debug a) (rows_upto a.interval.min a.interval.max zoom) (tile_end sub_file a.entry.water) m (tile_at a)))
          → ZoomingIn m l letters i sub_file grid number zoom rule lists points ways z
      go (ok a e) f q = from_place a e f
      go (no k v) f q = no_ok (sym q)
