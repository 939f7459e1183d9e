-- The contracts of the functions that are called, put into the theorem `book-says`.
use Rattle.std.specs.Prelude.{Result, Ok, Err, Some, None}
use Rattle.std.specs.Result.{IsErr, IsErrAnd}
use Rattle.byte_source.proofs.ReadLaws.{met}
use Prim.Native.Nat.{ℕ, ◌^◌, ◌<◌}
use mathlib.Core.Path.{◌≡◌, refl, sym, ap, ◌∙◌, subst}
use mathlib.Core.Bool.{Bool, true, false}
use mathlib.Core.List.{List, []}
use lib.Ieee.{Float}
use lib.ListN.{length}
use Rattle.parsing.specs.Parse.{Res, ok, no, and_then, map_res, Maybe, nth}
use Rattle.parsing.specs.Good.{no_ok}
use Rattle.parsing.proofs.Views.{view-stop}
use Rattle.error.specs.Refusals as error
use Rattle.error.specs.declared.Refusal.{Refusal}
use Rattle.error.specs.declared.LentRefusal.{LentRefusal}
use Rattle.format.specs.Header.{Interval, Header, opened}
use Rattle.format.specs.Index.{answer, Grid}
use Rattle.format.specs.BodyLists.{body_lists}
use Rattle.format.specs.Lent.{LentLists, Replied}
use Rattle.format.specs.TagLists.{TagLists, tag_lists, lists_fit, lists_written, listing}
use Rattle.format.specs.Tile.{body}
use Rattle.types.specs.Types.{intervals_of}
use Rattle.types.specs.declared.MapHeader.{MapHeader}
use Rattle.header.specs.HeaderView.{map_header}
use Rattle.opening.specs.Opening.{OpenIs}
use Rattle.opening.proofs.OpenedLaws.{OpenedWith, opened_with}
use Rattle.index.specs.Answers.{interval_found, lent_answer}
use Rattle.way_data.specs.Reply.{lent}
use Rattle.tile_layout.specs.TileLayout.{layout_of, TileKinds, kinds_of, format_of}
use Rattle.tile_layout.specs.declared.TileLayout.{TileLayout}
use Rattle.agreement.specs.Stream.{on_next, on_accept, on_decline}
use Rattle.agreement.specs.TileFormat.{whole_body, note_body}
use Rattle.visit.specs.Visit.{state_of, open_tile, open_res, shown_step, NextIs, accept_step, decline_step, NextStep, Accepted, Declined}
use Rattle.visit.specs.declared.Stream.{Stream}
use Rattle.tile.specs.Tile.{collect_tile, tile_places, TileIs}
use Rattle.tile.specs.Tile.{listed as tile_listed}
use Rattle.tile.specs.declared.Tile.{Tile}
use Rattle.map_agreement.specs.Called.{no_call, call_next, call-accept, call-decline}
use Rattle.map_agreement.specs.BookSays.{MapRead, BookSays, Opens, opens}
use Rattle.map_agreement.proofs.Theorem.{book-says}
use Rattle.agreement_guard.specs.Guard.{Opened, OpenedIs, Outcome, three_calls, Called3, collected_in, exact_in, places_left, OutcomeIs}
use Rattle.agreement_guard.specs.declared.OpenedMap.{OpenedMap}
use Rattle.agreement_guard.specs.declared.Replies.{Replies}

-- three contracts, one after the other
pub called-three : (m : List ℕ) (l : TileKinds) (s : Stream) (a : NextStep) (b : Accepted) (d : Declined) (c₀ c : List ℕ) (la₀ lo₀ la lo : List Float)
    → NextIs (shown_step (on_next (format_of l) m (state_of s))) a
    → accept_step b c la lo ≡ shown_step (on_accept body body_lists whole_body note_body m (state_of a.stream) (lent c₀ la₀ lo₀))
    → decline_step d ≡ shown_step (on_decline (state_of b.stream))
    → Called3 m l s (lent c₀ la₀ lo₀) (lent c la lo) (record { next = a.answer; accepted = b.answer; declined = d.answer })
called-three m l s a b d c₀ c la₀ lo₀ la lo p q r = call_next a p (call-accept b c₀ c la₀ lo₀ la lo q (call-decline d r no_call))

-- opening, by what `open_map` answered
pub opened-refused : (m : List ℕ) (s : ℕ) (tags tagged : TagLists) (read : MapRead) (g : Result OpenedMap LentRefusal) (x : LentRefusal) → OpenIs (opened m) tags read tagged → read ≡ Err x → IsErr g × IsErrAnd g (λ y. y ≡ x) → OpenedIs m s tags tagged g
opened-refused m s tags tagged read g x o e h =
    let q : g ≡ Err x = met h in
    subst (OpenedIs m s tags tagged) (sym q) (record { read = read; opens = o; gives = e })

pub opened-well : (m : List ℕ) (s : ℕ) (tags tagged : TagLists) (read : MapRead) (v : MapHeader) (e : ℕ) (o : OpenedMap) → OpenIs (opened m) tags read tagged → read ≡ Ok (v, e) → o.layout ≡ layout_of v → interval_found o.found ≡ nth (intervals_of v) s → OpenedIs m s tags tagged (Ok o)
opened-well m s tags tagged read v e o i q l f = record { read = read; opens = i; gives = record { header = v; end = e; opens = q; layout = l; found = f } }

abbrev exact_of : Res Tile → Res Bool
exact_of r = map_res (λ (t : Tile). t.exact) r

-- a stream that opens is not refused
not-refused : {C : Type 0} (x : Refusal) → Opens (Err x) → C
not-refused x o = go (Err x) o refl
  where
    go : {C : Type 0} (r : Result Stream Refusal) → Opens r → r ≡ Err x → C
    go r (opens st) q = no_ok (sym (ap open_res q))

-- what is collected, where the map opened and the lists of tags had room
opened_in : (m : List ℕ) (tags : TagLists) (h : Header) (e : ℕ) → opened m ≡ ok h e → lists_fit (tag_lists h) tags ≡ true → (listing (opened m) tags).answer ≡ ok h e
opened_in m tags h e q f = rw (q, f) refl

module _ (m : List ℕ) (s : ℕ) (grid : Grid) (number zoom : ℕ) (tags tagged : TagLists) (room places : List ℕ) (before after : LentLists) where
  -- the map does not open
  pub not_opened : (x : LentRefusal) (g : Outcome) → OpenedIs m s tags tagged (Err x) → IsErr g × IsErrAnd g (λ y. y ≡ x) → after ≡ before → OutcomeIs m s grid number zoom tags tagged room room before after g
  not_opened x g k h e =
      let o = subst (λ y. OpenIs (opened m) tags y tagged) k.gives k.opens in
      let n = sym (ap (λ (r : Replied TagLists (Res MapHeader)). r.answer) o) in
      let q : g ≡ Err x = met h in
      subst (OutcomeIs m s grid number zoom tags tagged room room before after) (sym q) (record {
        collecting = view-stop map_header (listing (opened m) tags).answer _ n;
        listing = ap (λ (r : Replied TagLists (Res MapHeader)). r.lists) o;
        placing = unplaced (listing (opened m) tags).answer n;
        replying = e;
      })
    where
      unplaced : (r : Res Header) → map_res map_header r ≡ error.lent_refused x → room ≡ places_left m tags s grid number room r
      unplaced (ok h e) d = no_ok (sym d)
      unplaced (no n v) d = refl

  module _ (o : OpenedMap) (k : OpenedIs m s tags tagged (Ok o)) where
    abbrev a : Opened s k.read o
    a = k.gives

    opening : OpenIs (opened m) tags (Ok (a.header, a.end)) tagged
    opening = subst (λ y. OpenIs (opened m) tags y tagged) a.opens k.opens

    tagged-so : tagged ≡ (listing (opened m) tags).lists
    tagged-so = ap (λ (r : Replied TagLists (Res MapHeader)). r.lists) opening

    -- the stored header, and the lists as written
    with-lists : OpenedWith map_header (opened m) tags a.header a.end tagged
    with-lists = opened_with map_header (opened m) tags a.header a.end tagged opening

    abbrev collected_by : TileLayout → List ℕ → Maybe Interval → Replied (List ℕ) (Res Tile)
    collected_by l letters i = tile_listed (collect_tile (kinds_of l letters) i grid number m) (tile_places (kinds_of l letters) i grid number m) room

    same-collected : collected_by o.layout tagged.letters (interval_found o.found) ≡ collected_in m tags s grid number room with-lists.header
    same-collected =
        let w = with-lists in
        ap (λ (t : TagLists). collected_by o.layout t.letters (interval_found o.found)) w.lists
        ∙ ap (λ x. collected_by x (lists_written (tag_lists w.header) tags).letters (interval_found o.found)) (a.layout ∙ ap layout_of w.shown)
        ∙ ap (λ x. collected_by (layout_of (map_header w.header)) (lists_written (tag_lists w.header) tags).letters x) (a.found ∙ ap (λ y. nth (intervals_of y) s) w.shown)

    listed_in : (listing (opened m) tags).answer ≡ ok with-lists.header a.end
    listed_in = opened_in m tags with-lists.header a.end with-lists.read with-lists.fits

    -- the tile, as `read_tile` answered it
    module _ (r : Result Tile LentRefusal) (d : TileIs (collect_tile (kinds_of o.layout tagged.letters) (interval_found o.found) grid number m) (tile_places (kinds_of o.layout tagged.letters) (interval_found o.found) grid number m) room r places) where
      here-collected : exact_of (lent_answer r) ≡ exact_in m tags s grid number room
      here-collected =
          ap (λ (x : Replied (List ℕ) (Res Tile)). exact_of x.answer) (d ∙ same-collected)
          ∙ ap (λ r. and_then r (λ h _. exact_of (collected_in m tags s grid number room h).answer)) (sym listed_in)

      here-placed : places ≡ places_left m tags s grid number room (listing (opened m) tags).answer
      here-placed =
          ap (λ (x : Replied (List ℕ) (Res Tile)). x.lists) (d ∙ same-collected)
          ∙ ap (places_left m tags s grid number room) (sym listed_in)

    pub not-collected : (x : LentRefusal) (g : Outcome) → TileIs (collect_tile (kinds_of o.layout tagged.letters) (interval_found o.found) grid number m) (tile_places (kinds_of o.layout tagged.letters) (interval_found o.found) grid number m) room (Err x) places
        → IsErr g × IsErrAnd g (λ y. y ≡ x) → after ≡ before → OutcomeIs m s grid number zoom tags tagged room places before after g
    not-collected x g d h e =
        let q : g ≡ Err x = met h in
        subst (OutcomeIs m s grid number zoom tags tagged room places before after) (sym q)
        (record { collecting = here-collected (Err x) d; listing = tagged-so; placing = here-placed (Err x) d; replying = e })

    module _ (t : Tile) (d : TileIs (collect_tile (kinds_of o.layout tagged.letters) (interval_found o.found) grid number m) (tile_places (kinds_of o.layout tagged.letters) (interval_found o.found) grid number m) room (Ok t) places) where
      pub not-exact : t.exact ≡ false → after ≡ before → OutcomeIs m s grid number zoom tags tagged room places before after (Ok None)
      not-exact p e = record { collecting = ap answer (sym p) ∙ here-collected (Ok t) d; listing = tagged-so; placing = here-placed (Ok t) d; replying = e }

      module _ (small : length m < 2 ^ 64) (p : t.exact ≡ true) where
        says : BookSays m s grid number tags (Ok (a.header, a.end)) tagged o.layout (interval_found o.found)
        says =
            book-says m s grid number tags (Ok (a.header, a.end)) tagged o.layout o.found (Ok t) (record {
              small = small;
              answers = record { header = opening; layout = a.layout; interval = a.found };
              header = a.header;
              header_end = a.end;
              opens = refl;
              room = room;
              places = places;
              tile = d;
              whole = t;
              collects = refl;
              exact = p;
            })

        -- a tile that collects opens
        pub never : {C : Type 0} (x : Refusal) → error.refused x ≡ open_tile o.layout (interval_found o.found) s grid number zoom m → C
        never x f = not-refused x ((says.sees zoom []).streams (Err x) f)

        pub replied : (st : Stream) (r : Replies) → answer (state_of st) ≡ open_tile o.layout (interval_found o.found) s grid number zoom m
            → Called3 m (kinds_of o.layout tagged.letters) st before after r → OutcomeIs m s grid number zoom tags tagged room places before after (Ok (Some r))
        replied st r f w = record {
          collecting = ap answer (sym p) ∙ here-collected (Ok t) d;
          listing = tagged-so;
          placing = here-placed (Ok t) d;
          replying = record {
            stored = says.stored;
            place = says.place;
            tile = says.tile;
            collects = says.collects;
            replies = (says.sees zoom (three_calls before)).replies st f _ w;
          };
        }
