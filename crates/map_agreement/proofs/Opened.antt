-- Any map that opens with the stored header h: what locating, opening and collecting a tile read of it, by the header's value;
-- and what a program sees of such a map, where the machine's replies are the book's.
use Rattle.std.specs.Prelude.{Result, Ok, Err}
use Rattle.std.proofs.lemmas.Result.{IfOk-at_ok}
use Rattle.error.specs.declared.Refusal.{Refusal}
use Prim.Native.Nat.{ℕ}
use mathlib.Core.Path.{◌≡◌, refl, sym, ap, ◌∙◌, subst}
use mathlib.Core.Bool.{Bool, true, cond}
use mathlib.Core.List.{List, [], ◌∷◌, map}
use lib.ListN.{length}
use Rattle.parsing.specs.Parse.{Res, ok, no, and_then, map_res, list_of, Part, Maybe, none, some, nth}
use Rattle.parsing.specs.Good.{split, ok-val, ok_at, no_ok}
use Rattle.format.specs.Header.{Interval, Header, opened, debug}
use Rattle.format.specs.Index.{answer, answered, Grid, Located, located, locate, locate_in, in_sub_file}
use Rattle.format.specs.Index as index
use Rattle.format.specs.Kinds.{kind_of_text}
use Rattle.format.specs.TagLists.{TagLists, tag_lists, lists_fit, lists_written, lists_needed, kinds_in}
use Rattle.format.proofs.ListLaws.{ListedKinds, kinds-listed}
use Rattle.format.specs.Lent.{Replied, Reply}
use Rattle.format.specs.Rows.{rows_upto}
use Rattle.format.specs.Tile.{Point, Head, Body}
use Rattle.tag.specs.declared.Kind.{Kind}
use Rattle.types.specs.Types.{intervals_of}
use Rattle.header.specs.HeaderView.{map_header}
use Rattle.byte_source.specs.Answers.{lent_res}
use Rattle.opening.specs.Opening.{OpenIs}
use Rattle.header.proofs.HeaderLaws.{intervals-back}
use Rattle.tile_layout.specs.TileLayout.{layout_of, kinds_of}
use Rattle.tile_layout.specs.declared.TileLayout.{TileLayout}
use Rattle.agreement.specs.Calls.{Answer, Call, run}
use Rattle.tile_place.proofs.PlaceLaws.{located-found}
use Rattle.tile_layout.specs.TileLayout.{format_of}
use Rattle.agreement.specs.Collected.{StoredTile, collect}
use Rattle.agreement.specs.MapLayout.{MapLayout, rows_at}
use Rattle.agreement.specs.MapLayout as layout
use Rattle.agreement.specs.Stream.{stream, open_stream}
use Rattle.agreement.specs.View.{streamed_replies}
use Rattle.agreement.specs.TileFormat.{TileEnd, tile_format}
use Rattle.agreement.specs.Demand3.{MapAgrees, fresh_tile}
use Rattle.visit.specs.Visit.{TileState, state_of, open_tile, open_res, ShownAnswer, shown}
use Rattle.visit.specs.declared.Stream.{Stream}
use Rattle.tile.specs.Tile.{shown_tile, feature_places, collect_tile, tile_places}
use Rattle.tile.specs.declared.Tile.{Tile}
use Rattle.map_agreement.specs.TileView.{tile_view}
use Rattle.map_agreement.specs.MapsforgeMap.{of_interval, lowest, highest, mapsforge}
use Rattle.map_agreement.specs.BookSays.{MapRead, Opens, opens, book_at, SeesBook}
use Rattle.map_agreement.proofs.Chain.{shown_replies, called-run}
use Rattle.map_agreement.proofs.MapLaws.{located-at}
use Rattle.types.specs.declared.MapHeader.{MapHeader}
use Rattle.index.specs.Answers.{held_entry, held_res, answer_res}
use Rattle.index.specs.declared.TileIndexEntry.{TileIndexEntry}
use Rattle.map_agreement.specs.Texts.{texts_found, texts_stored}
use Rattle.map_agreement.proofs.TextLaws.{texts-found}

-- the tile's interval is that of its entry
entry-interval : (g : Grid) (number : ℕ) (r : Maybe Interval) (m : List ℕ) (i : ℕ) (l : Located) (e : ℕ) → in_sub_file r (no 8 []) (λ z. located g number z m i) ≡ ok l e → r ≡ some l.interval
entry-interval g number none m i l e q = no_ok q
entry-interval g number (some z) m i l e q = ap some (located-found g number z m i l e q).interval

-- the machine's replies, shown
shown-same : (debug : Bool) (p w : List Kind) (a b : List Part) (rs : List (Reply (Answer Point Head Body TileEnd))) → shown_replies rs ≡ streamed_replies (tile_view debug p w a b) rs
shown-same debug p w a b [] = refl
shown-same debug p w a b (r ∷ rs) = ap (λ l. record { answer = shown r.answer; lists = r.lists } ∷ l) (shown-same debug p w a b rs)

-- `tile_index_entry` answers the entry by which the tile is located
entry-held : (d : Bool) (i : Maybe Interval) (g : Grid) (number : ℕ) (m : List ℕ) (l : Located) → locate d i g number m ≡ answer l → held_res (index.tile_index_entry d i g number m) ≡ answer (held_entry l.entry)
unfolding locate locate_in index.tile_index_entry index.entry_asked
entry-held d none g number m l q = no_ok q
entry-held d (some z) g number m l q =
    let a = split (located g number z m (index.entry_at d z.start number)) (λ x _. answer x) l 0 q in
    let f = located-found g number z m (index.entry_at d z.start number) a.val a.mid a.first in
    let e : a.val.entry ≡ l.entry = ap (λ (y : Located). y.entry) (ok-val a.second) in
    rw (f.counted, f.inside, f.own, e)

entry-answer : (r : Result TileIndexEntry Refusal) {a : TileIndexEntry} → answer_res r ≡ answer a → r ≡ Ok a
entry-answer (Ok b) q = ap Ok (ok-val q)
entry-answer (Err r) q = no_ok q

-- `open_map` has one answer
read-at : (x : MapRead) {w : MapHeader} {e : ℕ} → lent_res x ≡ ok w e → x ≡ Ok (w, e)
read-at (Ok (v, n)) q = both (ok-val q) (ok_at q)
  where
    both : {a b : MapHeader} {k l : ℕ} → a ≡ b → k ≡ l → ◌≡◌ {A = MapRead} (Ok (a, k)) (Ok (b, l))
    both p q = rw (p, q) refl
read-at (Err r) q = no_ok q

-- where the lists have room: the header, where it ends, and the tags listed
pub record Listed (h : Header) (e : ℕ) (lent : TagLists) (b : MapRead) (t : TagLists) : Type 0 where
  pub header : b ≡ Ok (map_header h, e)
  pub tags : t ≡ lists_written (tag_lists h) lent

module _ (h : Header) (e : ℕ) (lent : TagLists) (b : MapRead) (t : TagLists) (i : OpenIs (ok h e) lent b t) where
  abbrev room : Bool
  room = lists_fit (tag_lists h) lent

  abbrev replied : Bool → Replied TagLists (Res Header)
  replied c = cond c (record { answer = ok h e; lists = lists_written (tag_lists h) lent }) (record { answer = no 15 (lists_needed (tag_lists h)); lists = lent })

  abbrev viewed : Replied TagLists (Res Header) → Replied TagLists (Res MapHeader)
  viewed x = record { answer = map_res map_header x.answer; lists = x.lists }

  pub listed_by : room ≡ true → Listed h e lent b t
  listed_by r =
      let q = i ∙ ap (λ c. viewed (replied c)) r in
      record {
        header = read-at b (ap (λ (x : Replied TagLists (Res MapHeader)). x.answer) q);
        tags = ap (λ (x : Replied TagLists (Res MapHeader)). x.lists) q;
      }

open-same : (h : Header) (e : ℕ) (lent : TagLists) (a b : MapRead) (s t : TagLists) → Listed h e lent a s → Listed h e lent b t → a ≡ b
open-same h e lent a b s t p q = p.header ∙ sym q.header

-- a stream that opens is not refused
pub never-refused : (q : Result Stream Refusal) {a : TileState} → open_res q ≡ answer a → Opens q
never-refused (Ok st) d = opens st
never-refused (Err r) d = no_ok d

module _ (s : ℕ) (grid : Grid) (number : ℕ) (h : Header) (lent : TagLists) where
  abbrev C : MapLayout
  C = mapsforge s grid number

  abbrev poi_kinds : List Kind
  poi_kinds = map kind_of_text h.poi_tags.texts

  abbrev way_kinds : List Kind
  way_kinds = map kind_of_text h.way_tags.texts

  -- what `layout_of` and `interval_of` give of the header
  abbrev lay : TileLayout
  lay = layout_of (map_header h)

  abbrev found : Maybe Interval
  found = nth (intervals_of (map_header h)) s

  -- and the tags that opening listed
  abbrev tags : TagLists
  tags = lists_written (tag_lists h) lent

  pub kinds : ListedKinds h tags.letters
  kinds = kinds-listed h lent

  -- the kinds of the way tags
  abbrev way_letters : List Kind
  way_letters = kinds_in tags.letters (length h.poi_tags.texts) (length h.way_tags.texts)

  module _ (m : List ℕ) (e : ℕ) (o : opened m ≡ ok h e) where
    pub located-as : locate lay.debug found grid number m ≡ answered (C.entry h m (C.entry_at h))
    unfolding locate
    located-as = ap (λ zs. in_sub_file (nth zs s) (no 8 []) (λ z. locate_in (debug h) z grid number m)) (intervals-back h) ∙ located-at grid number (debug h) m (nth h.intervals s)

    module _ (l : Located) (x : ℕ) (en : C.entry h m (C.entry_at h) ≡ ok l x) where
      low-is : l.interval.min ≡ lowest s grid number h
      low-is = ap (of_interval 0 (λ z. z.min)) (sym (entry-interval grid number (nth h.intervals s) m (C.entry_at h) l x en))

      high_is : l.interval.max ≡ highest s grid number h
      high_is = ap (of_interval 0 (λ z. z.max)) (sym (entry-interval grid number (nth h.intervals s) m (C.entry_at h) l x en))

      abbrev pub collects : (p w : List Kind) → Res Tile
      collects p w = answered (map_res shown_tile (collect (C.tile_head h l) (tile_format (debug h) p w) m (C.tile_at h l)))

      -- collecting, by the header's value
      pub collected-as : collect_tile (kinds_of lay tags.letters) found grid number m ≡ collects poi_kinds way_kinds
      unfolding collect_tile
      collected-as =
          ap (λ r. and_then {B = Tile} r (λ l _. answered (map_res shown_tile (collect (C.tile_head h l) (format_of (kinds_of lay tags.letters)) m (C.tile_at h l))))) (located-as ∙ ap answered en)
          ∙ ap (λ p. collects p way_letters) kinds.poi
          ∙ ap (λ w. collects poi_kinds w) kinds.way

      -- its places
      abbrev pub lists_at : (p w : List Kind) → List ℕ
      lists_at p w = list_of (map_res (feature_places (tile_format (debug h) p w) m) (collect (C.tile_head h l) (tile_format (debug h) p w) m (C.tile_at h l)))

      pub listed-as : tile_places (kinds_of lay tags.letters) found grid number m ≡ lists_at poi_kinds way_kinds
      unfolding tile_places
      listed-as =
          ap (λ r. list_of (and_then {B = List ℕ} r (λ l _. map_res (feature_places (format_of (kinds_of lay tags.letters)) m) (collect (C.tile_head h l) (format_of (kinds_of lay tags.letters)) m (C.tile_at h l))))) (located-as ∙ ap answered en)
          ∙ ap (λ p. lists_at p way_letters) kinds.poi
          ∙ ap (λ w. lists_at poi_kinds w) kinds.way

      abbrev opens_at : (low high zoom : ℕ) → Res (TileState)
      opens_at low high zoom = answered (open_stream (C.tile_head h l) (rows_upto low high zoom) (C.end h l) m (C.tile_at h l))

      -- opening a stream, by the header's value
      pub opened-as : (zoom : ℕ) → open_tile lay found s grid number zoom m ≡ answered (layout.open_tile C h zoom m)
      unfolding open_tile
      opened-as zoom =
          ap (λ r. and_then {B = TileState} r (λ l _. answered (open_stream (C.tile_head h l) (rows_upto l.interval.min l.interval.max zoom) (C.end h l) m (C.tile_at h l)))) (located-as ∙ ap answered en)
          ∙ ap (λ a. opens_at a l.interval.max zoom) low-is
          ∙ ap (λ a. opens_at (lowest s grid number h) a zoom) high_is
          ∙ ap (λ r. answered (and_then {B = TileState} r (λ n _. open_stream (C.tile_head h n) (rows_at C h zoom) (C.end h n) m (C.tile_at h n)))) (sym en)

      -- the entry's water mark, as `tile_index_entry` answers it
      pub entry-is : (r : Result TileIndexEntry Refusal) → answer_res r ≡ held_res (index.tile_index_entry lay.debug found grid number m) → r ≡ Ok (held_entry l.entry)
      entry-is r q = entry-answer r (q ∙ entry-held lay.debug found grid number m l (located-as ∙ ap answered en))

    -- where the machine's replies are the book's
    module _ (n : Located) (t : StoredTile (C.format h)) (zoom : ℕ) (cs : List Call) (a : MapAgrees C m h n t zoom cs) where
      fresh-opens : open_tile lay found s grid number zoom m ≡ answer (fresh_tile C h n t zoom)
      fresh-opens = opened-as n a.map.entry_end a.map.entry zoom ∙ ap answered a.opens

      abbrev machine : (p w : List Kind) → TileState → List (Reply ShownAnswer)
      machine p w x = shown_replies (run (stream (tile_format (debug h) p w) m) x cs)

      says-book : machine poi_kinds way_kinds (fresh_tile C h n t zoom) ≡ book_at s grid number h n t zoom cs
      says-book = shown-same (debug h) poi_kinds way_kinds h.poi_tags.texts h.way_tags.texts (run (stream (C.format h) m) (fresh_tile C h n t zoom) cs) ∙ a.shown

      pub sees-book : lists_fit (tag_lists h) lent ≡ true → (b : MapRead) → Listed h e lent b tags → SeesBook s grid number h n t m lent b tags lay found zoom cs
      sees-book r b d = record {
        answers = λ h' t' l' i' k.
            let f = listed_by h e lent h' t' (subst (λ x. OpenIs x lent h' t') o k.header) r in
            (open-same h e lent h' b t' tags f d, f.tags, IfOk-at_ok _ f.header k.layout, IfOk-at_ok _ f.header k.interval);
        streams = λ q r. never-refused q (r ∙ fresh-opens);
        replies = λ st r rs k.
            called-run m (kinds_of lay tags.letters) st cs rs k
            ∙ ap (λ p. machine p way_letters (state_of st)) kinds.poi
            ∙ ap (λ w. machine poi_kinds w (state_of st)) kinds.way
            ∙ ap (machine poi_kinds way_kinds) (ok-val (r ∙ fresh-opens))
            ∙ says-book;
        texts =
            ap (texts_found m) (sym says-book)
            ∙ texts-found (debug h) poi_kinds way_kinds m cs (fresh_tile C h n t zoom)
            ∙ ap texts_stored a.replies;
      }
