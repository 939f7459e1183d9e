-- A way as it is fetched, by what was measured and written.
use Prim.Native.Nat.{ℕ, ◌-◌, ◌^◌, ◌≤◌}
use native.Mathlib.Omega.{arith}
use mathlib.Core.Path.{◌≡◌, refl, sym, ap, ◌∙◌}
use mathlib.Core.Bool.{Bool, true, false, ◌&&◌, cond}
use mathlib.Core.List.{List, map}
use lib.Dec.{leb}
use lib.Ieee.{Float}
use lib.ListN.{length, take, length-map}
use borrow.Author.Tests.{leb-true, lt-ltb, le-leb}
use Rattle.std.specs.Prelude.{Ok, Some}
use Rattle.parsing.specs.Parse.{Res, ok, no, and_then, map_res}
use Rattle.parsing.specs.Good.{ok-val, ok_at, no_ok}
use Rattle.error.specs.Refusals.{lent_refused}
use Rattle.error.specs.declared.Lengths.{Lengths}
use Rattle.error.specs.declared.LentRefusal.{LentRefusal}
use Rattle.format.specs.Lent.{front, fits}
use Rattle.format.specs.WayData.{concat}
use Rattle.format.specs.Nodes.{latitude_of, longitude_of, initial_node, initial_latitudes, initial_longitudes}
use Rattle.format.specs.BodyLists.{body_lists}
use Rattle.format.specs.Tile.{Head, head, Body, body}
use Rattle.types.specs.declared.TagRange.{TagRange}
use Rattle.tag_table.specs.Tables.{kinds_by}
use Rattle.tagged.specs.TagIds.{tag_ids}
use Rattle.way.specs.Way.{body_of}
use Rattle.way_data.specs.Reply as lists
use Rattle.way_lists.specs.WayLists.{ListsWritten}
use Rattle.fetched.specs.Fetched.{started_name, FetchLists, FetchReply, fetched_way, way_record, way_lists, written_all, needed_all, deliver_all}
use Rattle.fetched.specs.declared.FetchedWay.{FetchedWay}
use Rattle.feature_texts.specs.FeatureTexts.{texts_in, write_texts}
use Rattle.feature_texts.proofs.ShortLaws.{head_few, ids-within, ids-are}
use Rattle.measured_way.specs.MeasuredWay.{way_stored, way_parts, told_of, told_way, fits_in, measured, shown_of}
use Rattle.measured_way.specs.declared.MeasuredWay.{MeasuredWay}
use Rattle.measured_way.proofs.MeasureLaws.{bytes, texts-are, few_bytes}
use Rattle.fetch_way.specs.FetchWay.{lent, WayFetchIs, room_of, texts_written}
use Rattle.fetch_way.proofs.WayLaws.{and_first, and_second, lists_of, lists-written}

abbrev Answer : Type 0
Answer = FetchReply FetchedWay

-- what was measured
module _ (debug : Bool) (starts letters : List ℕ) (t : TagRange) (room : Lengths) (m : List ℕ) (at : ℕ) (g : MeasuredWay) (n : ℕ) (q : ok g n ≡ map_res shown_of (measured room (told_way debug starts letters t m at))) where
  abbrev stored : Res Head
  stored = head debug (kinds_by letters t) m at

  -- what is known of a way that is told
  record Known : Type 0 where
    first : Head
    rest : Body
    head : stored ≡ ok first g.lists.start
    body : body m g.lists.start ≡ ok rest n
    shows : g ≡ shown_of (told_of starts t m first g.lists.start rest)
    fits : fits_in (way_lists (started_name starts t m) first rest) room ≡ true

  known : Known
  known = headed stored refl q
    where
      tested : (s : Head) (y : ℕ) (d : Body) (k : ℕ) (b : Bool) → stored ≡ ok s y → body m y ≡ ok d k → fits_in (way_lists (started_name starts t m) s d) room ≡ b
          → ok g n ≡ map_res shown_of (cond b (ok (told_of starts t m s y d) k) (no 15 (needed_all (way_lists (started_name starts t m) s d)))) → Known
      tested s y d k true hs bd f i =
          let z : g ≡ shown_of (told_of starts t m s y d) = ok-val i in
          let st : g.lists.start ≡ y = ap (λ (a : MeasuredWay). a.lists.start) z in
          record {
            first = s;
            rest = d;
            head = hs ∙ ap (ok s) (sym st);
            body = ap (body m) st ∙ bd ∙ ap (ok d) (sym (ok_at i));
            shows = z ∙ ap (λ a. shown_of (told_of starts t m s a d)) (sym st);
            fits = f;
          }
      tested s y d k false hs bd f i = no_ok (sym i)

      bodied : (s : Head) (y : ℕ) (r : Res Body) → stored ≡ ok s y → body m y ≡ r → ok g n ≡ map_res shown_of (measured room (map_res (told_of starts t m s y) r)) → Known
      bodied s y (ok d k) hs bd i = tested s y d k (fits_in (way_lists (started_name starts t m) s d) room) hs bd refl i
      bodied s y (no k v) hs bd i = no_ok (sym i)

      headed : (r : Res Head) → stored ≡ r → ok g n ≡ map_res shown_of (measured room (and_then r (λ h e. map_res (told_of starts t m h e) (body m e)))) → Known
      headed (ok s y) hs i = bodied s y (body m y) hs refl i
      headed (no k v) hs i = no_ok (sym i)

  few : length known.first.tagged.ids ≤ 15
  few = (head_few m debug (kinds_by letters t)).holds at known.first g.lists.start known.head

  ids-told : g.texts.tag_ids ≡ tag_ids known.first.tagged.ids
  ids-told = ap (λ (a : MeasuredWay). a.texts.tag_ids) known.shows

  pub ids-in : g.texts.tag_ids.count ≤ length g.texts.tag_ids.ids
  ids-in = ids-within g.texts.tag_ids known.first.tagged.ids ids-told

-- measured for the lists that are lent
module _ (debug : Bool) (starts letters : List ℕ) (t : TagRange) (m : List ℕ) (at : ℕ) (c : List ℕ) (la lo il io : List Float) (bu : List ℕ) where
  abbrev given : FetchLists
  given = lent c la lo il io bu

  -- what is refused when it is measured is refused when it is delivered
  pub refused_as : (x : LentRefusal) → lent_refused x ≡ map_res shown_of (measured (room_of given) (told_way debug starts letters t m at)) → ◌≡◌ {A = Answer} (record { answer = lent_refused x; lists = given }) (deliver_all (way_stored debug starts letters t m at) given)
  refused_as x h = headed (head debug (kinds_by letters t) m at) h
    where
      tested : (s : Head) (e : ℕ) (d : Body) (n : ℕ) (b : Bool) → fits_in (way_lists (started_name starts t m) s d) (room_of given) ≡ b → lent_refused x ≡ map_res shown_of (cond b (ok (told_of starts t m s e d) n) (no 15 (needed_all (way_lists (started_name starts t m) s d))))
          → ◌≡◌ {A = Answer} (record { answer = lent_refused x; lists = given }) (deliver_all (ok (fetched_way (started_name starts t m) s d) n) given)
      tested s e d n true f i = no_ok i
      tested s e d n false f i = let o : lent_refused {A = FetchedWay} x ≡ no 15 (needed_all (way_lists (started_name starts t m) s d)) = cc in rw (f, o) refl

      bodied : (s : Head) (e : ℕ) (r : Res Body) → lent_refused x ≡ map_res shown_of (measured (room_of given) (map_res (told_of starts t m s e) r)) → ◌≡◌ {A = Answer} (record { answer = lent_refused x; lists = given }) (deliver_all (map_res (fetched_way (started_name starts t m) s) r) given)
      bodied s e (ok d n) i = tested s e d n (fits_in (way_lists (started_name starts t m) s d) (room_of given)) refl i
      bodied s e (no n v) i = let o : lent_refused {A = FetchedWay} x ≡ no n v = cc in rw o

      headed : (r : Res Head) → lent_refused x ≡ map_res shown_of (measured (room_of given) (and_then r (λ h e. map_res (told_of starts t m h e) (body m e)))) → ◌≡◌ {A = Answer} (record { answer = lent_refused x; lists = given }) (deliver_all (and_then r (λ h e. map_res (fetched_way (started_name starts t m) h) (body m e))) given)
      headed (ok s e) i = bodied s e (body m e) i
      headed (no n v) i = let o : lent_refused {A = FetchedWay} x ≡ no n v = cc in rw o

  -- what was written
  module _ (g : MeasuredWay) (n : ℕ) (q : ok g n ≡ map_res shown_of (measured (room_of given) (told_way debug starts letters t m at)))
      (c' : List ℕ) (la' lo' il' io' : List Float) (bu' : List ℕ) (w : ListsWritten m (Some g.lists) c la lo il io c' la' lo' il' io') (u : bu' ≡ texts_written starts m g.texts bu) where
    abbrev left : FetchLists
    left = lent c' la' lo' il' io' bu'

    abbrev k : Known debug starts letters t (room_of given) m at g n q
    k = known debug starts letters t (room_of given) m at g n q

    abbrev s : Head
    s = k.first

    abbrev d : Body
    d = k.rest

    abbrev text : List ℕ
    text = bytes starts t m s d g.lists.start n (few debug starts letters t (room_of given) m at g n q) k.body

    -- the six tests
    abbrev p : Bool
    p = fits (body_lists d) (lists.lent c la lo)

    abbrev i1 : Bool
    i1 = leb (length (initial_latitudes (concat d.data_blocks))) (length il)

    abbrev i2 : Bool
    i2 = leb (length (initial_longitudes (concat d.data_blocks))) (length io)

    abbrev i3 : Bool
    i3 = leb (length text) (length bu)

    lists-fit : p ≡ true
    lists-fit = and_first p i1 (and_first (p && i1) i2 (and_first (p && i1 && i2) i3 k.fits))

    text-written : bu' ≡ front text bu
    text-written =
        let few-ids = few debug starts letters t (room_of given) m at g n q in
        let y = leb-true (length text) (length bu) (and_second (p && i1 && i2) i3 k.fits) in
        u ∙ ap (λ (a : MeasuredWay). write_texts (texts_in starts a.texts.parts m (take g.texts.tag_ids.count g.texts.tag_ids.ids)) bu) k.shows
        ∙ ap (λ a. write_texts (texts_in starts (way_parts (body_of d) t) m a) bu) (ids-are g.texts.tag_ids s.tagged.ids (ids-told debug starts letters t (room_of given) m at g n q))
        ∙ ap (λ a. write_texts a bu) (texts-are starts t m s d g.lists.start n few-ids k.body)
        ∙ rw (lt-ltb (length text) (2 ^ 64 - 1) (few_bytes starts t m s d g.lists.start n few-ids k.body), le-leb (length text) (length bu) y)

    abbrev delivered : Bool → Answer
    delivered x = cond x (record { answer = ok (way_record (started_name starts t m) s d) n; lists = written_all (way_lists (started_name starts t m) s d) given }) (record { answer = no 15 (needed_all (way_lists (started_name starts t m) s d)); lists = given })

    stored_is : way_stored debug starts letters t m at ≡ ok (fetched_way (started_name starts t m) s d) n
    stored_is =
        ap (λ r. and_then r (λ h e. map_res (fetched_way (started_name starts t m) h) (body m e))) k.head
        ∙ ap (map_res (fetched_way (started_name starts t m) s)) k.body

    pub way-fetched : WayFetchIs (way_stored debug starts letters t m at) given (Ok (g.way, n)) left
    way-fetched =
        let x = leb-true (length (initial_latitudes (concat d.data_blocks))) (length il) (and_second p i1 (and_first (p && i1) i2 (and_first (p && i1 && i2) i3 k.fits))) in
        let y = leb-true (length (initial_longitudes (concat d.data_blocks))) (length io) (and_second (p && i1) i2 (and_first (p && i1 && i2) i3 k.fits)) in
        let z : g.lists.blocks ≡ length (concat d.data_blocks) = ap (λ (a : MeasuredWay). a.lists.blocks) k.shows in
        let o = length-map (concat d.data_blocks) (λ b. initial_node (map latitude_of b)) in
        let a = length-map (concat d.data_blocks) (λ b. initial_node (map longitude_of b)) in
        ap (λ l. record { answer = ok g.way n; lists = l }) (lists-written m g.lists c la lo il io c' la' lo' il' io' w d n k.body z lists-fit bu' (omega arith) (omega arith))
        ∙ ap (λ l. record { answer = ok g.way n; lists = lists_of d c la lo il io l }) text-written
        ∙ ap (λ (v : MeasuredWay). record { answer = ok v.way n; lists = lists_of d c la lo il io (front text bu) }) k.shows
        ∙ ap delivered (sym k.fits)
        ∙ ap (λ r. deliver_all r given) (sym stored_is)
