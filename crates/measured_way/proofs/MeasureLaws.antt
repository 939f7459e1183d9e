-- A way as a fetch tells of it, by what the readers answered.
use Prim.Native.Nat.{ℕ, ◌-◌, ◌^◌, ◌≤◌, ◌<◌}
use native.Mathlib.Omega.{arith}
use mathlib.Core.Path.{◌≡◌, refl, sym, ap, ◌∙◌, subst}
use mathlib.Core.Bool.{Bool, true, false, not}
use mathlib.Core.List.{List}
use lib.ListN.{length, take, length-map}
use lib.Seq.{take_all}
use borrow.Author.Tests.{not-true, not-false}
use Rattle.std.specs.Prelude.{Result, Ok, Err}
use Rattle.parsing.specs.Parse.{Res, ok, no, and_then, map_res}
use Rattle.parsing.specs.Good.{ok-val, ok_at, no_ok}
use Rattle.error.specs.Refusals.{refused, lent_refused, lengths}
use Rattle.error.specs.declared.Lengths.{Lengths}
use Rattle.error.specs.declared.LentRefusal.{LentRefusal}
use Rattle.error.specs.declared.LentRefusal.TheVariants.{Refused}
use Rattle.error.specs.declared.Refusal.{Refusal}
use Rattle.arithmetic.specs.Cut.{cut}
use Rattle.arithmetic.proofs.CutLaws.{cut_fits}
use Rattle.format.specs.WayData.{Node, concat, node_count}
use Rattle.format.specs.Nodes.{latitude_of, longitude_of, node_counts, latitudes, longitudes, initial_latitudes, initial_longitudes}
use Rattle.format.specs.Tile.{Head, head, Body, body, double_delta}
use Rattle.types.specs.Types.{maybe_part}
use Rattle.types.specs.declared.TagRange.{TagRange}
use Rattle.tag_table.specs.Tables.{kinds_by}
use Rattle.tagged.specs.TagIds.{tag_ids}
use Rattle.way.specs.Way.{body_of}
use Rattle.way.specs.declared.WayBody.{WayBody}
use Rattle.way_data.proofs.BlockLaws.{length-along}
use Rattle.way_head.specs.WayHead.{head_of}
use Rattle.way_head.specs.declared.WayHead.{WayHead}
use Rattle.fetched.specs.Fetched.{started_name, buffered, feature_texts, way_lists, way_record, needed_all}
use Rattle.fetched.specs.declared.FeatureTexts.{FeatureTexts}
use Rattle.fetched.specs.declared.FetchedWay.{FetchedWay}
use Rattle.feature_texts.specs.FeatureTexts.{texts_in}
use Rattle.feature_texts.specs.declared.TextParts.{TextParts}
use Rattle.feature_texts.proofs.ShortLaws.{Known, known_by, WayTexts, body-texts, head_few, texts-short, ids-within, ids-counted, ids-are}
use Rattle.feature_tags.specs.FeatureTags.{texts_of}
use Rattle.measured_way.specs.MeasuredWay.{way_parts, told_of, fits_in, measured, way_with, texts_with, lists_with, shown_of, ToldAs, MeasuredIs, roomy, too_short, WayTold, BodyMeasured}
use Rattle.measured_way.specs.declared.MeasuredWay.{MeasuredWay}

-- a way that was read
module _ (starts : List ℕ) (t : TagRange) (m : List ℕ) (s : Head) (d : Body) (start next : ℕ) (few : length s.tagged.ids ≤ 15) (rd : body m start ≡ ok d next) where
  abbrev pub name : ℕ → List ℕ
  name = started_name starts t m

  abbrev pub bytes : List ℕ
  bytes = buffered name s.tagged.ids d.fields.name d.fields.house_number d.fields.reference

  abbrev pub parts : TextParts
  parts = way_parts (body_of d) t

  abbrev pub all : List (List Node)
  all = concat d.data_blocks

  texts-in : WayTexts m d.fields
  texts-in = (body-texts m).holds start d next rd

  pub texts-are : texts_in starts parts m s.tagged.ids ≡ bytes
  texts-are =
      ap (λ x. buffered name s.tagged.ids x (maybe_part m (body_of d).house_number) (maybe_part m (body_of d).reference)) texts-in.name.same
      ∙ ap (λ x. buffered name s.tagged.ids d.fields.name x (maybe_part m (body_of d).reference)) texts-in.house_number.same
      ∙ ap (λ x. buffered name s.tagged.ids d.fields.name d.fields.house_number x) texts-in.reference.same

  pub few_bytes : length bytes < 2 ^ 64 - 1
  few_bytes = texts-short starts t m s.tagged.ids d.fields.name d.fields.house_number d.fields.reference few texts-in.name texts-in.house_number texts-in.reference

  described : texts_of starts parts m s.tagged.ids ≡ feature_texts name s.tagged.ids d.fields.name d.fields.house_number d.fields.reference
  described =
      ap (λ x. feature_texts name (take 15 s.tagged.ids) x (maybe_part m (body_of d).house_number) (maybe_part m (body_of d).reference)) texts-in.name.same
      ∙ ap (λ x. feature_texts name (take 15 s.tagged.ids) d.fields.name x (maybe_part m (body_of d).reference)) texts-in.house_number.same
      ∙ ap (λ x. feature_texts name (take 15 s.tagged.ids) d.fields.name d.fields.house_number x) texts-in.reference.same
      ∙ ap (λ x. feature_texts name x d.fields.name d.fields.house_number d.fields.reference) (take_all 15 s.tagged.ids few)

  -- the lengths of what goes to the lists
  pub counts-length : length (node_counts all) ≡ length all
  counts-length = length-map all length

  lats-length : length (latitudes (double_delta d.fields) all) ≡ node_count all
  lats-length = length-along (double_delta d.fields) latitude_of all

  lons-length : length (longitudes (double_delta d.fields) all) ≡ node_count all
  lons-length = length-along (double_delta d.fields) longitude_of all

  initial-lats-length : length (initial_latitudes all) ≡ length all
  initial-lats-length = length-map all _

  initial-lons-length : length (initial_longitudes all) ≡ length all
  initial-lons-length = length-map all _

  fits-is : (room : Lengths) → fits_in (way_lists name s d) room ≡ roomy (length all) (node_count all) (length bytes) room
  fits-is room = rw (counts-length, lats-length, lons-length, initial-lats-length, initial-lons-length) refl

  needed-is : needed_all (way_lists name s d) ≡ lengths (length all) (node_count all) (node_count all) (length all) (length all) (length bytes)
  needed-is = rw (counts-length, lats-length, lons-length, initial-lats-length, initial-lons-length) refl

  measured-short : (room : Lengths) → roomy (length all) (node_count all) (length bytes) room ≡ false → lent_refused (too_short (length all) (node_count all) (length bytes)) ≡ measured room (ok (told_of starts t m s start d) next)
  measured-short room q = ap (no 15) (sym needed-is) ∙ rw (fits-is room, q) refl

  measured-done : (room : Lengths) → roomy (length all) (node_count all) (length bytes) room ≡ true → ok (told_of starts t m s start d) next ≡ measured room (ok (told_of starts t m s start d) next)
  measured-done room q = rw (fits-is room, q) refl

-- told by what was measured
module _ (starts : List ℕ) (t : TagRange) (h : WayHead) (b : WayBody) (ids : List ℕ) (start next : ℕ) (room : Lengths) (m : List ℕ) (pr : TextParts) (k : pr ≡ way_parts b t) (len : ℕ) (l : len ≡ cut (length (texts_in starts pr m ids)))
    (g : Bool) (j : g ≡ not (roomy b.blocks b.nodes len room)) where
  module _ (s : Head) (d : Body) (hs : h ≡ head_of s) (is : ids ≡ s.tagged.ids) (few : length ids ≤ 15) (bd : b ≡ body_of d) (rd : body m start ≡ ok d next) where
    few-ids : length s.tagged.ids ≤ 15
    few-ids = let e = ap length is in omega arith

    measured-bytes : len ≡ length (bytes starts t m s d start next few-ids rd)
    measured-bytes =
        let f = few_bytes starts t m s d start next few-ids rd in
        l ∙ ap (λ x. cut (length (texts_in starts x m ids))) k ∙ ap (λ x. cut (length (texts_in starts (way_parts x t) m ids))) bd ∙ ap (λ x. cut (length (texts_in starts (way_parts (body_of d) t) m x))) is
        ∙ ap (λ x. cut (length x)) (texts-are starts t m s d start next few-ids rd) ∙ cut_fits (length (bytes starts t m s d start next few-ids rd)) (omega arith)

    tested : (c : Bool) → roomy b.blocks b.nodes len room ≡ c → roomy (length (concat d.data_blocks)) (node_count (concat d.data_blocks)) (length (bytes starts t m s d start next few-ids rd)) room ≡ c
    tested c q = ap (λ x. roomy (length (concat d.data_blocks)) (node_count (concat d.data_blocks)) x room) (sym measured-bytes) ∙ ap (λ (x : WayBody). roomy x.blocks x.nodes len room) (sym bd) ∙ q

    refused_as : (x : LentRefusal) → x ≡ too_short b.blocks b.nodes len → x ≡ too_short (length (concat d.data_blocks)) (node_count (concat d.data_blocks)) (length (bytes starts t m s d start next few-ids rd))
    refused_as x q = q ∙ ap (λ (y : WayBody). too_short y.blocks y.nodes len) bd ∙ ap (too_short (length (concat d.data_blocks)) (node_count (concat d.data_blocks))) measured-bytes

    shown-as : (tx : FeatureTexts) (v : FetchedWay) → tx ≡ texts_of starts pr m ids → v ≡ way_with h b tx → ◌≡◌ {A = MeasuredWay} (record { way = v; texts = texts_with h pr; lists = lists_with b start }) (shown_of (told_of starts t m s start d))
    shown-as tx v q w =
        let x : tx ≡ feature_texts (started_name starts t m) s.tagged.ids d.fields.name d.fields.house_number d.fields.reference =
        q ∙ ap (λ x. texts_of starts x m ids) k ∙ ap (λ x. texts_of starts (way_parts x t) m ids) bd ∙ ap (texts_of starts (way_parts (body_of d) t) m) is ∙ described starts t m s d start next few-ids rd in
        let y : v ≡ way_record (started_name starts t m) s d = w ∙ ap (λ x. way_with x b tx) hs ∙ ap (λ x. way_with (head_of s) x tx) bd ∙ ap (way_with (head_of s) (body_of d)) x in
        ap (λ x. record { way = x; texts = texts_with h pr; lists = lists_with b start }) y
        ∙ ap (λ x. record { way = way_record (started_name starts t m) s d; texts = texts_with x pr; lists = lists_with b start }) hs
        ∙ ap (λ x. record { way = way_record (started_name starts t m) s d; texts = texts_with (head_of s) x; lists = lists_with b start }) k
        ∙ ap (λ x. record { way = way_record (started_name starts t m) s d; texts = texts_with (head_of s) (way_parts x t); lists = lists_with x start }) bd

  pub told-short : (x : LentRefusal) → g ≡ true → x ≡ too_short b.blocks b.nodes len → WayTold starts t h b ids start next room m (Err x)
  told-short x q e = record {
    each = λ s d hs is few bd rd.
        ap lent_refused (refused_as s d hs is few bd rd x e)
        ∙ ap (map_res shown_of) (measured-short starts t m s d start next (few-ids s d hs is few bd rd) rd room (tested s d hs is few bd rd false (not-true _ (sym j ∙ q))));
  }

  pub told-done : (tx : FeatureTexts) (v : FetchedWay) → g ≡ false → tx ≡ texts_of starts pr m ids → v ≡ way_with h b tx → WayTold starts t h b ids start next room m (Ok (record { way = v; texts = texts_with h pr; lists = lists_with b start }, next))
  told-done tx v q e w = record {
    each = λ s d hs is few bd rd.
        ap (λ x. ok x next) (shown-as s d hs is few bd rd tx v e w)
        ∙ ap (map_res shown_of) (measured-done starts t m s d start next (few-ids s d hs is few bd rd) rd room (tested s d hs is few bd rd true (not-false _ (sym j ∙ q))));
  }

-- the body, behind the head
module _ (starts : List ℕ) (t : TagRange) (h : WayHead) (ids : List ℕ) (start : ℕ) (room : Lengths) (m : List ℕ) where
  pub body-no : (x : Refusal) → refused x ≡ map_res body_of (body m start) → BodyMeasured starts t h ids start room m (Err (Refused x))
  body-no x q = record { each = λ s hs is few. go s (body m start) q }
    where
      go : (s : Head) (d : Res Body) → refused x ≡ map_res body_of d → refused x ≡ map_res shown_of (measured room (map_res (told_of starts t m s start) d))
      go s (ok d e) f = no_ok f
      go s (no n v) f = cc

  pub body-on : (b : WayBody) (n : ℕ) (r : Result (MeasuredWay × ℕ) LentRefusal) → ok b n ≡ map_res body_of (body m start) → WayTold starts t h b ids start n room m r → BodyMeasured starts t h ids start room m r
  body-on b n r q w = record { each = λ s hs is few. go s hs is few (body m start) refl q }
    where
      go : (s : Head) → h ≡ head_of s → ids ≡ s.tagged.ids → length ids ≤ 15 → (d : Res Body) → body m start ≡ d → ok b n ≡ map_res body_of d → ToldAs (measured room (map_res (told_of starts t m s start) d)) r
      go s hs is few (ok d x) f i =
          subst (λ (y : ℕ). ToldAs (measured room (ok (told_of starts t m s start d) y)) r) (ok_at i)
          (w.each s d hs is few (ok-val i) (f ∙ ap (ok d) (sym (ok_at i))))
      go s hs is few (no k v) f i = no_ok (sym i)

-- the way, read from its place
module _ (debug : Bool) (starts letters : List ℕ) (t : TagRange) (room : Lengths) (m : List ℕ) (at : ℕ) where
  abbrev stored : Res Head
  stored = head debug (kinds_by letters t) m at

  pub head-no : (x : Refusal) → refused x ≡ map_res head_of stored → MeasuredIs debug starts letters t room m at (Err (Refused x))
  head-no x q = go stored q
    where
      go : (s : Res Head) → refused x ≡ map_res head_of s → refused x ≡ map_res shown_of (measured room (and_then s (λ h e. map_res (told_of starts t m h e) (body m e))))
      go (ok s e) d = no_ok d
      go (no n v) d = cc

  module _ (h : WayHead) (n : ℕ) (q : ok h n ≡ map_res head_of stored) where
    known : Known head_of h n stored
    known = known_by head_of h n stored q

    ids-told : h.tag_ids ≡ tag_ids known.value.tagged.ids
    ids-told = ap (λ (x : WayHead). x.tag_ids) known.shown

    pub ids-in : h.tag_ids.count ≤ length h.tag_ids.ids
    ids-in = ids-within h.tag_ids known.value.tagged.ids ids-told

    pub ids-sized : h.tag_ids.count ≡ length (take h.tag_ids.count h.tag_ids.ids)
    ids-sized = ids-counted h.tag_ids known.value.tagged.ids ids-told

    pub head-on : (r : Result (MeasuredWay × ℕ) LentRefusal) → BodyMeasured starts t h (take h.tag_ids.count h.tag_ids.ids) n room m r → MeasuredIs debug starts letters t room m at r
    head-on r w =
        let i = ids-are h.tag_ids known.value.tagged.ids ids-told in
        let few = (head_few m debug (kinds_by letters t)).holds at known.value n known.same in
        let j = ap length i in
        subst (λ (s : Res Head). ToldAs (measured room (and_then s (λ h e. map_res (told_of starts t m h e) (body m e)))) r) (sym known.same)
        (w.each known.value known.shown i (omega arith))
