-- A point as it is fetched, by what the readers answered.
use Prim.Native.Nat.{ℕ, ◌-◌, ◌^◌, ◌≤◌, ◌<◌}
use native.Mathlib.Omega.{arith}
use mathlib.Core.Path.{◌≡◌, sym, ap, ◌∙◌, subst}
use mathlib.Core.Bool.{Bool}
use mathlib.Core.List.{List}
use lib.ListN.{length, take}
use lib.Seq.{take_all}
use borrow.Author.Tests.{lt-ltb, le-leb, lt-leb}
use Rattle.std.specs.Prelude.{Result, Ok, Err}
use Rattle.parsing.specs.Parse.{Res, ok, no, map_res, none}
use Rattle.parsing.specs.Good.{no_ok}
use Rattle.error.specs.Refusals.{refused, lent_refused, short_buffer}
use Rattle.error.specs.declared.LentRefusal.{LentRefusal}
use Rattle.error.specs.declared.Refusal.{Refusal}
use Rattle.arithmetic.specs.Cut.{cut}
use Rattle.arithmetic.proofs.CutLaws.{cut_fits}
use Rattle.format.specs.Lent.{front}
use Rattle.format.specs.Tile.{Point, point}
use Rattle.types.specs.Types.{maybe_part}
use Rattle.types.specs.declared.TagRange.{TagRange}
use Rattle.tag_table.specs.Tables.{kinds_by}
use Rattle.tagged.specs.TagIds.{tag_ids}
use Rattle.poi.specs.Poi.{poi_of}
use Rattle.poi.specs.declared.Poi.{Poi}
use Rattle.fetched.specs.Fetched.{started_name, buffered, feature_texts, fetched_point, FetchReply, deliver_all}
use Rattle.fetched.specs.declared.FeatureTexts.{FeatureTexts}
use Rattle.fetched.specs.declared.FetchedPoi.{FetchedPoi}
use Rattle.feature_texts.specs.FeatureTexts.{texts_in, write_texts}
use Rattle.feature_texts.specs.declared.TextParts.{TextParts}
use Rattle.feature_texts.specs.Known.{PointTexts}
use Rattle.feature_texts.proofs.ShortLaws.{Known, known_by, point-texts, none-stored, texts-short, ids-within, ids-counted, ids-are}
use Rattle.feature_tags.specs.FeatureTags.{texts_of}
use Rattle.fetch_poi.specs.FetchPoi.{poi_parts, poi_with, poi_stored, buffer_only, PoiFetchIs, PoiWritten}

-- an answer
abbrev Reply : Type 0
Reply = FetchReply FetchedPoi

-- the texts, measured and written
module _ (starts : List ℕ) (t : TagRange) (p : Poi) (ids : List ℕ) (next : ℕ) (m b : List ℕ) (pr : TextParts) (k : pr ≡ poi_parts p t) (len : ℕ) (l : len ≡ cut (length (texts_in starts pr m ids))) where
  abbrev name : ℕ → List ℕ
  name = started_name starts t m

  module _ (s : Point) (e : p ≡ poi_of s) (i : ids ≡ s.tagged.ids) (w : PointTexts m s) where
    abbrev bytes : List ℕ
    bytes = buffered name s.tagged.ids s.name s.house_number none

    texts-are : texts_in starts pr m ids ≡ bytes
    texts-are =
        ap (λ x. texts_in starts x m ids) k ∙ ap (λ x. texts_in starts (poi_parts x t) m ids) e ∙ ap (texts_in starts (poi_parts (poi_of s) t) m) i
        ∙ ap (λ x. buffered name s.tagged.ids x (maybe_part m (poi_of s).house_number) none) w.name.same
        ∙ ap (λ x. buffered name s.tagged.ids s.name x none) w.house_number.same

    few_bytes : length bytes < 2 ^ 64 - 1
    few_bytes = texts-short starts t m s.tagged.ids s.name s.house_number none w.few w.name w.house_number (none-stored m)

    measured : len ≡ length bytes
    measured = let f = few_bytes in l ∙ ap (λ x. cut (length x)) texts-are ∙ cut_fits (length bytes) (omega arith)

    described : (tx : FeatureTexts) → tx ≡ texts_of starts pr m ids → tx ≡ feature_texts name s.tagged.ids s.name s.house_number none
    described tx h =
        h ∙ ap (λ x. texts_of starts x m ids) k ∙ ap (λ x. texts_of starts (poi_parts x t) m ids) e ∙ ap (texts_of starts (poi_parts (poi_of s) t) m) i
        ∙ ap (λ x. feature_texts name (take 15 s.tagged.ids) x (maybe_part m (poi_of s).house_number) none) w.name.same
        ∙ ap (λ x. feature_texts name (take 15 s.tagged.ids) s.name x none) w.house_number.same
        ∙ ap (λ x. feature_texts name x s.name s.house_number none) (take_all 15 s.tagged.ids w.few)

    short-reply : length b < len → ◌≡◌ {A = Reply} (record { answer = lent_refused (short_buffer len); lists = buffer_only b }) (deliver_all (ok (fetched_point name s) next) (buffer_only b))
    short-reply h =
        let x = measured in
        let y : length b < length bytes = omega arith in
        ap (λ n. record { answer = lent_refused (short_buffer n); lists = buffer_only b }) x ∙ rw (lt-leb (length bytes) (length b) y)

    done-reply : (left : List ℕ) (tx : FeatureTexts) (v : FetchedPoi) → len ≤ length b → left ≡ write_texts (texts_in starts pr m ids) b → tx ≡ texts_of starts pr m ids → v ≡ poi_with p tx
        → ◌≡◌ {A = Reply} (record { answer = ok v next; lists = buffer_only left }) (deliver_all (ok (fetched_point name s) next) (buffer_only b))
    done-reply left tx v h u d a =
        let x = measured in
        let y : length bytes ≤ length b = omega arith in
        let z : left ≡ front bytes b = u ∙ ap (λ c. write_texts c b) texts-are ∙ rw (lt-ltb (length bytes) (2 ^ 64 - 1) few_bytes, le-leb (length bytes) (length b) y) in
        ap (λ c. record { answer = ok v next; lists = buffer_only c }) z
        ∙ ap (λ c. record { answer = ok c next; lists = buffer_only (front bytes b) }) (a ∙ ap (λ c. poi_with c tx) e ∙ ap (poi_with (poi_of s)) (described tx d))
        ∙ rw (le-leb (length bytes) (length b) y)

  pub poi-short : (x : LentRefusal) → length b < len → x ≡ short_buffer len → PoiWritten starts t p ids next m b (Err x) b
  poi-short x h d = record { each = λ s e i w. ap (λ a. record { answer = lent_refused a; lists = buffer_only b }) d ∙ short-reply s e i w h }

  pub poi-done : (left : List ℕ) (tx : FeatureTexts) (v : FetchedPoi) → len ≤ length b → left ≡ write_texts (texts_in starts pr m ids) b → tx ≡ texts_of starts pr m ids → v ≡ poi_with p tx
      → PoiWritten starts t p ids next m b (Ok (v, next)) left
  poi-done left tx v h u d a = record { each = λ s e i w. done-reply s e i w left tx v h u d a }

-- the point, read from its place
module _ (debug : Bool) (starts letters : List ℕ) (t : TagRange) (m : List ℕ) (at : ℕ) where
  abbrev stored : Res Point
  stored = point debug (kinds_by letters t) m at

  pub fetch-no : (b : List ℕ) (x : Refusal) → refused x ≡ map_res poi_of stored → ◌≡◌ {A = Reply} (record { answer = refused x; lists = buffer_only b }) (deliver_all (poi_stored debug starts letters t m at) (buffer_only b))
  fetch-no b x q = go stored q
    where
      go : (s : Res Point) → refused x ≡ map_res poi_of s → ◌≡◌ {A = Reply} (record { answer = refused x; lists = buffer_only b }) (deliver_all (map_res (fetched_point (started_name starts t m)) s) (buffer_only b))
      go (ok s e) d = no_ok d
      go (no n v) d = let i : refused {A = FetchedPoi} x ≡ no n v = cc in rw i

  module _ (p : Poi) (n : ℕ) (q : ok p n ≡ map_res poi_of stored) where
    known : Known poi_of p n stored
    known = known_by poi_of p n stored q

    facts : PointTexts m known.value
    facts = (point-texts m debug (kinds_by letters t)).holds at known.value n known.same

    ids-told : p.tag_ids ≡ tag_ids known.value.tagged.ids
    ids-told = ap (λ (x : Poi). x.tag_ids) known.shown

    pub ids-in : p.tag_ids.count ≤ length p.tag_ids.ids
    ids-in = ids-within p.tag_ids known.value.tagged.ids ids-told

    pub ids-sized : p.tag_ids.count ≡ length (take p.tag_ids.count p.tag_ids.ids)
    ids-sized = ids-counted p.tag_ids known.value.tagged.ids ids-told

    pub fetch-on : (b left : List ℕ) (r : Result (FetchedPoi × ℕ) LentRefusal) → PoiWritten starts t p (take p.tag_ids.count p.tag_ids.ids) n m b r left → PoiFetchIs (poi_stored debug starts letters t m at) b r left
    fetch-on b left r w =
        subst (λ (s : Res Point). PoiFetchIs (map_res (fetched_point (started_name starts t m)) s) b r left) (sym known.same) (w.each known.value known.shown (ids-are p.tag_ids known.value.tagged.ids ids-told) facts)
