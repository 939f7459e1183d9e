-- A way as a fetch tells of it from its place (crate fetched), for lists of given lengths.
use Rattle.std.specs.Prelude.{ℕ, ◌≤◌, Bool, ◌&&◌, cond, ◌≡◌, List, leb, length, Result}
use Rattle.parsing.specs.Parse.{Res, ok, no, and_then, map_res}
use Rattle.error.specs.declared.Lengths.{Lengths}
use Rattle.error.specs.declared.LentRefusal.{LentRefusal}
use Rattle.error.specs.declared.LentRefusal.TheVariants.{Short}
use Rattle.format.specs.WayData.{concat}
use Rattle.format.specs.Tile.{Head, head, Body, body}
use Rattle.types.specs.declared.TagRange.{TagRange}
use Rattle.tag_table.specs.Tables.{kinds_by}
use Rattle.tagged.specs.TagIds.{tag_ids}
use Rattle.way.specs.Way.{body_of}
use Rattle.way.specs.declared.WayBody.{WayBody}
use Rattle.way_head.specs.WayHead.{head_of}
use Rattle.way_head.specs.declared.WayHead.{WayHead}
use Rattle.way_lists.specs.declared.ListPlan.{ListPlan}
use Rattle.byte_source.specs.Answers.{lent_res}
use Rattle.fetched.specs.Fetched.{started_name, FetchLists, Fetched, fetched_way, needed_all}
use Rattle.fetched.specs.declared.FeatureTexts.{FeatureTexts}
use Rattle.fetched.specs.declared.FetchedWay.{FetchedWay}
use Rattle.feature_texts.specs.declared.TextParts.{TextParts}
use Rattle.measured_way.specs.declared.TextPlan.{TextPlan}
use Rattle.measured_way.specs.declared.MeasuredWay.{MeasuredWay}

-- the way at a place
abbrev pub way_stored : Bool → (starts letters : List ℕ) → TagRange → List ℕ → ℕ → Res (Fetched FetchedWay)
way_stored debug starts letters t m at = and_then (head debug (kinds_by letters t) m at) (λ h e. map_res (fetched_way (started_name starts t m) h) (body m e))

-- what the texts of a way are made of
abbrev pub way_parts : WayBody → TagRange → TextParts
way_parts b t = record { tags = t; name = b.name; house_number = b.house_number; reference = b.reference }

-- the same with what is to be written, its body starting at `e`
pub record Told : Type 0 where
  pub fetched : Fetched FetchedWay
  pub texts : TextPlan
  pub lists : ListPlan

abbrev pub told_of : (starts : List ℕ) → TagRange → List ℕ → Head → ℕ → Body → Told
told_of starts t m h e b = record {
  fetched = fetched_way (started_name starts t m) h b;
  texts = record { tag_ids = tag_ids h.tagged.ids; parts = way_parts (body_of b) t };
  lists = record { start = e; blocks = length (concat b.data_blocks) };
}

abbrev pub told_way : Bool → (starts letters : List ℕ) → TagRange → List ℕ → ℕ → Res Told
told_way debug starts letters t m at = and_then (head debug (kinds_by letters t) m at) (λ h e. map_res (told_of starts t m h e) (body m e))

-- lists of these lengths have room for what goes to them (`fits_all`)
abbrev pub fits_in : FetchLists → Lengths → Bool
fits_in v l =
    (leb (length v.lists.counts) l.list1 && leb (length v.lists.latitudes) l.list2 && leb (length v.lists.longitudes) l.list3)
    && leb (length v.initial_latitudes) l.list4 && leb (length v.initial_longitudes) l.list5 && leb (length v.buffer) l.buffer

-- 15, with every length needed, comes last
abbrev pub measured : Lengths → Res Told → Res Told
measured room (ok x n) = cond (fits_in x.fetched.values room) (ok x n) (no 15 (needed_all x.fetched.values))
measured room (no n v) = no n v

-- a way with its texts
abbrev pub way_with : WayHead → WayBody → FeatureTexts → FetchedWay
way_with h b t = record {
  signature = h.signature;
  bitmap = h.bitmap;
  layer = h.layer;
  tag_ids = h.tag_ids;
  texts = t;
  label_position = b.label_position;
  double_delta = b.double_delta;
  blocks = b.blocks;
  nodes = b.nodes;
  plain = h.plain && b.plain;
  head_plain = h.plain;
}

-- what is to be written of it
abbrev pub texts_with : WayHead → TextParts → TextPlan
texts_with h p = record { tag_ids = h.tag_ids; parts = p }

abbrev pub lists_with : WayBody → (start : ℕ) → ListPlan
lists_with b start = record { start = start; blocks = b.blocks }

-- what is handed out
abbrev pub shown_of : Told → MeasuredWay
shown_of x = record { way = x.fetched.value; texts = x.texts; lists = x.lists }

-- a way that is told, or is not, by what the definition says
abbrev pub ToldAs : Res Told → Result (MeasuredWay × ℕ) LentRefusal → Type 0
ToldAs stored r = lent_res r ≡ map_res shown_of stored

abbrev pub MeasuredIs : Bool → (starts letters : List ℕ) → TagRange → Lengths → List ℕ → (at : ℕ) → Result (MeasuredWay × ℕ) LentRefusal → Type 0
MeasuredIs debug starts letters t room m at r = ToldAs (measured room (told_way debug starts letters t m at)) r

-- What private functions test and tell, which need not be believed.
abbrev pub roomy : (blocks nodes texts : ℕ) → Lengths → Bool
roomy blocks nodes texts l = (leb blocks l.list1 && leb nodes l.list2 && leb nodes l.list3) && leb blocks l.list4 && leb blocks l.list5 && leb texts l.buffer

abbrev pub too_short : (blocks nodes texts : ℕ) → LentRefusal
too_short blocks nodes texts = Short (record { list1 = blocks; list2 = nodes; list3 = nodes; list4 = blocks; list5 = blocks; buffer = texts })

-- a way that was read, with this head, body and ids, its body from `start` to `next`
pub record WayTold (starts : List ℕ) (t : TagRange) (h : WayHead) (b : WayBody) (ids : List ℕ) (start next : ℕ) (room : Lengths) (m : List ℕ) (r : Result (MeasuredWay × ℕ) LentRefusal) : Type 0 where
  pub each : (s : Head) (d : Body) → h ≡ head_of s → ids ≡ s.tagged.ids → length ids ≤ 15 → b ≡ body_of d → body m start ≡ ok d next
      → ToldAs (measured room (ok (told_of starts t m s start d) next)) r

-- the rest of a way with this head and these ids
pub record BodyMeasured (starts : List ℕ) (t : TagRange) (h : WayHead) (ids : List ℕ) (start : ℕ) (room : Lengths) (m : List ℕ) (r : Result (MeasuredWay × ℕ) LentRefusal) : Type 0 where
  pub each : (s : Head) → h ≡ head_of s → ids ≡ s.tagged.ids → length ids ≤ 15 → ToldAs (measured room (map_res (told_of starts t m s start) (body m start))) r
