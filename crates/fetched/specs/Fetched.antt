-- A collected feature as it is fetched: document 01, tag.rs ("Behind the tags of a collected feature's ids come those keyed `name`,
-- `addr:housenumber` and `ref`, for the texts it has") and "The stream and the collected tile" (texts one behind the other in a
-- buffer, each maximal ill-formed part replaced; keys, values and hashes over the replaced text; a way's blocks and their initial
-- positions). `name_of` gives the stored bytes of a tag's name by its id.
use Rattle.std.specs.Prelude.{ℕ, Bool, ◌&&◌, List, [], ◌++◌, map, leb, Float, length, replicate, Option, Some, None, Result}
use Rattle.parsing.specs.Parse.{Res, ok, no, Part, Maybe, none, some, nth}
use Rattle.error.specs.Refusals.{lengths}
use Rattle.error.specs.declared.LentRefusal.{LentRefusal}
use Rattle.byte_source.specs.Answers.{lent_res}
use Rattle.arithmetic.specs.Cut.{cut}
use Rattle.text.specs.Utf8.{replaced}
use Rattle.tag.specs.Tag.{new_tag, tag_of, key_bytes}
use Rattle.tag.specs.declared.TextKey.{TextKey}
use Rattle.tag.specs.declared.TextKey.TheVariants.{Name, HouseNumber, Ref}
use Rattle.format.specs.Lent.{front, LentLists, Replied, fits, written, deliver_to}
use Rattle.format.specs.WayData.{concat, node_count}
use Rattle.format.specs.Nodes.{initial_latitudes, initial_longitudes}
use Rattle.format.specs.BodyLists.{body_lists}
use Rattle.format.specs.TagLists.{listed_text}
use Rattle.format.specs.Tile.{Point, Head, Body, double_delta}
use Rattle.types.specs.declared.TagRange.{TagRange}
use Rattle.types.specs.Types.{optional_span, node_position, optional_position}
use Rattle.tagged.specs.TagIds.{tag_ids}
use Rattle.poi.specs.Poi.{optional_elevation}
use Rattle.fetched.specs.declared.TagText.{TagText}
use Rattle.fetched.specs.declared.FeatureTexts.{FeatureTexts}
use Rattle.fetched.specs.declared.FetchedPoi.{FetchedPoi}
use Rattle.fetched.specs.declared.FetchedWay.{FetchedWay}

-- the name of an id: of a list of names, or the text at its listed start
abbrev pub part_bytes : Maybe Part → List ℕ
part_bytes none = []
part_bytes (some p) = p.bytes

abbrev pub listed_name : List Part → ℕ → List ℕ
listed_name names i = part_bytes (nth names i)

-- where no text stands, the name is empty; where lists were filled from the map by opening, every name is there
abbrev pub found_bytes : Res Part → List ℕ
found_bytes (ok p e) = p.bytes
found_bytes (no n v) = []

abbrev pub started_name : (starts : List ℕ) → TagRange → List ℕ → ℕ → List ℕ
started_name starts r m i = found_bytes (listed_text starts r.first r.count i m)

-- the strings of the tags with these ids, one behind the other, each replaced
abbrev pub id_texts : (ℕ → List ℕ) → List ℕ → List ℕ
id_texts name_of ids = concat (map (λ i. replaced (name_of i)) ids)

-- another text, replaced, if it is there
abbrev pub present : Maybe Part → List ℕ
present none = []
present (some p) = replaced p.bytes

-- what the buffer gets: the tags' strings in the order of the ids, then name, house number and reference
abbrev pub buffered : (ℕ → List ℕ) → List ℕ → (name house_number reference : Maybe Part) → List ℕ
buffered name_of ids n h r = id_texts name_of ids ++ present n ++ present h ++ present r

-- a tag's string in the buffer, and the tag; by its stored bytes
abbrev pub tag_string : List ℕ → TagText
tag_string s = record { len = cut (length (replaced s)); tag = tag_of s }

-- a feature's own text, and the tag that is made of it
abbrev pub keyed : TextKey → Maybe Part → Option TagText
keyed key none = None
keyed key (some p) = Some (record { len = cut (length (replaced p.bytes)); tag = new_tag (key_bytes key) (replaced p.bytes) })

-- what stands behind the last tag
abbrev pub no_text : TagText
no_text = record { len = 0; tag = record { key_len = 0; value_len = 0; key_code = 0; value_code = 0 } }

unfoldable pub filled_texts : List TagText → List TagText
filled_texts l = front l (replicate 15 no_text)

abbrev pub feature_texts : (ℕ → List ℕ) → List ℕ → (name house_number reference : Maybe Part) → FeatureTexts
feature_texts name_of ids n h r = record {
  tags = filled_texts (map (λ i. tag_string (name_of i)) ids);
  name = keyed Name n;
  house_number = keyed HouseNumber h;
  reference = keyed Ref r;
}

-- what a fetch is lent, and what goes there: a way's node counts, latitudes and longitudes, its blocks' initial latitudes and
-- longitudes, and the texts
pub record FetchLists : Type 0 where
  pub lists : LentLists
  pub initial_latitudes : List Float
  pub initial_longitudes : List Float
  pub buffer : List ℕ

-- a feature's record, and what goes to the lists
pub record Fetched (A : Type 0) : Type 0 where
  pub value : A
  pub values : FetchLists

abbrev pub poi_record : (ℕ → List ℕ) → Point → FetchedPoi
poi_record name_of p = record {
  signature = optional_span p.signature;
  position = node_position p.position;
  layer = p.tagged.layer;
  tag_ids = tag_ids p.tagged.ids;
  texts = feature_texts name_of p.tagged.ids p.name p.house_number none;
  elevation = optional_elevation p.elevation;
  plain = p.plain;
}

-- a point has no lists
abbrev pub poi_lists : (ℕ → List ℕ) → Point → FetchLists
poi_lists name_of p = record {
  lists = record { counts = []; latitudes = []; longitudes = [] };
  initial_latitudes = [];
  initial_longitudes = [];
  buffer = buffered name_of p.tagged.ids p.name p.house_number none;
}

abbrev pub fetched_point : (ℕ → List ℕ) → Point → Fetched FetchedPoi
fetched_point name_of p = record { value = poi_record name_of p; values = poi_lists name_of p }

abbrev pub way_record : (ℕ → List ℕ) → Head → Body → FetchedWay
way_record name_of h b = record {
  signature = optional_span h.signature;
  bitmap = h.bitmap;
  layer = h.tagged.layer;
  tag_ids = tag_ids h.tagged.ids;
  texts = feature_texts name_of h.tagged.ids b.fields.name b.fields.house_number b.fields.reference;
  label_position = optional_position b.fields.label;
  double_delta = double_delta b.fields;
  blocks = length (concat b.data_blocks);
  nodes = node_count (concat b.data_blocks);
  plain = h.plain && b.plain;
  head_plain = h.plain;
}

abbrev pub way_lists : (ℕ → List ℕ) → Head → Body → FetchLists
way_lists name_of h b = record {
  lists = body_lists b;
  initial_latitudes = initial_latitudes (concat b.data_blocks);
  initial_longitudes = initial_longitudes (concat b.data_blocks);
  buffer = buffered name_of h.tagged.ids b.fields.name b.fields.house_number b.fields.reference;
}

abbrev pub fetched_way : (ℕ → List ℕ) → Head → Body → Fetched FetchedWay
fetched_way name_of h b = record { value = way_record name_of h b; values = way_lists name_of h b }

-- no list and no buffer is shorter than what is to go to it
abbrev pub fits_all : (values lent : FetchLists) → Bool
fits_all v l =
    fits v.lists l.lists && leb (length v.initial_latitudes) (length l.initial_latitudes)
    && leb (length v.initial_longitudes) (length l.initial_longitudes) && leb (length v.buffer) (length l.buffer)

-- the values go to the fronts; what stands behind them keeps its value
abbrev pub written_all : (values lent : FetchLists) → FetchLists
written_all v l = record {
  lists = written v.lists l.lists;
  initial_latitudes = front v.initial_latitudes l.initial_latitudes;
  initial_longitudes = front v.initial_longitudes l.initial_longitudes;
  buffer = front v.buffer l.buffer;
}

-- the lengths that refusal 15 gives
abbrev pub needed_all : FetchLists → List ℕ
needed_all v =
    lengths (length v.lists.counts) (length v.lists.latitudes) (length v.lists.longitudes) (length v.initial_latitudes)
    (length v.initial_longitudes) (length v.buffer)

-- an answer, and the lists after the call
abbrev pub FetchReply : Type 0 → Type 0
FetchReply A = Replied FetchLists (Res A)

-- the feature with its lists written, or 15
abbrev pub deliver_all : {A : Type 0} → Res (Fetched A) → (lent : FetchLists) → FetchReply A
deliver_all r l = deliver_to (record { room = fits_all; put = written_all; need = needed_all }) (λ f. f.value) (λ f. f.values) r l

-- an answer of the code, with what the lists hold after the call
abbrev pub fetch_reply : {A : Type 0} → Result (A × ℕ) LentRefusal → (left : FetchLists) → FetchReply A
fetch_reply r left = record { answer = lent_res r; lists = left }
